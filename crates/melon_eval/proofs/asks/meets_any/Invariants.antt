use Rattle.std.proofs.Common.{◌≡◌, drop, Some}
use Rattle.melon_eval.specs.Seen.{seen_asks}
use Rattle.melon_eval.specs.Asking.{meets_any}
use Rattle.melon_eval.proofs.asks.meets_any.Given as goal

abbrev pub invariant-loop-ask : goal.invariant-loop-ask
invariant-loop-ask l = meets_any (seen_asks (drop l.ask-index l.asks)) l.table (Some l.row) ≡ meets_any (seen_asks l.asks) l.table (Some l.row)
