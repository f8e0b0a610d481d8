use Rattle.std.proofs.Common.{◌≡◌, drop, Some}
use Rattle.melon_eval.specs.Seen.{seen_asks}
use Rattle.melon_eval.specs.Asking.{is_below}
use Rattle.melon_eval.proofs.asks.is_below.Given as goal

abbrev pub invariant-loop-ask : goal.invariant-loop-ask
invariant-loop-ask l = is_below (seen_asks (drop l.ask-index l.asks)) l.table (Some l.row) (Some l.other) ≡ is_below (seen_asks l.asks) l.table (Some l.row) (Some l.other)
