use Rattle.std.proofs.Common.{◌≡◌, ◌++◌, drop}
use Rattle.melon_eval.specs.Asking.{asks_of}
use Rattle.melon_eval.specs.Seen.{seen_asks}
use Rattle.melon_eval.proofs.asks.+asking.Given as goal

abbrev pub invariant-add_all_asks-loop-cond : goal.invariant-add_all_asks-loop-cond
invariant-add_all_asks-loop-cond l = seen_asks l.asks.items ++ asks_of (drop l.cond-index l.conds) ≡ seen_asks l.fn.asks.items ++ asks_of l.fn.conds
