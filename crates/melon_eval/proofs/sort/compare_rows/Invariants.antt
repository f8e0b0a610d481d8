use Rattle.std.proofs.Common.{◌≡◌, drop}
use Rattle.melon_query.specs.Order.{row_cmp}
use Rattle.melon_eval.proofs.sort.compare_rows.Given as goal

abbrev pub invariant-loop-key : goal.invariant-loop-key
invariant-loop-key l = row_cmp (drop l.key-index l.keys) l.a l.b ≡ row_cmp l.keys l.a l.b
