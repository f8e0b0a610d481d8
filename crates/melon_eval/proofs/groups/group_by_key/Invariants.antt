use Rattle.std.proofs.Common.{◌≡◌, ℕ, List, [], take, filter}
use Rattle.melon_eval.specs.Offers.{kept_rows}
use Rattle.melon_eval.specs.Seen.{seen_asks}
use Rattle.melon_eval.specs.Grouped.{group_of, is_keyed}
use Rattle.melon_eval.proofs.groups.group_by_key.Given as goal

abbrev pub invariant-loop-i : goal.invariant-loop-i
invariant-loop-i g l = (id : List ℕ) → group_of l.groups id ≡ kept_rows (seen_asks l.asks) l.table [] (filter (is_keyed l.place id) (take l.i l.rows.rows))
