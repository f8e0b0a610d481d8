use Rattle.std.proofs.Common.{◌≡◌, map, filter, take}
use Rattle.melon_query.specs.Shown.{shown_row}
use Rattle.melon_views.specs.Members.{chooses}
use Rattle.melon_observe.proofs.simple.members_counted.Given as goal

abbrev pub invariant-loop-i : goal.invariant-loop-i
invariant-loop-i g l = l.members.items ≡ map (shown_row l.columns) (filter (chooses l.query.conds) (take l.i l.table.rows))
