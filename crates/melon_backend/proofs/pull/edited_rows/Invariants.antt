use Rattle.std.proofs.Common.{◌≡◌, ◌++◌, map, filter, drop}
use Rattle.melon_log.specs.Pulled.{is_edited}
use Rattle.melon_backend.specs.Pulling.{touched_row, told_by}
use Rattle.melon_backend.proofs.pull.edited_rows.Given as goal

abbrev pub invariant-loop-one : goal.invariant-loop-one
invariant-loop-one l = l.rows ++ map (told_by l.columns l.order) (filter (is_edited l.t) (map touched_row (drop l.one-index l.found))) ≡ map (told_by l.columns l.order) (filter (is_edited l.t) (map touched_row l.found))
