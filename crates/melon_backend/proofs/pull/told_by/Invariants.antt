use Rattle.std.proofs.Common.{◌≡◌, map, take}
use Rattle.melon_log.specs.Pulled.{field_at}
use Rattle.melon_backend.proofs.pull.told_by.Given as goal

abbrev pub invariant-loop-c : goal.invariant-loop-c
invariant-loop-c l = l.fields ≡ map (field_at l.columns l.row.cells) (take l.c-index l.order)
