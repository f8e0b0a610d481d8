use Rattle.std.proofs.Common.{◌≡◌, map, take}
use Rattle.melon_wire.specs.Sent.{field_of}
use Rattle.melon_push.proofs.sending.remote_by.Given as goal

abbrev pub invariant-loop-c : goal.invariant-loop-c
invariant-loop-c l = l.fields ≡ map (field_of l.columns l.row) (take l.c-index l.order)
