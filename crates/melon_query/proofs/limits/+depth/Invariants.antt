use Rattle.std.proofs.Common.{◌≡◌, drop}
use Rattle.melon_query.specs.Limits.{all_have_room}
use Rattle.melon_query.proofs.limits.+depth.Given as goal

abbrev pub invariant-all_have_room-loop-part : goal.invariant-all_have_room-loop-part
invariant-all_have_room-loop-part l = all_have_room (drop l.part-index l.parts) l.left ≡ all_have_room l.fn.parts l.left
