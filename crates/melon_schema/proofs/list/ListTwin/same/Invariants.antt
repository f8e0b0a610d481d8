use Rattle.std.proofs.Common.{◌≡◌, length, take}
use Rattle.melon_schema.proofs.list.ListTwin.same.Given as goal

abbrev pub invariant-loop-i : goal.invariant-loop-i
invariant-loop-i g l = (l.ours ≡ l.self) × (l.theirs ≡ l.other) × (length l.ours ≡ length l.theirs) × (take l.i l.ours ≡ take l.i l.theirs)
