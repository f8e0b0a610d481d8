use Rattle.std.proofs.Common.{◌≤◌, ◌+◌, ◌-◌, vec_len, take}
use Rattle.melon_outside.specs.Moves.{Takes}
use Rattle.melon_outside.proofs.source.read_all.Given as goal

abbrev pub invariant-loop-filled : goal.invariant-loop-filled
invariant-loop-filled g l =
    let left = g.S.Source.left in let faults = g.S.Source.faults in
    record {
      filled : l.filled ≤ vec_len l.bytes;
      within : vec_len l.bytes ≤ l.most + 1;
      front : Takes (left l.fn.source) (left l.source) (take l.filled l.bytes.items);
      later : faults l.fn.source ≤ faults l.source;
    }

abbrev pub decreases-loop-filled : goal.decreases-loop-filled
decreases-loop-filled g l = l.most + 1 - l.filled
