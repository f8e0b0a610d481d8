use Rattle.std.proofs.Common.{◌≡◌, length, ◌-◌, ◌≤◌, take}
use Rattle.melon_outside.specs.Moves.{Grows}
use Rattle.melon_outside.proofs.duplex.send_all.Given as goal

abbrev pub invariant-loop-done : goal.invariant-loop-done
invariant-loop-done g l =
    let written = g.C.Duplex.written in let faults = g.C.Duplex.faults in
    record {
      within : l.done ≤ length l.bytes;
      front : Grows (written l.fn.conn) (written l.conn) (take l.done l.bytes);
      kept : g.C.Duplex.left l.conn ≡ g.C.Duplex.left l.fn.conn;
      later : faults l.fn.conn ≤ faults l.conn;
      sound : g.C.Duplex.sound l.fn.conn → g.C.Duplex.sound l.conn;
    }

abbrev pub decreases-loop-done : goal.decreases-loop-done
decreases-loop-done g l = length l.bytes - l.done
