use Rattle.std.proofs.Common.{◌≤◌, ◌+◌, length}
use Rattle.melon_outside.specs.SeenKeeper.{Later}
use Rattle.melon_cli.proofs.Progress.{Progress}
use Rattle.melon_cli.proofs.lines.run_lines.Given as goal

abbrev pub invariant-loop-rest : goal.invariant-loop-rest
invariant-loop-rest g l =
    let written = g.W.Sink.written in
    record {
      progress : Progress l.script (g.K.Keeper.seen l.fn.keeper) (g.K.Keeper.seen l.keeper) (written l.fn.output) (written l.output) l.pending.items l.world l.rest l.number;
      counted : l.number + length l.rest ≤ length l.script;
      keeper_later : Later (g.K.Keeper.seen l.fn.keeper) (g.K.Keeper.seen l.keeper);
      output_later : g.W.Sink.faults l.fn.output ≤ g.W.Sink.faults l.output;
    }

abbrev pub decreases-loop-rest : goal.decreases-loop-rest
decreases-loop-rest g l = length l.rest
