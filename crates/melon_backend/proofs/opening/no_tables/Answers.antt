use Rattle.std.proofs.Common.{arith}
use Rattle.melon_backend.proofs.LaidOut.{rows_none}
use Rattle.melon_backend.proofs.opening.no_tables.Goals as goal

pub returns-clause-rows : goal.returns-clause-rows
returns-clause-rows c =
    rows_none c.loop-alloc.tables.items c.args.schema.now.tables c.loop-alloc.invariant.empty
    (omega (arith, c.loop-alloc-test.false, c.len-in-loop-alloc.ensures, c.len-in-loop-alloc-2.ensures, c.loop-alloc.invariant.within, c.loop-alloc.tables.ok))
