use Rattle.std.proofs.Common.{◌+◌, ◌<◌, ◌≤◌, length, sym, arith}
use Rattle.std.proofs.lemmas.Option.{slice_get_within}
use Rattle.melon_table.specs.Dirty.{dirty_rows}
use Rattle.melon_push.proofs.Lists.{past_end}
use Rattle.melon_push.proofs.Growing.{row_more, all_rows, dirty_fewer}
use Rattle.melon_push.proofs.collecting.collect_table.Goals as goal

pub returns-in-None-clause-fetch : goal.returns-in-None-clause-fetch
returns-in-None-clause-fetch g c = let rows = c.args.rows.now.rows in
    all_rows c.args.fetch.now c.loop-i.fetch c.args.table c.loop-i.i rows (past_end (dirty_rows rows) c.loop-i.i (sym c.in-None.ensures.row)) c.loop-i.invariant.0

pub loop-i-preserved : goal.loop-i-preserved
loop-i-preserved g c =
    let rows = c.args.rows.now.rows in
    let i = c.loop-i.i in
    let here = sym c.in-Some.ensures.row in
    let within : i < length (dirty_rows rows) = slice_get_within (dirty_rows rows) i c.in-Some.row.now here in (
      row_more c.args.fetch.now c.loop-i.fetch c.collect_row.new.fetch c.args.table i (dirty_rows rows) c.in-Some.row.now here c.loop-i.invariant.0 c.in_ok-collect_row-in-Some.ensures,
      omega (arith, c.in-Some.ensures.cost, c.loop-i.invariant.1),
      omega (arith, within),
    )

pub returns-clause-fetch : goal.returns-clause-fetch
returns-clause-fetch g c = let rows = c.args.rows.now.rows in
    all_rows c.args.fetch.now c.loop-i.fetch c.args.table c.loop-i.i rows (omega (arith, dirty_fewer rows, c.len-i-end.ensures.len, c.loop-i-test.false)) c.loop-i.invariant.0
