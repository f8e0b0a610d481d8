use Rattle.std.proofs.Common.{map, arith}
use Rattle.melon_backend.specs.Inside.{rows_in}
use Rattle.melon_backend.specs.Pulling.{touched_row}
use Rattle.melon_backend.proofs.Touching.{found_more, found_end, ordered_more}
use Rattle.melon_backend.proofs.pull.found_after.Goals as goal

pub returns-then-stamp-t-clause-found : goal.returns-then-stamp-t-clause-found
returns-then-stamp-t-clause-found c =
    found_end (rows_in c.args.table.now) c.args.t c.in-Some.stamp.now c.next.new.self c.loop-stamp.stamp-iterator c.in-Some.ensures.steps (map touched_row c.loop-stamp.found.items) _ c.loop-stamp.invariant.found
    c.loop-stamp.invariant.ordered c.if-stamp-t.true

pub loop-stamp-preserved : goal.loop-stamp-preserved
loop-stamp-preserved c =
    let old = map touched_row c.loop-stamp.found.items in
    let next = c.in-Some.ensures.steps in
    record {
      found = found_more (rows_in c.args.table.now) c.args.t c.in-Some.stamp.now c.next.new.self c.loop-stamp.stamp-iterator next old _ c.loop-stamp.invariant.found (omega (arith, c.if-stamp-t.false)) (map touched_row c.push_fresh.new.found.items) c.in_ok-push_fresh.ensures;
      ordered = ordered_more (rows_in c.args.table.now) c.args.t c.in-Some.stamp.now c.next.new.self c.loop-stamp.stamp-iterator next old _ c.loop-stamp.invariant.found c.loop-stamp.invariant.ordered;
      whole = c.loop-stamp.invariant.whole;
    }
