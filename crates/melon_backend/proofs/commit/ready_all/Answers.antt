use Rattle.std.proofs.Common.{ap, take, ◌∙◌}
use Rattle.melon_outside.proofs.Steps.{take_next}
use Rattle.melon_backend.specs.Drafts.{are_ready}
use Rattle.melon_backend.proofs.Committing.{within_at, ready_more}
use Rattle.melon_backend.proofs.commit.ready_all.Goals as goal

pub ready_at-requires-clause-within : goal.ready_at-requires-clause-within
ready_at-requires-clause-within c = within_at _ c.args.puts.now c.loop-put.put-index c.put-item.result c.loop-put.invariant.long c.requires.within c.loop-put-test.true c.put-item.is

pub loop-put-preserved : goal.loop-put-preserved
loop-put-preserved c = record {
  kept = c.in_ok-ready_at.ensures.kept;
  long = c.in_ok-ready_at.ensures.long ∙ c.loop-put.invariant.long;
  rows = c.in_ok-ready_at.ensures.rows ∙ c.loop-put.invariant.rows;
  ready =
      ap (are_ready c.ready_at.new.tables.items) (take_next c.args.puts.now c.loop-put.put-index c.put-item.result c.loop-put-test.true c.put-item.is)
      ∙ ready_more (take c.loop-put.put-index c.args.puts.now) c.put-item.result c.loop-put.tables.items c.ready_at.new.tables.items c.in_ok-ready_at.ensures.keeps c.loop-put.invariant.ready c.in_ok-ready_at.ensures.ready;
}
