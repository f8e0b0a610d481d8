use Rattle.std.proofs.Common.{◌≡◌, ◌+◌, List, sym, subst, ◌∙◌, arith}
use Rattle.melon_table.specs.Seen.{SeenTable}
use Rattle.melon_table.proofs.Empty.{Made, made_more, made_none, made_all}
use Rattle.melon_table.proofs.tables.Tables.new.Goals as goal

pub loop-place-init : goal.loop-place-init
loop-place-init c = (subst (λ (ts : List SeenTable). Made c.args.schema.now.tables ts 0) (sym c.new-tables.ensures) (made_none c.args.schema.now.tables), c.len-place-end.ensures)

pub loop-place-preserved : goal.loop-place-preserved
loop-place-preserved c =
    let copied : c.in_ok-columns.columns ≡ c.as_slice.result.now = c.in_ok-columns.ensures in (
      subst (λ (ts : List SeenTable). Made c.args.schema.now.tables ts (c.loop-place.place + 1)) (sym c.in_ok-push.ensures.ok)
          (made_more c.args.schema.now.tables c.loop-place.tables c.loop-place.place c.at.result.now c.new.result c.at.ensures.value (c.new.ensures.columns ∙ (copied ∙ c.as_slice.ensures)) c.new.ensures.rows c.loop-place.invariant.0),
      c.len-place-end.ensures,
    )

pub returns-clause-columns : goal.returns-clause-columns
returns-clause-columns c = (made_all c.args.schema.now.tables c.loop-place.tables c.loop-place.place (omega (arith, c.loop-place.invariant.1)) c.loop-place.invariant.0).0

pub returns-clause-rows : goal.returns-clause-rows
returns-clause-rows c = (made_all c.args.schema.now.tables c.loop-place.tables c.loop-place.place (omega (arith, c.loop-place.invariant.1)) c.loop-place.invariant.0).1
