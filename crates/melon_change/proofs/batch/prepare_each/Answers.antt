use Rattle.std.proofs.Common.{◌≡◌, ℕ, ◌+◌, List, length, Ok, Err, sym, ap, ◌∙◌, subst}
use Rattle.std.specs.Vec.Iter.{into_iter_items}
use Rattle.std.proofs.lemmas.Result.{err_from_is_err_and}
use Rattle.melon_schema.specs.Faults.{Fails}
use Rattle.melon_table.specs.Seen.{rows_of}
use Rattle.melon_change.specs.declared.change.Change.{Change}
use Rattle.melon_change.specs.declared.rule.BatchFault.TheVariants.{Memory}
use Rattle.melon_change.specs.Rules.{told_as}
use Rattle.melon_change.specs.Batch.{change_by}
use Rattle.melon_change.specs.Named.{is_named}
use Rattle.melon_change.proofs.Batches.{Prepared, at_fault, at_more}
use Rattle.melon_change.proofs.batch.prepare_each.Goals as goal

pub returns-in_err-prepare_op : goal.returns-in_err-prepare_op
returns-in_err-prepare_op c =
    let p = err_from_is_err_and c.from_residual-in_err-prepare_op.result c.from_residual-in_err-prepare_op.ensures.1 in
    let schema = c.args.schema.now.tables in
    let rows = rows_of c.args.tables.now in
    let named = is_named c.loop-op.named.items in
    let fault = c.in_err-prepare_op.field-0.0 in
    let told = subst (λ (n : ℕ). Fails Memory fault (told_as (n + 1) c.in-Some.op (change_by schema rows named c.in-Some.op))) c.len-in-loop-op.ensures c.in_err-prepare_op.ensures.change in
    rw (p.1, p.2) (at_fault schema rows c.args.ops named c.loop-op.changes (into_iter_items c.loop-op.op-iterator) c.loop-op.invariant.0 c.in-Some.op (into_iter_items c.next.new.self) c.in-Some.ensures.steps.0 fault told)

pub loop-op-preserved : goal.loop-op-preserved
loop-op-preserved c =
    let schema = c.args.schema.now.tables in
    let rows = rows_of c.args.tables.now in
    let named = is_named c.loop-op.named.items in
    let change = c.in_ok-prepare_op.field-0 in
    let told = subst (λ (n : ℕ). told_as (n + 1) c.in-Some.op (change_by schema rows named c.in-Some.op) ≡ Ok change) c.len-in-loop-op.ensures c.in_ok-prepare_op.ensures.change in
    let more = at_more schema rows c.args.ops named c.loop-op.changes (into_iter_items c.loop-op.op-iterator) c.loop-op.invariant.0 c.in-Some.op (into_iter_items c.next.new.self) c.in-Some.ensures.steps.0
    change (is_named c.prepare_op.new.named.items) told c.in_ok-prepare_op.ensures.names in
    (subst (λ (made : List Change). Prepared schema rows c.args.ops (is_named c.prepare_op.new.named.items) made (into_iter_items c.next.new.self)) (sym c.in_ok-push.ensures.ok) more, c.in_ok-prepare_op.ensures.len ∙ c.loop-op.invariant.1)
