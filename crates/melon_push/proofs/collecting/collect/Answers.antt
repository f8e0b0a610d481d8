use Rattle.std.proofs.Common.{◌≡◌, ◌+◌, ℕ, length, true, sym, ap, ◌∙◌, subst, arith}
use Rattle.melon_table.specs.Seen.{rows_of}
use Rattle.melon_wire.specs.declared.fetch.Fetch.{Fetch}
use Rattle.melon_wire.specs.Collected.{collected, IsFetch, is_within}
use Rattle.melon_push.proofs.Tabled.{rows_length, more_collected, more_kept, more_steps, steps_within, collected_all, steps_all, collected_form}
use Rattle.melon_push.proofs.collecting.collect.Goals as goal

pub returns-in_err-collect_table-clause-cost : goal.returns-in_err-collect_table-clause-cost
returns-in_err-collect_table-clause-cost g c = steps_within c.args.tables.now c.loop-table.table c.of.result.now c.of.ensures c.args.steps.now c.loop-table.steps c.collect_table.new.steps c.loop-table.invariant.1 c.collect_table.ensures.cost

pub loop-table-preserved : goal.loop-table-preserved
loop-table-preserved g c =
    let tables = c.args.tables.now in
    let i = c.loop-table.table in
    let t = c.of.result.now in (
      more_collected tables i t c.of.ensures c.loop-table.fetch c.collect_table.new.fetch c.loop-table.invariant.0 c.in_ok-collect_table.ensures.fetch,
      more_steps tables i t c.of.ensures c.args.steps.now c.loop-table.steps c.collect_table.new.steps c.loop-table.invariant.1 c.collect_table.ensures.cost,
      more_kept tables i t c.of.ensures c.loop-table.invariant.2 c.collect_table.ensures.kept,
    )

pub returns-clause-fetch : goal.returns-clause-fetch
returns-clause-fetch g c =
    let same : c.loop-table.table ≡ length c.args.tables.now = omega (arith, c.len-table-end.ensures, c.loop-table-test.false, c.loop-table.auto.table-end) in
    collected_all c.args.tables.now c.loop-table.table c.loop-table.fetch same c.loop-table.invariant.0

pub returns-clause-form : goal.returns-clause-form
returns-clause-form g c =
    let same : c.loop-table.table ≡ length c.args.tables.now = omega (arith, c.len-table-end.ensures, c.loop-table-test.false, c.loop-table.auto.table-end) in
    subst IsFetch (sym (returns-clause-fetch g c)) (collected_form c.args.tables.now c.loop-table.table same c.loop-table.invariant.2).form

pub returns-clause-within : goal.returns-clause-within
returns-clause-within g c =
    let same : c.loop-table.table ≡ length c.args.tables.now = omega (arith, c.len-table-end.ensures, c.loop-table-test.false, c.loop-table.auto.table-end) in
    ap (is_within (length c.args.tables.now)) (returns-clause-fetch g c)
    ∙ (ap (λ (n : ℕ). is_within n (collected (rows_of c.args.tables.now))) (sym (rows_length c.args.tables.now)) ∙ (collected_form c.args.tables.now c.loop-table.table same c.loop-table.invariant.2).within)

pub returns-clause-cost : goal.returns-clause-cost
returns-clause-cost g c =
    let same : c.loop-table.table ≡ length c.args.tables.now = omega (arith, c.len-table-end.ensures, c.loop-table-test.false, c.loop-table.auto.table-end) in
    steps_all c.args.tables.now c.loop-table.table c.args.steps.now c.loop-table.steps same c.loop-table.invariant.1
