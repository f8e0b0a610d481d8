use Rattle.std.proofs.Common.{◌≡◌, ◌∙◌, List, ℕ, sym, ap, subst, Result}
use Rattle.melon_schema.specs.Faults.{Gives}
use Rattle.melon_query.specs.declared.query.Cond.{Cond}
use Rattle.melon_query.specs.declared.query_fault.QueryFault.{QueryFault}
use Rattle.melon_query.specs.declared.query_fault.QueryFault.TheVariants.{Memory}
use Rattle.melon_query.specs.declared.cond_form.CondForm.{CondForm}
use Rattle.melon_query.specs.Setting.{names_of}
use Rattle.melon_query.specs.Reading.{cond_in, on_in}
use Rattle.melon_query.proofs.Readings.{cond_in-On}
use Rattle.melon_query.proofs.resolve.+reading.Goals as goal

pub cond_in-returns-in-On : goal.cond_in-returns-in-On
cond_in-returns-in-On t c =
    let names = names_of c.args.setting in
    let whole : cond_in names c.args.form.now c.args.columns.now c.args.reach ≡ on_in names c.as_str.result.now c.args.reach c.as_slice-in-On.result.now =
    ap (λ (f : CondForm). cond_in names f c.args.columns.now c.args.reach) c.in-On.is
    ∙ cond_in-On names c.args.columns.now c.args.reach c.in-On.table c.in-On.conds
    ∙ sym (ap (λ (table : List ℕ). on_in names table c.args.reach c.in-On.conds) c.as_str.ensures)
    ∙ sym (ap (λ (parts : List CondForm). on_in names c.as_str.result.now c.args.reach parts) c.as_slice-in-On.ensures) in
    subst (λ (x : Result Cond QueryFault). Gives Memory c.on_in.result x) (sym whole) c.on_in.ensures
