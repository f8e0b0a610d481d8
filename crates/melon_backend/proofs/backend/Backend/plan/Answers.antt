use Rattle.std.proofs.Common.{◌≡◌, List, length, map, true, ap, sym, subst, ◌∙◌}
use Rattle.std.specs.List.{AllByRecursion}
use Rattle.std.proofs.lemmas.Result.{err_from_is_err_and}
use Rattle.melon_wire.specs.Keys.{are_apart}
use Rattle.melon_backend.specs.declared.named.Named.{Named}
use Rattle.melon_backend.specs.Pushing.{Naming, key_named, IsNowOf, named_plan, push_plan}
use Rattle.melon_backend.specs.Listing.{namings_seen, IsOfTable}
use Rattle.melon_backend.proofs.Records.{namings_declared, namings_now, namings_apart}
use Rattle.melon_backend.proofs.Planning.{push_refused, push_named, of_push, never_keeper}
use Rattle.melon_backend.proofs.backend.Backend.plan.Goals as goal

pub returns-in_err-named-clause-fault : goal.returns-in_err-named-clause-fault
returns-in_err-named-clause-fault c =
    let p = err_from_is_err_and c.from_residual.result c.from_residual.ensures.1 in
    let b = c.args.self.now in
    rw (p.1, p.2) (of_push (push_plan b c.args.last c.args.changes.now) c.in_err-named.field-0.0 (push_refused b c.args.last c.args.changes.now c.in_err-named.field-0.0 c.in_err-named.ensures.judged) (never_keeper b c.args.last c.args.changes.now))

pub planned-requires-clause-declared : goal.planned-requires-clause-declared
planned-requires-clause-declared c =
    let b = c.args.self.now in
    let same = ap (λ (named : List Named). namings_seen named) c.as_slice.ensures.value ∙ c.in_ok-named.ensures.named in
    subst (λ (ns : List Naming). AllByRecursion (IsOfTable (length b.schema.tables)) ns) (sym same) (namings_declared b.schema.tables b.rows c.args.changes.now)

pub planned-requires-clause-now : goal.planned-requires-clause-now
planned-requires-clause-now c =
    let b = c.args.self.now in
    let same = ap (λ (named : List Named). namings_seen named) c.as_slice.ensures.value ∙ c.in_ok-named.ensures.named in
    subst (λ (ns : List Naming). AllByRecursion (IsNowOf b.rows) ns) (sym same) (namings_now b.schema.tables b.rows c.args.changes.now)

pub planned-requires-clause-apart : goal.planned-requires-clause-apart
planned-requires-clause-apart c =
    let b = c.args.self.now in
    let same = ap (λ (named : List Named). namings_seen named) c.as_slice.ensures.value ∙ c.in_ok-named.ensures.named in
    subst (λ (ns : List Naming). are_apart (map key_named ns) ≡ true) (sym same) (namings_apart b.schema.tables b.rows c.args.changes.now c.requires)

pub returns-in_err-planned-clause-plan : goal.returns-in_err-planned-clause-plan
returns-in_err-planned-clause-plan c =
    let p = err_from_is_err_and c.from_residual-in_err-planned.result c.from_residual-in_err-planned.ensures.1 in
    let b = c.args.self.now in
    let same = ap (λ (named : List Named). namings_seen named) c.as_slice.ensures.value ∙ c.in_ok-named.ensures.named in
    let names = sym c.names_something.ensures ∙ c.if-not-names_something.false in
    rw (p.1, p.2) (λ other. push_named b c.args.last c.args.changes.now c.in_ok-named.ensures.judged names ∙ (ap (named_plan b) (sym same) ∙ c.in_err-planned.ensures.plan other))

pub returns-clause-plan : goal.returns-clause-plan
returns-clause-plan c =
    let b = c.args.self.now in
    let same = ap (λ (named : List Named). namings_seen named) c.as_slice.ensures.value ∙ c.in_ok-named.ensures.named in
    let names = sym c.names_something.ensures ∙ c.if-not-names_something.false in
    push_named b c.args.last c.args.changes.now c.in_ok-named.ensures.judged names ∙ (ap (named_plan b) (sym same) ∙ c.in_ok-planned.ensures.plan)
