use Rattle.std.proofs.Common.{◌≡◌, List, true, nat_le, length, Ok, ap, sym, subst, ◌∙◌, arith}
use Rattle.std.specs.List.{AllByRecursion}
use Rattle.std.proofs.lemmas.Bool.Decides.{nat_tests}
use Rattle.std.proofs.lemmas.Result.{err_from_is_err_and}
use Rattle.melon_schema.specs.Faults.{Fails}
use Rattle.melon_log.specs.declared.fault.PushFault.TheVariants.{Memory}
use Rattle.melon_log.specs.ServerRows.{at}
use Rattle.melon_log.specs.Verdict.{judged}
use Rattle.melon_backend.specs.declared.named.Named.{Named}
use Rattle.melon_backend.specs.declared.table.ServerTable.{ServerTable}
use Rattle.melon_backend.specs.Backends.{SeenBackend}
use Rattle.melon_backend.specs.Inside.{tables_rows}
use Rattle.melon_backend.specs.Listing.{namings_seen, all_namings, IsOfTable}
use Rattle.melon_backend.specs.Pushing.{Naming, namings}
use Rattle.melon_backend.proofs.Records.{namings_are, namings_declared}
use Rattle.melon_backend.proofs.Planning.{named_err, named_ok}
use Rattle.melon_backend.proofs.backend.Backend.judged.Goals as goal

pub refuse_named-requires : goal.refuse_named-requires
refuse_named-requires c =
    let inside = c.self.inside in
    let rows = tables_rows inside.tables.items in
    let all = c.in_ok-named.ensures.named ∙ (ap (λ (ts : List ServerTable). all_namings inside.schema.tables (tables_rows ts) c.args.changes.now.tables) c.as_slice.ensures.value ∙ namings_are inside.schema.tables rows c.args.changes.now c.requires) in
    subst (λ (ns : List Naming). AllByRecursion (IsOfTable (length inside.schema.tables)) ns) (sym (ap (λ (named : List Named). namings_seen named) c.as_slice-2.ensures.value ∙ all)) (namings_declared inside.schema.tables rows c.args.changes.now)

pub returns-in_err-refuse_named-clause-judged : goal.returns-in_err-refuse_named-clause-judged
returns-in_err-refuse_named-clause-judged c =
    let p = err_from_is_err_and c.from_residual-in_err-refuse_named.result c.from_residual-in_err-refuse_named.ensures.1 in
    let inside = c.self.inside in
    let rows = tables_rows inside.tables.items in
    let all = c.in_ok-named.ensures.named ∙ (ap (λ (ts : List ServerTable). all_namings inside.schema.tables (tables_rows ts) c.args.changes.now.tables) c.as_slice.ensures.value ∙ namings_are inside.schema.tables rows c.args.changes.now c.requires) in
    let past : nat_le c.args.last inside.revision ≡ true = grind (arith, nat_tests, c.if-last-self.false) in
    let ns = namings_seen c.as_slice-2.result.now in
    let is = ap (λ (named : List Named). namings_seen named) c.as_slice-2.ensures.value ∙ all in
    rw (p.1, p.2) (subst (λ (b : SeenBackend). Fails Memory c.in_err-refuse_named.field-0.0 (judged b.schema.tables b.revision (at b.rows) c.args.last c.args.changes.now)) c.self.view_is
    (named_err inside.schema.tables inside.revision rows c.args.last c.args.changes.now past c.in_ok-refuse_unknown.ensures c.in_ok-named.ensures.once ns is c.in_err-refuse_named.field-0.0 c.in_err-refuse_named.ensures))

pub returns-clause-judged : goal.returns-clause-judged
returns-clause-judged c =
    let inside = c.self.inside in
    let rows = tables_rows inside.tables.items in
    let all = c.in_ok-named.ensures.named ∙ (ap (λ (ts : List ServerTable). all_namings inside.schema.tables (tables_rows ts) c.args.changes.now.tables) c.as_slice.ensures.value ∙ namings_are inside.schema.tables rows c.args.changes.now c.requires) in
    let past : nat_le c.args.last inside.revision ≡ true = grind (arith, nat_tests, c.if-last-self.false) in
    let ns = namings_seen c.as_slice-2.result.now in
    let is = ap (λ (named : List Named). namings_seen named) c.as_slice-2.ensures.value ∙ all in
    subst (λ (b : SeenBackend). judged b.schema.tables b.revision (at b.rows) c.args.last c.args.changes.now ≡ Ok tt) c.self.view_is
    (named_ok inside.schema.tables inside.revision rows c.args.last c.args.changes.now past c.in_ok-refuse_unknown.ensures c.in_ok-named.ensures.once ns is c.in_ok-refuse_named.ensures)

pub returns-clause-named : goal.returns-clause-named
returns-clause-named c =
    let inside = c.self.inside in
    let rows = tables_rows inside.tables.items in
    let all = c.in_ok-named.ensures.named ∙ (ap (λ (ts : List ServerTable). all_namings inside.schema.tables (tables_rows ts) c.args.changes.now.tables) c.as_slice.ensures.value ∙ namings_are inside.schema.tables rows c.args.changes.now c.requires) in
    all ∙ ap (λ (b : SeenBackend). namings b.schema.tables b.rows c.args.changes.now) c.self.view_is
