use Rattle.std.proofs.Common.{◌≡◌, Some, Ok, true, sym, ap, ◌∙◌}
use Rattle.melon_query.specs.declared.query.Query.{Query}
use Rattle.melon_query.specs.Fresh.{fresh}
use Rattle.melon_query.specs.Sound.{is_well_formed}
use Rattle.melon_relation.specs.Relations.{child_key}
use Rattle.melon_relation.proofs.Answered.{told_answered, told_sound}
use Rattle.melon_relation.proofs.offspring.children.Goals as goal

pub returns-clause-answer : goal.returns-clause-answer
returns-clause-answer c = λ rows asc.
    let found : child_key c.args.schema.now.tables c.args.table c.args.to ≡ Some c.in-Some.column = sym c.child_key.ensures ∙ c.in-Some.is in
    told_answered c.args.schema.now.tables rows c.args.table c.args.id.now c.args.to c.in-Some.column found asc
    ∙ ap (λ (q : Query). Ok (fresh q rows)) (sym c.in_ok-query_by.ensures)

pub returns-clause-sound : goal.returns-clause-sound
returns-clause-sound c =
    let found : child_key c.args.schema.now.tables c.args.table c.args.to ≡ Some c.in-Some.column = sym c.child_key.ensures ∙ c.in-Some.is in
    ap (is_well_formed c.args.schema.now.tables) c.in_ok-query_by.ensures
    ∙ told_sound c.args.schema.now.tables c.args.table c.args.id.now c.args.to c.in-Some.column found
