use Rattle.std.proofs.Common.{[], ◌∷◌, subst, ◌∙◌, w64, rules}
use Rattle.std.proofs.lemmas.Int.{to_z-of_z}
use Rattle.sqlite_value.specs.declared.value.Value.TheVariants.{Int, Text}
use Rattle.sqlite.specs.State.{Executes, Survives, CommitsBy}
use Rattle.sqlite.specs.Held.{state}
use Rattle.melon_sqlite.specs.Tables.{put_value_text}
use Rattle.melon_sqlite.proofs.PutsValue.{does_put_value}
use Rattle.melon_sqlite.proofs.statements.put_value.Goals as goal

pub returns-clause-does : goal.returns-clause-does
returns-clause-does g c clean =
    let old = state g.S.Store c.args.conn.now in
    let new = state g.S.Store c.put_signed.new.conn in
    does_put_value old new c.args.store.now c.args.name.now c.args.number c.put_signed.result
    (subst (λ z. Executes put_value_text (Text c.args.store.now ∷ Text c.args.name.now ∷ Int z ∷ []) old new c.put_signed.result) (to_z-of_z w64 c.signed.result (search rules) ∙ c.signed.ensures) (c.put_signed.ensures.runs clean))

pub returns-clause-survives : goal.returns-clause-survives
returns-clause-survives g c =
    let old = state g.S.Store c.args.conn.now in
    let new = state g.S.Store c.put_signed.new.conn in
    subst (λ z. Survives old new (CommitsBy put_value_text (Text c.args.store.now ∷ Text c.args.name.now ∷ Int z ∷ []) old)) (to_z-of_z w64 c.signed.result (search rules) ∙ c.signed.ensures) c.put_signed.ensures.survives
