-- A watch that was opened on a store.
use Rattle.std.proofs.Common.{◌≡◌, ℕ, List, [], ◌∷◌, ◌++◌, length, sym, arith}
use Rattle.std.specs.Prelude.{Result, Ok, Err}
use Rattle.melon_schema.specs.Faults.{◌>>=◌}
use Rattle.melon_relation.specs.declared.fault.RelationFault.{RelationFault}
use Rattle.melon_relation.specs.declared.relation.Relation.{Relation}
use Rattle.melon_relation.specs.Relations.{related}
use Rattle.melon_relation.specs.Watching.{Watched}
use Rattle.melon_script.specs.declared.item.Given.{Given}
use Rattle.melon_script.specs.declared.item.Item.TheVariants as items
use Rattle.melon_machine.specs.State.{KeptApp, kept_app, kept_observer, Owns, as_kept}
use Rattle.melon_machine.specs.Apps.{told, watches_by}
use Rattle.melon_world.specs.Handled.{shown_of, watch_shown}

pub watch_told : (name observer : List ℕ) (app : KeptApp) (table : ℕ) (id : List ℕ) (to : ℕ) (opened : Watched) (given : Given) → watch_shown app.store table id to ≡ Ok (opened, given)
    → told (kept_app app.store app.queue (app.observers ++ kept_observer observer (Owns opened) ∷ [])) (items.Emit name observer (length app.store.entries) given)
    ≡ watches_by as_kept name observer app (related app.store.schema.tables app.store.rows table id to)
watch_told name observer app table id to opened given h = by (related app.store.schema.tables app.store.rows table id to) h
  where
    pair_is : {A E : Type 0} {a b : A} → ◌≡◌ {A = Result A E} (Ok a) (Ok b) → a ≡ b
    pair_is e = grind (arith, e)

    by : (r : Result Relation RelationFault) → (r >>= λ r. Ok (shown_of app.store r)) ≡ Ok (opened, given)
        → told (kept_app app.store app.queue (app.observers ++ kept_observer observer (Owns opened) ∷ [])) (items.Emit name observer (length app.store.entries) given) ≡ watches_by as_kept name observer app r
    by (Ok r) h =
        let same : (opened, given) ≡ shown_of app.store r = sym (pair_is h) in
        λ i. told (kept_app app.store app.queue (app.observers ++ kept_observer observer (Owns (same i).0) ∷ [])) (items.Emit name observer (length app.store.entries) (same i).1)
    by (Err e) h = absurd (grind (arith, h))
