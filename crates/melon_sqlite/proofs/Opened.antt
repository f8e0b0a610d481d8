-- A connection that was opened again.
use Rattle.std.proofs.Common.{◌≡◌, ◌⊎◌, inl, inr, ap, ◌≤◌, Bool, true, false, Result, Ok, Err, IfOk, OnOk, sym, ◌∙◌, subst, IsTrue, true≢false, refl, arith, ◌↔◌}
use Rattle.sqlite_trees.specs.declared.store.Store.{Ghosts}
use Rattle.sqlite_trees.specs.declared.store.Shape.TheVariants as shape
use Rattle.sqlite_trees.specs.Objects.{IsListed, catalog_tree}
use Rattle.sqlite_trees.specs.View.{View, IsOrdered, IsShaped, doubt}
use Rattle.sqlite_schema.specs.declared.schema.Schema.{Schema}
use Rattle.sqlite_schema.specs.declared.schema.Table.{Table}
use Rattle.sqlite_catalog.specs.Listing.{IsSound}
use Rattle.sqlite_catalog.proofs.ReadLemmas.{shaped_of}
use Rattle.sqlite_rules.specs.Lists.{Has}
use Rattle.sqlite_rules.proofs.ListLemmas.{all_has}
use Rattle.sqlite.specs.Effect.{Database}
use Rattle.sqlite.specs.Held.{Held, state}
use Rattle.sqlite.specs.State.{State, HasCleanDisk}
use Rattle.melon_outside.specs.Keeping.{Stores}
use Rattle.melon_sqlite.specs.Contents.{stores_in}
use Rattle.melon_sqlite.specs.Opening.{Keeps, KeepsRows, KeepsBoth, IsSettled, IsRenewed}
use Rattle.melon_sqlite.specs.Tables.{kept_schema, rows_table, values_table}
use Rattle.melon_sqlite.specs.Telling.{TellsIn, HoldsIn, Knows}
use Rattle.melon_sqlite.specs.Transactions.{Idle}

-- what is not broken is open
pub open_from : (is_open is_broken : Bool) → (is_open ≡ false → is_broken ≡ true) → is_broken ≡ false → is_open ≡ true
open_from true b shut whole = refl
open_from false b shut whole = absurd (true≢false (sym (shut refl) ∙ whole))

-- a table that the schema lists has the shape of one, so its rows are in order
pub orderly : (v : View) (schema : Schema) → IsOrdered v.shape v.trees → IsListed (v.trees catalog_tree) v.shape v.reals → IsSound schema v.trees
    → (t : Table) → Has schema.tables t → IsShaped shape.Table (v.trees t.tree)
orderly v schema ordered listed sound t there =
    let shaped = shaped_of v schema listed (subst (λ s. IsShaped s (v.trees catalog_tree)) listed.itself.0 (ordered catalog_tree)) sound.lists in
    subst (λ s. IsShaped s (v.trees t.tree)) (all_has _ schema.tables t shaped.tables there).0 (ordered t.tree)

pub both_kept : {E : Type 0} (r : Result (Unit {0}) E) (a b d : State) → ((m : Stores) → IsSettled a → Keeps a.now m → IsSettled b × (KeepsRows b.now m ⊎ KeepsBoth b.now m))
    → OnOk r ((m : Stores) → IsSettled b → KeepsRows b.now m ⊎ KeepsBoth b.now m → IsSettled d × KeepsBoth d.now m) → OnOk r ((m : Stores) → IsSettled a → Keeps a.now m → IsSettled d × KeepsBoth d.now m)
both_kept (Ok x) a b d first second = λ m S K. let s = first m S K in second m s.0 s.1
both_kept (Err e) a b d first second = tt

-- over exactly the two tables it is idle
pub renewed_idle : (old new : State) → IsRenewed old new → new.now.schema ≡ kept_schema → Idle new
renewed_idle old new R schema = record {
  kept = record {
    schema = schema;
    sound = (R.live R.opens.is_open).0;
    rows = R.ordered rows_table (subst (λ (s : Schema). Has s.tables rows_table) (sym schema) (inl refl));
    values = R.ordered values_table (subst (λ (s : Schema). Has s.tables values_table) (sym schema) (inr (inl refl)));
  };
  is_open = R.opens.is_open;
  outside = R.opens.autocommit;
  settled = sym R.opens.clean;
}

pub opened_holds : {S E : Type 0} (g : Ghosts S) (r : Result (Held S × Bool) E) (old mid : State)
    → IfOk r (λ x. HasCleanDisk (state g x.0) → (TellsIn x.1 (state g x.0)) ↔ ((state g x.0).now.schema ≡ kept_schema))
    → IfOk r (λ x. Knows x.1 (state g x.0)) → IfOk r (λ x. HasCleanDisk (state g x.0) → IsTrue mid.is_open × ((state g x.0).now ≡ mid.committed)) → IfOk r (λ x. doubt mid.is_clean ≤ doubt (state g x.0).is_clean)
    → (HasCleanDisk mid → IsTrue mid.is_open → (m : Stores) → Keeps old.committed m → KeepsBoth mid.committed m)
    → IfOk r (λ x. HasCleanDisk (state g x.0) → (m : Stores) → Keeps old.committed m → HoldsIn x.1 (state g x.0) m)
opened_holds {S} {E} g (Ok x) old mid tells knows found falls kept = λ clean m K.
    let f = found clean in
    let both = kept (omega (arith, falls, clean)) f.0 m K in
    let here : KeepsBoth (state g x.0).now m = subst (λ (d : Database). KeepsBoth d m) (sym f.1) both in
    let T = (tells clean).1 here.0 in
    (T, λ one. here.1 one ∙ sym (ap (λ (d : Database). stores_in d.trees one) (knows T).settled))
opened_holds {S} {E} g (Err e) old mid tells knows found falls kept = tt
