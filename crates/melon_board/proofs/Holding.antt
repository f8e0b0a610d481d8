-- What the keeper holds under a store's name stays what the store has.
use Rattle.std.proofs.Common.{◌≡◌, List, ℕ, true, length, Option, Some, None, Result, Ok, Err, refl, ap, sym, subst, ◌∙◌}
use Rattle.std.proofs.lemmas.List.{length-map}
use Rattle.melon_schema.specs.Seen.{SeenSchema}
use Rattle.melon_schema.specs.Sound.{IsSoundSchema}
use Rattle.melon_schema.specs.declared.schema.ColumnSchema.{ColumnSchema}
use Rattle.melon_schema.specs.declared.schema.TableSchema.{TableSchema}
use Rattle.melon_table.specs.Seen.{SeenTable, rows_of}
use Rattle.melon_outside.specs.declared.kept.Kept.{Kept}
use Rattle.melon_outside.specs.declared.kept.KeptBatch.{KeptBatch}
use Rattle.melon_outside.specs.declared.kept.OpenFault.{OpenFault}
use Rattle.melon_outside.specs.Keeping.{Stores, AreSame}
use Rattle.melon_outside.specs.SeenKeeper.{SeenKeeper}
use Rattle.melon_outside.specs.Asking.{IsDone, IsOver}
use Rattle.melon_board.specs.declared.store.Store.TheInside.{Inside}
use Rattle.melon_board.specs.Stores.{SeenStore, store_key}
use Rattle.melon_board.specs.Plans.{Plan, asked}
use Rattle.melon_board.specs.Opening.{open_plan, opened}
use Rattle.melon_board.specs.Keeps.{Keeps}
use Rattle.melon_board.specs.Lasting.{IsWellFormed, kept_after}
use Rattle.melon_board.specs.Inside.{store_in, IsSummed}
use Rattle.melon_board.specs.Carried.{HoldsStore, Opens}
use Rattle.melon_board.proofs.Reopened.{open_plan-is, opens_kept}

-- every open store is well-formed
formed_inside : (s : Inside) → IsSummed s → IsWellFormed (store_in s)
formed_inside s sums = record {
  names = sums.sound.names;
  tables = length-map s.board.tables (λ (t : SeenTable). t.rows) ∙ (sym (length-map s.board.tables (λ (t : SeenTable). t.columns)) ∙ (ap (length {A = List ColumnSchema}) sums.columns ∙ length-map s.schema.tables (λ (t : TableSchema). t.columns)));
  rows = sums.kept;
}

pub formed : (s : Inside) (store : SeenStore) → store_in s ≡ store → IsSummed s → IsWellFormed store
formed s store view sums = subst IsWellFormed view (formed_inside s sums)

-- what is kept after a batch, or where nothing was asked
after_done : (batch : Option KeptBatch) (key : List ℕ) (was m : Stores) → IsDone batch key was m → m key ≡ kept_after batch (was key)
after_done None key was m same = same key
after_done (Some batch) key was m done = done.0

-- what was asked is done
pub holds_ok : (before now : SeenKeeper) (store after : SeenStore) (batch : Option KeptBatch) → after.name ≡ store.name → ((kept : Kept) → Keeps store kept → Keeps after (kept_after batch kept))
    → ((m : Stores) → now.holds m → (was : Stores) × before.holds was × IsDone batch (store_key store.name) was m) → HoldsStore before store → HoldsStore now after
holds_ok before now store after batch name keeps done held m told =
    let d = done m told in
    subst (λ (n : List ℕ). Keeps after (m (store_key n))) (sym name) (subst (Keeps after) (sym (after_done batch (store_key store.name) d.0 m d.2)) (keeps (d.0 (store_key store.name)) (held d.0 d.1)))

-- nothing was done
pub holds_err : (before now : SeenKeeper) (store left : SeenStore) → left ≡ store → ((m : Stores) → now.holds m → (was : Stores) × before.holds was × AreSame m was) → HoldsStore before store → HoldsStore now left
holds_err before now store left same kept held m told =
    let k = kept m told in subst (λ (s : SeenStore). Keeps s (m (store_key s.name))) (sym same) (subst (Keeps store) (sym (k.2 (store_key store.name))) (held k.0 k.1))

-- an opened store has the name that it was opened by
opened_name : (name : List ℕ) (schema : SeenSchema) (kept : Kept) (plan : Plan) → open_plan name schema kept ≡ Ok plan → plan.after.name ≡ name
opened_name name schema kept plan h = ap (λ (p : Plan). p.after.name) (sym (open_plan-is name schema kept plan h).is)

pub holds_opened : (before now : SeenKeeper) (name : List ℕ) (schema : SeenSchema) (store : SeenStore) → IsSoundSchema schema → Opens before now name schema (Ok store) → HoldsStore now store
holds_opened before now name schema store sound opens m told =
    let kept = opens.0 in
    let batch = asked (open_plan name schema kept) in
    let plan : Plan = record { batch = batch; after = store } in
    let t = opens.2.told m told in
    let keeps : Keeps store (kept_after batch kept) = (opens_kept name schema kept plan sound.names opens.2.ordered opens.1).keeps in
    let is : m (store_key name) ≡ kept_after batch kept = after_done batch (store_key name) t.0 m t.3 ∙ ap (kept_after batch) (sym t.2) in
    subst (λ (n : List ℕ). Keeps store (m (store_key n))) (sym (opened_name name schema kept plan opens.1)) (subst (Keeps store) (sym is) keeps)
