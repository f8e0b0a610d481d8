-- Rows that are kept one after another.
use Rattle.std.proofs.Common.{◌≡◌, ℕ, ◌+◌, List, [], ◌∷◌, ◌++◌, take, filter, Bool, true, false, cond, Option, Some, slice_get, bytes_eq, ap, sym, ◌∙◌, refl}
use Rattle.std.proofs.lemmas.List.Elements.{filter-append}
use Rattle.melon_raw.specs.declared.raw.Raw.{Raw}
use Rattle.melon_eval.specs.Asking.{Asked}
use Rattle.std.specs.Borrow.{Bor}
use Rattle.std.specs.HashMap.{HashMap, get_by}
use Rattle.std.specs.Map.{lookup}
use Rattle.melon_table.proofs.Order.{same_bytes}
use Rattle.melon_eval.specs.declared.groups.Group.{Group}
use Rattle.melon_eval.specs.Grouped.{group_rows, rows_under, group_of}
use Rattle.melon_eval.specs.Offers.{with_kept, with_row, kept_rows}
use Rattle.melon_eval.proofs.Steps.{taken_at}

module _ (asks : List Asked) (table : ℕ) where
  pub kept_rows-append : (kept xs ys : List Raw) → kept_rows asks table kept (xs ++ ys) ≡ kept_rows asks table (kept_rows asks table kept xs) ys
  unfolding kept_rows
  kept_rows-append kept [] ys = refl
  kept_rows-append kept (x ∷ xs) ys = kept_rows-append (with_row asks table kept x) xs ys

  pub kept_none : (kept : List Raw) → kept ≡ kept_rows asks table kept []
  unfolding kept_rows
  kept_none kept = refl

  one_more : (kept : List Raw) (row : Raw) (b : Bool) → cond b (with_row asks table kept row) kept ≡ kept_rows asks table kept (cond b (row ∷ []) [])
  unfolding kept_rows
  one_more kept row true = refl
  one_more kept row false = refl

  pub kept_more : (test : Raw → Bool) (rows : List Raw) (i : ℕ) (row : Raw) (old new : List Raw) → slice_get rows i ≡ Some row
      → new ≡ cond (test row) (with_row asks table old row) old → old ≡ kept_rows asks table [] (filter test (take i rows)) → new ≡ kept_rows asks table [] (filter test (take (i + 1) rows))
  kept_more test rows i row old new here added was =
      added ∙ one_more old row (test row) ∙ ap (λ kept. kept_rows asks table kept (cond (test row) (row ∷ []) [])) was
      ∙ sym (ap (λ rs. kept_rows asks table [] (filter test rs)) (taken_at rows i row here) ∙ ap (kept_rows asks table []) (filter-append test (take i rows) (row ∷ [])) ∙ kept_rows-append [] (filter test (take i rows)) (filter test (row ∷ [])))

-- ---- one row more under a key

module _ (asks : List Asked) (table : ℕ) {S : Type 0} (m n : HashMap (Bor (List ℕ)) Group S) (key : List ℕ) (new : Group) (row : Raw)
    (updates : (cs : List ℕ) → get_by (λ k. bytes_eq cs k.now) n ≡ cond (bytes_eq key cs) (Some new) (get_by (λ k. bytes_eq cs k.now) m)) where
  abbrev Added : List ℕ → Bool → Type 0
  Added id b = group_of n id ≡ cond b (with_kept asks table (group_of m id) row) (group_of m id)

  added_by : (before : Option Group) → get_by (λ k. bytes_eq key k.now) m ≡ before → group_rows new ≡ with_kept asks table (rows_under before) row → (id : List ℕ) (b : Bool) → bytes_eq key id ≡ b → Added id b
  added_by before at grown id true e =
      ap rows_under (updates id ∙ ap (λ t. cond t (Some new) (get_by (λ k. bytes_eq id k.now) m)) e) ∙ grown
      ∙ ap (λ rows. with_kept asks table rows row) (ap rows_under (sym at) ∙ ap (λ (i : List ℕ). rows_under (get_by (λ k. bytes_eq i k.now) m)) (same_bytes key id e))
  added_by before at grown id false e = ap rows_under (updates id ∙ ap (λ t. cond t (Some new) (get_by (λ k. bytes_eq id k.now) m)) e)

  pub added_under : (before : Option Group) → get_by (λ k. bytes_eq key k.now) m ≡ before → group_rows new ≡ with_kept asks table (rows_under before) row → (id : List ℕ) → Added id (bytes_eq key id)
  added_under before at grown id = added_by before at grown id (bytes_eq key id) refl

pub nothing_under : {S : Type 0} (m : HashMap (Bor (List ℕ)) Group S) (id : List ℕ) → m.entries ≡ [] → [] ≡ group_of m id
nothing_under m id e = sym (ap (λ es. rows_under (lookup (λ (k : Bor (List ℕ)). bytes_eq id k.now) es)) e)
