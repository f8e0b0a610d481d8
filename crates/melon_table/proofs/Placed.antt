-- What is read, put and removed at the place of an id.
use Rattle.std.proofs.Common.{◌≡◌, ℕ, suc, List, ◌∷◌, ◌++◌, take, drop, set, length, slice_get, Option, Some, None, Ok, Err, ◌<◌, true, sym, ap, ◌∙◌, add-one}
use Rattle.std.specs.List.{insert, remove}
use Rattle.std.proofs.lemmas.List.{take-append-drop, take-set, drop-set}
use Rattle.std.proofs.lemmas.Option.{slice_get_within}
use Rattle.melon_raw.specs.declared.raw.Raw.{Raw}
use Rattle.melon_raw.specs.Rows.{is_ascending, at_id, below, above, put_row, without_row}
use Rattle.melon_table.specs.Places.{IsPlace}
use Rattle.melon_table.proofs.Places.{Around, stands, goes}

set_is : (rows : List Raw) (place : ℕ) (row : Raw) → place < length rows → set rows place row ≡ take place rows ++ row ∷ drop (suc place) rows
set_is rows place row l =
    sym (take-append-drop place (set rows place row))
    ∙ ap (λ low. low ++ drop place (set rows place row)) (take-set rows place row)
    ∙ ap (λ high. take place rows ++ high) (drop-set rows place row l ∙ ap (λ (n : ℕ). row ∷ drop n rows) (add-one place))

joined : (id : List ℕ) (rows low high : List Raw) (here : Option Raw) → Around id rows low high here → low ++ high ≡ without_row id rows
joined id rows low high here h = sym (ap (λ xs. xs ++ above id rows) h.lower ∙ ap (λ xs. low ++ xs) h.higher)

joined_with : (row : Raw) (id : List ℕ) (rows low high : List Raw) (here : Option Raw) → row.id ≡ id → Around id rows low high here → low ++ row ∷ high ≡ put_row row rows
joined_with row id rows low high here same h =
    sym (ap (λ (i : List ℕ). below i rows ++ row ∷ above i rows) same ∙ (ap (λ xs. xs ++ row ∷ above id rows) h.lower ∙ ap (λ xs. low ++ row ∷ xs) h.higher))

module _ (id : List ℕ) (rows : List Raw) (place : ℕ) (asc : is_ascending rows ≡ true) (h : IsPlace id rows (Ok place)) where
  here : Around id rows (take place rows) (drop (suc place) rows) (Some h.0)
  here = stands id rows place h.0 asc h.1 h.2

  pub below_here : below id rows ≡ take place rows
  below_here = here.lower

  pub stands_within : place < length rows
  stands_within = slice_get_within rows place h.0 h.1

  -- the row that stands there
  pub found : (x : Raw) → slice_get rows place ≡ Some x → Some x ≡ at_id id rows
  found x e = sym e ∙ (h.1 ∙ sym here.found)

  pub removed : remove rows place ≡ without_row id rows
  removed = joined id rows _ _ _ here

  pub replaced : (row : Raw) → row.id ≡ id → set rows place row ≡ put_row row rows
  replaced row same = set_is rows place row (slice_get_within rows place h.0 h.1) ∙ joined_with row id rows _ _ _ same here

module _ (id : List ℕ) (rows : List Raw) (place : ℕ) (h : IsPlace id rows (Err place)) where
  there : Around id rows (take place rows) (drop place rows) None
  there = goes id rows place h.0 h.1 h.2

  pub below_there : below id rows ≡ take place rows
  below_there = there.lower

  pub absent : None ≡ at_id id rows
  absent = sym there.found

  pub unmoved : rows ≡ without_row id rows
  unmoved = sym (take-append-drop place rows) ∙ joined id rows _ _ _ there

  pub inserted : (row : Raw) → row.id ≡ id → insert rows place row ≡ put_row row rows
  inserted row same = joined_with row id rows _ _ _ same there
