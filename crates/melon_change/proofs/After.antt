-- The row of a record after a change, and after a change set.
use Rattle.std.proofs.Common.{◌≡◌, ◌≢◌, ℕ, ◌<◌, List, [], ◌∷◌, length, get_or, Bool, true, false, Option, Some, None, refl, sym, ap, ◌∙◌, subst, eqb}
use Rattle.std.proofs.lemmas.Bool.Decides.{Decides-eqb, not_from_Decides}
use Rattle.std.proofs.lemmas.List.{get_or-set_same, get_or-set_other, length-set}
use Rattle.melon_schema.specs.declared.schema.TableSchema.{TableSchema}
use Rattle.melon_raw.specs.declared.raw.Raw.{Raw}
use Rattle.melon_raw.specs.Rows.{Key, is_key, Rows, at_id, at, put_row, without_row}
use Rattle.melon_table.proofs.Order.{split, apart_bytes}
use Rattle.melon_table.proofs.ById.{at_id-put_same, at_id-put_other, at_id-without_same, at_id-without_other}
use Rattle.melon_change.specs.declared.change.Change.{Change}
use Rattle.melon_change.specs.declared.history.Origin.{Origin}
use Rattle.melon_change.specs.Changes.{with_after, key_of, change_of, after_change, after_set}
use Rattle.melon_change.specs.History.{KeepsId, IsChange, AreChanges}
use Rattle.melon_change.proofs.Same.{is_key_same}

-- ---- one table

pub at_with_same : (id : List ℕ) (after : Option Raw) (rows : List Raw) → KeepsId id after → at_id id (with_after id after rows) ≡ after
at_with_same id None rows k = at_id-without_same id rows
at_with_same id (Some row) rows k = subst (λ (i : List ℕ). at_id i (put_row row rows) ≡ Some row) k (at_id-put_same row rows)

pub at_with_other : (gone id : List ℕ) (after : Option Raw) (rows : List Raw) → KeepsId gone after → id ≢ gone → at_id id (with_after gone after rows) ≡ at_id id rows
at_with_other gone id None rows k h = at_id-without_other gone id rows h
at_with_other gone id (Some row) rows k h = at_id-put_other row id rows (λ e. h (e ∙ k))

-- ---- one change

pub at_changed : (rows : Rows) (c : Change) → c.table < length rows → KeepsId c.id c.after → at (after_change rows c) (key_of c) ≡ c.after
at_changed rows c h k = ap (λ t. at_id c.id t) (get_or-set_same rows c.table _ [] h) ∙ at_with_same c.id c.after _ k

pub at_unchanged : (rows : Rows) (c : Change) (y : Key) → c.table < length rows → KeepsId c.id c.after → is_key y (key_of c) ≡ false → at (after_change rows c) y ≡ at rows y
at_unchanged rows c y h k apart = by (eqb y.table c.table) refl
  where
    by : (b : Bool) → eqb y.table c.table ≡ b → at (after_change rows c) y ≡ at rows y
    by true e =
        let same : y.table ≡ c.table = (Decides-eqb y.table c.table).0 e in
        let ids : y.id ≢ c.id = apart_bytes _ _ (rw e at apart) in
        ap (λ i. at_id y.id (get_or (after_change rows c) i [])) same ∙ (ap (λ t. at_id y.id t) (get_or-set_same rows c.table _ [] h) ∙ (at_with_other c.id y.id c.after _ k ids ∙ ap (λ i. at_id y.id (get_or rows i [])) (sym same)))
    by false e = ap (λ t. at_id y.id t) (get_or-set_other rows c.table y.table _ [] (not_from_Decides _ (Decides-eqb y.table c.table) e))

-- ---- a change set

-- each change is of a declared table and keeps the id, and no record is named twice
abbrev pub AreApart : ℕ → List Change → Type 0
AreApart n [] = Unit {0}
AreApart n (c ∷ cs) = (c.table < n) × KeepsId c.id c.after × (change_of (key_of c) cs ≡ None) × AreApart n cs

abbrev pub after_of : Option Change → Option Raw → Option Raw
after_of None before = before
after_of (Some c) before = c.after

-- the row of y is the after of its change, or as it was
pub at_after : (rows : Rows) (cs : List Change) (y : Key) → AreApart (length rows) cs → at (after_set rows cs) y ≡ after_of (change_of y cs) (at rows y)
at_after rows [] y h = refl
at_after rows (c ∷ cs) y h =
    let longer : AreApart (length (after_change rows c)) cs = subst (λ n. AreApart n cs) (sym (length-set rows c.table _)) h.3 in
    at_after (after_change rows c) cs y longer ∙ by (is_key y (key_of c)) refl
  where
    by : (b : Bool) → is_key y (key_of c) ≡ b → after_of (change_of y cs) (at (after_change rows c) y) ≡ after_of (change_of y (c ∷ cs)) (at rows y)
    by true e =
        let same : y ≡ key_of c = is_key_same _ _ e in
        let none : change_of y cs ≡ None = subst (λ k. change_of k cs ≡ None) (sym same) h.2 in
        let now : at (after_change rows c) y ≡ c.after = subst (λ k. at (after_change rows c) k ≡ c.after) (sym same) (at_changed rows c h.0 h.1) in
        rw e (rw none now)
    by false e = rw e (ap (after_of (change_of y cs)) (at_unchanged rows c y h.0 h.1 e))

pub length_after : (rows : Rows) (cs : List Change) → length (after_set rows cs) ≡ length rows
length_after rows [] = refl
length_after rows (c ∷ cs) = length_after (after_change rows c) cs ∙ length-set rows c.table _

pub apart_from_changes : (schema : List TableSchema) (rows : Rows) (origin : Origin) (cs : List Change) → AreChanges schema rows origin cs → AreApart (length rows) cs
apart_from_changes schema rows origin [] h = tt
apart_from_changes schema rows origin (c ∷ cs) h = (h.0.declared, h.0.keeps_id, h.1, apart_from_changes schema rows origin cs h.2)

pub some_same : {A : Type 0} (a b : A) → Some a ≡ Some b → a ≡ b
some_same a b e = cc

-- the change of x that a change set has is one of the rows now
pub change_found : (schema : List TableSchema) (rows : Rows) (origin : Origin) (x : Key) (c : Change) (cs : List Change) → AreChanges schema rows origin cs → change_of x cs ≡ Some c → IsChange schema rows origin c × (key_of c ≡ x)
change_found schema rows origin x c [] h f = absurd (none_some f)
  where
    none_some : None ≡ Some c → ⊥
    none_some e = cc
change_found schema rows origin x c (d ∷ cs) h f =
    let ih : change_of x cs ≡ Some c → IsChange schema rows origin c × (key_of c ≡ x) = change_found schema rows origin x c cs h.2 in
    split (is_key x (key_of d)) (λ e. subst (λ c'. IsChange schema rows origin c' × (key_of c' ≡ x)) (some_same d c (rw e at f)) (h.0, sym (is_key_same _ _ e))) (λ e. ih (rw e at f))
