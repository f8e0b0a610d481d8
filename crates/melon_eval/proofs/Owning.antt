-- The row that a key of the main row names.
use Rattle.std.proofs.Common.{◌≡◌, ℕ, ℤ, List, [], ◌∷◌, filter, find, Bool, true, false, ◌&&◌, cond, Option, Some, None, bytes_eq, ap, sym, ◌∙◌, refl}
use Rattle.std.specs.List.{list_all}
use Rattle.std.specs.Option.{option_to_list}
use Rattle.melon_raw.specs.declared.raw.Raw.{Raw}
use Rattle.melon_raw.specs.declared.datum.Datum.{Datum}
use Rattle.melon_raw.specs.declared.datum.Datum.TheVariants.{Null, Words, Whole, Truth}
use Rattle.melon_raw.specs.Order.{is_below}
use Rattle.melon_raw.specs.Rows.{is_visible, is_ascending, at_id}
use Rattle.melon_query.specs.Tuples.{names, or_absent}
use Rattle.melon_table.proofs.Order.{split, same_bytes, bytes_same, bytes_apart, apart_bytes, not_below_self, and_left, and_right, filter_none}
use Rattle.melon_eval.specs.Asking.{Asked, meets_any, is_below as is_met_by}
use Rattle.melon_eval.specs.Offers.{with_row, kept_rows}

-- a visible row whose id the value names
abbrev pub is_named : Datum → Raw → Bool
is_named value row = is_visible row.status && names value row.id

-- the row, where it is visible
abbrev pub visible_of : Option Raw → List Raw
visible_of None = []
visible_of (Some row) = cond (is_visible row.status) (row ∷ []) []

and_true : (a : Bool) → a && true ≡ a
and_true true = refl
and_true false = refl

and_false : (a : Bool) → a && false ≡ false
and_false true = refl
and_false false = refl

turned : (a b : List ℕ) → bytes_eq a b ≡ false → bytes_eq b a ≡ false
turned a b e = bytes_apart b a (λ same. apart_bytes a b e (sym same))

-- no id but the first is the first's
others_apart : (r : Raw) (rs : List Raw) (id : List ℕ) → r.id ≡ id → list_all (λ x. is_below r.id x.id) rs ≡ true → filter (is_named (Words id)) rs ≡ []
others_apart r rs id same all = filter_none (λ x. is_below r.id x.id) (is_named (Words id)) rs all (λ x less. ap (λ b. is_visible x.status && b) (apart x less) ∙ and_false (is_visible x.status))
  where
    apart : (x : Raw) → is_below r.id x.id ≡ true → bytes_eq id x.id ≡ false
    apart x less = bytes_apart id x.id (λ e. let no : false ≡ true = sym (not_below_self r.id) ∙ ap (λ i. is_below r.id i) (same ∙ e) ∙ less in cc)

found_by : (r : Raw) (rs : List Raw) (id : List ℕ) (o : Option Raw) → is_ascending (r ∷ rs) ≡ true → (b : Bool) → bytes_eq r.id id ≡ b → cond b (Some r) (at_id id rs) ≡ o → (at_id id rs ≡ o → filter (is_named (Words id)) rs ≡ visible_of o)
    → cond (is_visible r.status && bytes_eq id r.id) (r ∷ filter (is_named (Words id)) rs) (filter (is_named (Words id)) rs) ≡ visible_of o
found_by r rs id o asc true e at later =
    let same = same_bytes r.id id e in
    ap (λ b. cond (is_visible r.status && b) (r ∷ filter (is_named (Words id)) rs) (filter (is_named (Words id)) rs)) (bytes_same id r.id (sym same))
    ∙ ap (λ b. cond b (r ∷ filter (is_named (Words id)) rs) (filter (is_named (Words id)) rs)) (and_true (is_visible r.status))
    ∙ ap (λ kept. cond (is_visible r.status) (r ∷ kept) kept) (others_apart r rs id same (and_left (list_all (λ x. is_below r.id x.id) rs) _ asc))
    ∙ ap visible_of at
found_by r rs id o asc false e at later =
    ap (λ b. cond (is_visible r.status && b) (r ∷ filter (is_named (Words id)) rs) (filter (is_named (Words id)) rs)) (turned r.id id e)
    ∙ ap (λ b. cond b (r ∷ filter (is_named (Words id)) rs) (filter (is_named (Words id)) rs)) (and_false (is_visible r.status))
    ∙ later at

-- of rows that ascend a key names the row that is found by it
pub found_is : (rows : List Raw) (id : List ℕ) (o : Option Raw) → is_ascending rows ≡ true → at_id id rows ≡ o → filter (is_named (Words id)) rows ≡ visible_of o
found_is [] id o asc at = ap visible_of at
found_is (r ∷ rs) id o asc at = found_by r rs id o asc (bytes_eq r.id id) refl at (found_is rs id o (and_right (list_all (λ x. is_below r.id x.id) rs) _ asc))

-- what is no text names none
none_named : (value : Datum) → ((id : List ℕ) → names value id ≡ false) → (rows : List Raw) → filter (is_named value) rows ≡ []
none_named value none [] = refl
none_named value none (r ∷ rs) =
    ap (λ b. cond b (r ∷ filter (is_named value) rs) (filter (is_named value) rs)) (ap (λ b. is_visible r.status && b) (none r.id) ∙ and_false (is_visible r.status)) ∙ none_named value none rs

pub null_names_none : (value : Datum) → value ≡ Null → (rows : List Raw) → [] ≡ filter (is_named value) rows
null_names_none value e rows = sym (none_named value (λ id. ap (λ v. names v id) e) rows)

pub whole_names_none : (value : Datum) (z : ℤ) → value ≡ Whole z → (rows : List Raw) → [] ≡ filter (is_named value) rows
whole_names_none value z e rows = sym (none_named value (λ id. ap (λ v. names v id) e) rows)

pub truth_names_none : (value : Datum) (b : Bool) → value ≡ Truth b → (rows : List Raw) → [] ≡ filter (is_named value) rows
truth_names_none value b e rows = sym (none_named value (λ id. ap (λ v. names v id) e) rows)

-- one row is kept where an `on` is true of it
pub one_kept : (asks : List Asked) (table : ℕ) (row : Raw) (rows : List Raw) (b : Bool) → row ∷ [] ≡ rows → b ≡ meets_any asks table (Some row) → cond b (row ∷ []) [] ≡ kept_rows asks table [] rows
unfolding kept_rows
one_kept asks table row rows true is e = ap (λ m. cond m (row ∷ []) []) e ∙ ap (kept_rows asks table []) is
one_kept asks table row rows false is e = ap (λ m. cond m (row ∷ []) []) e ∙ ap (kept_rows asks table []) is

pub none_kept : (asks : List Asked) (table : ℕ) (rows : List Raw) → [] ≡ rows → [] ≡ kept_rows asks table [] rows
unfolding kept_rows
none_kept asks table rows is = ap (kept_rows asks table []) is

pub or_one : (o : Option Raw) → o ∷ [] ≡ or_absent (option_to_list o)
or_one None = refl
or_one (Some row) = refl
