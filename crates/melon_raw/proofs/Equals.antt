-- Rows that compare as the same are equal.
use Rattle.std.proofs.Common.{◌≡◌, ℕ, List, [], ◌∷◌, Bool, true, false, ◌&&◌, Option, Some, None, refl, sym, ap, ◌∙◌, eqb, ◌==◌, bytes_eq, ◌↔◌, IsTrue}
use Rattle.std.specs.Cmp.Lexicographic.{pointwise}
use Rattle.std.proofs.lemmas.Bool.{and_parts, and_from, both_ways}
use Rattle.std.proofs.lemmas.Bool.Decides.{Decides-eqb, Decides-int_eq, same_from_decides}
use Rattle.std.proofs.lemmas.Slice.Eq.{bytes_eq-Decides}
use Rattle.melon_raw.specs.declared.datum.Datum.{Datum}
use Rattle.melon_raw.specs.declared.datum.Datum.TheVariants.{Null, Words, Whole, Truth}
use Rattle.melon_raw.specs.declared.raw.Status.{Status}
use Rattle.melon_raw.specs.declared.raw.Status.TheVariants.{Created, Updated, Deleted, Synced}
use Rattle.melon_raw.specs.declared.raw.Raw.{Raw}
use Rattle.melon_raw.specs.Datum.{datum_eq}
use Rattle.melon_raw.specs.Same.{status_eq, row_eq, is_same}

pub not_true : {P : Type 0} → false ≡ true → P
not_true e = absurd (both_ways false refl e)

datum_same : (a b : Datum) → datum_eq a b ≡ true → a ≡ b
datum_same Null Null h = refl
datum_same (Words a) (Words b) h = ap Words ((bytes_eq-Decides a b).0 h)
datum_same (Whole a) (Whole b) h = ap Whole ((Decides-int_eq a b).0 h)
datum_same (Truth true) (Truth true) h = refl
datum_same (Truth true) (Truth false) h = not_true h
datum_same (Truth false) (Truth true) h = not_true h
datum_same (Truth false) (Truth false) h = refl
datum_same a b h = not_true h

datum_eq_refl : (d : Datum) → datum_eq d d ≡ true
datum_eq_refl Null = refl
datum_eq_refl (Words t) = (bytes_eq-Decides t t).1 refl
datum_eq_refl (Whole z) = (Decides-int_eq z z).1 refl
datum_eq_refl (Truth true) = refl
datum_eq_refl (Truth false) = refl

pub status_same : (a b : Status) → status_eq a b ≡ true → a ≡ b
status_same Created Created h = refl
status_same Updated Updated h = refl
status_same Deleted Deleted h = refl
status_same Synced Synced h = refl
status_same a b h = not_true h

pub status_eq_refl : (s : Status) → status_eq s s ≡ true
status_eq_refl Created = refl
status_eq_refl Updated = refl
status_eq_refl Deleted = refl
status_eq_refl Synced = refl

lists_same : {A : Type 0} (eq : A → A → Bool) → ((a b : A) → eq a b ≡ true → a ≡ b) → (xs ys : List A) → pointwise eq xs ys ≡ true → xs ≡ ys
lists_same eq each [] [] h = refl
lists_same eq each [] (y ∷ ys) h = not_true h
lists_same eq each (x ∷ xs) [] h = not_true h
lists_same eq each (x ∷ xs) (y ∷ ys) h =
    let parts : (eq x y ≡ true) × (pointwise eq xs ys ≡ true) = and_parts (eq x y) (pointwise eq xs ys) h in
    let ih : xs ≡ ys = lists_same eq each xs ys parts.1 in
    λ i. each x y parts.0 i ∷ ih i

lists_refl : {A : Type 0} (eq : A → A → Bool) → ((a : A) → eq a a ≡ true) → (xs : List A) → pointwise eq xs xs ≡ true
lists_refl eq each [] = refl
lists_refl eq each (x ∷ xs) = and_from (eq x x) (pointwise eq xs xs) (each x) (lists_refl eq each xs)

pub row_path : (a b : Raw) → a.id ≡ b.id → a.status ≡ b.status → a.marks ≡ b.marks → a.cells ≡ b.cells → a ≡ b
row_path a b p q r s = λ i. record { id = p i; status = q i; marks = r i; cells = s i }

abbrev same_marks : Raw → Raw → Bool
same_marks a b = pointwise (λ m n. m == n) a.marks b.marks

abbrev same_cells : Raw → Raw → Bool
same_cells a b = pointwise datum_eq a.cells b.cells

pub row_same : (a b : Raw) → row_eq a b ≡ true → a ≡ b
row_same a b h =
    let p : (_ ≡ true) × (_ ≡ true) = and_parts _ (status_eq a.status b.status && (same_marks a b && same_cells a b)) h in
    let q : (_ ≡ true) × (_ ≡ true) = and_parts (status_eq a.status b.status) (same_marks a b && same_cells a b) p.1 in
    let r : (_ ≡ true) × (_ ≡ true) = and_parts (same_marks a b) (same_cells a b) q.1 in
    row_path a b ((bytes_eq-Decides a.id b.id).0 p.0) (status_same _ _ q.0) (lists_same (λ m n. m == n) (λ m n e. (Decides-eqb m n).0 e) _ _ r.0) (lists_same datum_eq datum_same _ _ r.1)

pub row_eq_refl : (r : Raw) → row_eq r r ≡ true
row_eq_refl r = and_from (bytes_eq r.id r.id) (status_eq r.status r.status && (same_marks r r && same_cells r r)) ((bytes_eq-Decides r.id r.id).1 refl)
    (and_from (status_eq r.status r.status) (same_marks r r && same_cells r r) (status_eq_refl r.status)
    (and_from (same_marks r r) (same_cells r r) (lists_refl (λ m n. m == n) (λ m. (Decides-eqb m m).1 refl) r.marks) (lists_refl datum_eq datum_eq_refl r.cells)))

-- what tells whether two rows are equal is this test
pub row_eq_tells : (a b : Raw) (told : Bool) → (IsTrue told ↔ (a ≡ b)) → told ≡ row_eq a b
row_eq_tells a b told tells = same_from_decides told (row_eq a b) tells (row_same a b, λ e. ap (row_eq a) (sym e) ∙ row_eq_refl a)

pub same_rows : (a b : Option Raw) → is_same a b ≡ true → a ≡ b
same_rows None None h = refl
same_rows (Some a) (Some b) h = ap Some (row_same a b h)
same_rows None (Some b) h = not_true h
same_rows (Some a) None h = not_true h

pub is_same_refl : (o : Option Raw) → is_same o o ≡ true
is_same_refl None = refl
is_same_refl (Some row) = row_eq_refl row
