-- Rows that are made and changed fit their table.
use Rattle.std.proofs.Common.{◌≡◌, ℕ, zero, suc, ◌+◌, ◌<◌, ◌==◌, ℤ, pos, Bool, true, false, not, ◌&&◌, ◌||◌, cond, nat_lt, List, [], ◌∷◌, ◌++◌, length, set, Some, None, unwrap_or, refl, ap, ◌∙◌, arith}
use Rattle.std.specs.Ordering.{int_eq}
use Rattle.melon_schema.specs.Names.{is_id}
use Rattle.melon_schema.specs.declared.schema.Kind.{Kind}
use Rattle.melon_schema.specs.declared.schema.Kind.TheVariants as kinds
use Rattle.melon_schema.specs.declared.schema.ColumnSchema.{ColumnSchema}
use Rattle.melon_raw.specs.declared.datum.Datum.{Datum}
use Rattle.melon_raw.specs.declared.datum.Datum.TheVariants.{Null, Words, Whole, Truth}
use Rattle.melon_raw.specs.declared.raw.Raw.{Raw}
use Rattle.melon_raw.specs.Datum.{fit, kept, otherwise, in_profile, datum_eq}
use Rattle.melon_raw.specs.Rows.{has, are_marks, fitted, Fits, column_at, cell}
use Rattle.melon_raw.specs.Edits.{value_at, cells_from, row_created, marked, with_cell, row_edited, row_deleted, row_synced}

pub both : (a b : Bool) → (a && b) ≡ true → (a ≡ true) × (b ≡ true)
both true b h = (refl, h)
both false b h = cc

pub neither : (a b : Bool) → (a || b) ≡ false → (a ≡ false) × (b ≡ false)
neither true b h = cc
neither false b h = (refl, h)

-- ---- what a column keeps, it keeps

abbrev keeps : Kind → Bool → Datum → Datum
keeps kind optional value = unwrap_or (kept kind value) (otherwise kind optional)

default_again : (kind : Kind) (optional : Bool) → keeps kind optional (otherwise kind optional) ≡ otherwise kind optional
default_again kinds.Words true = refl
default_again kinds.Whole true = refl
default_again kinds.Truth true = refl
default_again kinds.Words false = refl
default_again kinds.Whole false = refl
default_again kinds.Truth false = refl

whole_again : (optional : Bool) (z : ℤ) (b : Bool) → in_profile z ≡ b
    → keeps kinds.Whole optional (unwrap_or (cond b (Some (Whole z)) None) (otherwise kinds.Whole optional)) ≡ unwrap_or (cond b (Some (Whole z)) None) (otherwise kinds.Whole optional)
whole_again optional z true is = ap (λ (b : Bool). unwrap_or (cond b (Some (Whole z)) None) (otherwise kinds.Whole optional)) is
whole_again optional z false is = default_again kinds.Whole optional

truth_again : (optional : Bool) (b c : Bool)
    → keeps kinds.Truth optional (unwrap_or (cond b (Some (Truth true)) (cond c (Some (Truth false)) None)) (otherwise kinds.Truth optional))
    ≡ unwrap_or (cond b (Some (Truth true)) (cond c (Some (Truth false)) None)) (otherwise kinds.Truth optional)
truth_again optional true c = refl
truth_again optional false true = refl
truth_again optional false false = default_again kinds.Truth optional

keeps_again : (kind : Kind) (optional : Bool) (value : Datum) → keeps kind optional (keeps kind optional value) ≡ keeps kind optional value
keeps_again kinds.Words optional Null = default_again kinds.Words optional
keeps_again kinds.Words optional (Words text) = refl
keeps_again kinds.Words optional (Whole z) = default_again kinds.Words optional
keeps_again kinds.Words optional (Truth b) = default_again kinds.Words optional
keeps_again kinds.Whole optional Null = default_again kinds.Whole optional
keeps_again kinds.Whole optional (Words text) = default_again kinds.Whole optional
keeps_again kinds.Whole optional (Whole z) = whole_again optional z (in_profile z) refl
keeps_again kinds.Whole optional (Truth b) = default_again kinds.Whole optional
keeps_again kinds.Truth optional Null = default_again kinds.Truth optional
keeps_again kinds.Truth optional (Words text) = default_again kinds.Truth optional
keeps_again kinds.Truth optional (Whole z) = truth_again optional (int_eq z (pos 1)) (int_eq z (pos 0))
keeps_again kinds.Truth optional (Truth b) = refl

pub fit-again : (column : ColumnSchema) (value : Datum) → fit column (fit column value) ≡ fit column value
fit-again column value = keeps_again column.kind column.optional value

pub fitted-again : (columns : List ColumnSchema) (cells : List Datum) → fitted columns (fitted columns cells) ≡ fitted columns cells
fitted-again [] cells = refl
fitted-again (c ∷ cs) [] = ap (λ (d : Datum). d ∷ fitted cs (fitted cs [])) (fit-again c Null) ∙ ap (λ (ds : List Datum). fit c Null ∷ ds) (fitted-again cs [])
fitted-again (c ∷ cs) (d ∷ ds) = ap (λ (e : Datum). e ∷ fitted cs (fitted cs ds)) (fit-again c d) ∙ ap (λ (es : List Datum). fit c d ∷ es) (fitted-again cs ds)

-- ---- made

pub fitted-cells_from : (fields : List (ℕ × Datum)) (c : ℕ) (columns : List ColumnSchema) → fitted columns (cells_from fields c columns) ≡ cells_from fields c columns
fitted-cells_from fields c [] = refl
fitted-cells_from fields c (column ∷ columns) =
    ap (λ (d : Datum). d ∷ fitted columns (cells_from fields (c + 1) columns)) (fit-again column (value_at fields c))
    ∙ ap (λ (ds : List Datum). fit column (value_at fields c) ∷ ds) (fitted-cells_from fields (c + 1) columns)

pub Fits-row_created : (columns : List ColumnSchema) (id : List ℕ) (fields : List (ℕ × Datum)) → is_id id ≡ true → Fits columns (row_created columns id fields)
Fits-row_created columns id fields is = record { id = is; marks = refl; cells = fitted-cells_from fields 0 columns }

-- ---- marks

has_not-append : (m c : ℕ) (ms : List ℕ) → has m ms ≡ false → (m == c) ≡ false → has m (ms ++ c ∷ []) ≡ false
has_not-append m c [] h k = rw k refl
has_not-append m c (x ∷ xs) h k = let n = neither (m == x) (has m xs) h in ap (λ (b : Bool). b || has m (xs ++ c ∷ [])) n.0 ∙ has_not-append m c xs n.1 k

pub other_way : (c m : ℕ) → (c == m) ≡ false → (m == c) ≡ false
other_way c m h = grind arith

pub are_marks-append : (n c : ℕ) (ms : List ℕ) → are_marks n ms ≡ true → has c ms ≡ false → c < n → are_marks n (ms ++ c ∷ []) ≡ true
are_marks-append n c [] h k within = let e : nat_lt c n ≡ true = grind arith in rw e refl
are_marks-append n c (m ∷ ms) h k within =
    let a = both (nat_lt m n) (not (has m ms) && are_marks n ms) h in
    let b = both (not (has m ms)) (are_marks n ms) a.1 in
    let d = neither (c == m) (has c ms) k in
    let e : has m (ms ++ c ∷ []) ≡ false = has_not-append m c ms (falsely _ b.0) (other_way c m d.0) in
    ap (λ (x : Bool). x && (not (has m (ms ++ c ∷ [])) && are_marks n (ms ++ c ∷ []))) a.0
    ∙ ap (λ (x : Bool). not x && are_marks n (ms ++ c ∷ [])) e
    ∙ are_marks-append n c ms b.1 d.1 within
  where
    falsely : (b : Bool) → not b ≡ true → b ≡ false
    falsely true h = cc
    falsely false h = refl

-- a column of the table may be marked
pub are_marks-marked : (n c : ℕ) (ms : List ℕ) → are_marks n ms ≡ true → c < n → are_marks n (marked c ms) ≡ true
are_marks-marked n c ms h within = by_case (has c ms) refl
  where
    by_case : (b : Bool) → has c ms ≡ b → are_marks n (cond b ms (ms ++ c ∷ [])) ≡ true
    by_case true is = h
    by_case false is = are_marks-append n c ms h is within

-- ---- edited

fitted-set : (columns : List ColumnSchema) (cells : List Datum) (c : ℕ) (value : Datum) → fitted columns cells ≡ cells → c < length columns
    → fitted columns (set cells c (fit (column_at columns c) value)) ≡ set cells c (fit (column_at columns c) value)
fitted-set [] cells c value h within = absurd (omega (arith, within))
fitted-set (column ∷ columns) [] c value h within = cc
fitted-set (column ∷ columns) (d ∷ ds) zero value h within =
    let tail : fitted columns ds ≡ ds = cc in
    ap (λ (e : Datum). e ∷ fitted columns ds) (fit-again column value) ∙ ap (λ (es : List Datum). fit column value ∷ es) tail
fitted-set (column ∷ columns) (d ∷ ds) (suc c) value h within =
    let head : fit column d ≡ d = cc in
    let tail : fitted columns ds ≡ ds = cc in
    ap (λ (e : Datum). e ∷ fitted columns (set ds c (fit (column_at columns c) value))) head
    ∙ ap (λ (es : List Datum). d ∷ es) (fitted-set columns ds c value tail (omega (arith, within)))

pub Fits-row_edited : (columns : List ColumnSchema) (c : ℕ) (value : Datum) (row : Raw) → Fits columns row → c < length columns → Fits columns (row_edited columns c value row)
Fits-row_edited columns c value row fits within = by_case (datum_eq (cell row c) (fit (column_at columns c) value))
  where
    by_case : (b : Bool) → Fits columns (cond b row (with_cell c (fit (column_at columns c) value) row))
    by_case true = fits
    by_case false = record { id = fits.id; marks = are_marks-marked (length columns) c row.marks fits.marks within; cells = fitted-set columns row.cells c value fits.cells within }

-- ---- marked as deleted, and synced

pub Fits-row_deleted : (columns : List ColumnSchema) (row : Raw) → Fits columns row → Fits columns (row_deleted row)
Fits-row_deleted columns row fits = record { id = fits.id; marks = fits.marks; cells = fits.cells }

pub Fits-row_synced : (columns : List ColumnSchema) (row : Raw) → Fits columns row → Fits columns (row_synced row)
Fits-row_synced columns row fits = record { id = fits.id; marks = refl; cells = fits.cells }

-- what a row fits by
pub ruleset fitting = (fit-again, fitted-again, Fits-row_created, Fits-row_edited, Fits-row_deleted, Fits-row_synced, are_marks-marked)
