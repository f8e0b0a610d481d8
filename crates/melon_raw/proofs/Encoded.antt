-- The object of a row has no float, and is tidy where the row fits.
use Rattle.std.proofs.Common.{◌≡◌, ℕ, pos, negsuc, Bool, true, false, ◌||◌, List, [], ◌∷◌, length, codes, refl, arith}
use Rattle.std.specs.Ordering.{match_ordering}
use Rattle.std.specs.declared.cmp.Ordering.{Ordering}
use Rattle.std.specs.declared.cmp.Ordering.TheVariants.{Less, Equal, Greater}
use Rattle.serde_json.specs.Data.{Data, string, Members, no_members, member, put}
use Rattle.serde_json.specs.Written.{has_float, members_have_float}
use Rattle.melon_schema.specs.declared.schema.ColumnSchema.{ColumnSchema}
use Rattle.melon_raw.specs.declared.datum.Datum.{Datum}
use Rattle.melon_raw.specs.declared.datum.Datum.TheVariants.{Null, Words, Whole, Truth}
use Rattle.melon_raw.specs.declared.raw.Raw.{Raw}
use Rattle.melon_raw.specs.Encoding.{status_word, marks_text, datum_data, with_cells, own_members, row_data}

either : (a b : Bool) → a ≡ false → b ≡ false → (a || b) ≡ false
either true b h k = h
either false b h k = k

second : (a b : Bool) → (a || b) ≡ false → b ≡ false
second true b h = cc
second false b h = h

first : (a b : Bool) → (a || b) ≡ false → a ≡ false
first true b h = cc
first false b h = refl

no_float-put_at : (o : Ordering) (k l : List ℕ) (d e : Data) (ms : Members) → has_float d ≡ false → members_have_float (member l e ms) ≡ false → members_have_float (put k d ms) ≡ false
    → members_have_float (match_ordering o (member k d (member l e ms)) (member l d ms) (member l e (put k d ms))) ≡ false
no_float-put_at Less k l d e ms h all later = either (has_float d) _ h all
no_float-put_at Equal k l d e ms h all later = either (has_float d) _ h (second (has_float e) _ all)
no_float-put_at Greater k l d e ms h all later = either (has_float e) _ (first (has_float e) (members_have_float ms) all) later

pub no_float-put : (k : List ℕ) (d : Data) (ms : Members) → has_float d ≡ false → members_have_float ms ≡ false → members_have_float (put k d ms) ≡ false
no_float-put k d no_members h all = either (has_float d) false h refl
no_float-put k d (member l e ms) h all = no_float-put_at _ k l d e ms h all (no_float-put k d ms h (second (has_float e) _ all))

pub no_float-datum : (d : Datum) → has_float (datum_data d) ≡ false
no_float-datum Null = refl
no_float-datum (Words text) = refl
no_float-datum (Whole (pos n)) = refl
no_float-datum (Whole (negsuc n)) = refl
no_float-datum (Truth b) = refl

pub no_float-with_cells : (columns : List ColumnSchema) (cells : List Datum) (ms : Members) → members_have_float ms ≡ false → members_have_float (with_cells columns cells ms) ≡ false
no_float-with_cells [] cells ms h = h
no_float-with_cells (c ∷ cs) [] ms h = h
no_float-with_cells (c ∷ cs) (d ∷ ds) ms h = no_float-with_cells cs ds (put c.name (datum_data d) ms) (no_float-put c.name (datum_data d) ms (no_float-datum d) h)

no_float-own : (columns : List ColumnSchema) (row : Raw) → members_have_float (own_members columns row) ≡ false
no_float-own columns row =
    let marks : Members = put (codes "_changed") (string (marks_text columns row.marks)) no_members in
    let status : Members = put (codes "_status") (string (status_word row.status)) marks in
    no_float-put (codes "id") (string row.id) status refl
    (no_float-put (codes "_status") (string (status_word row.status)) marks refl
    (no_float-put (codes "_changed") (string (marks_text columns row.marks)) no_members refl refl))

pub no_float-row : (columns : List ColumnSchema) (row : Raw) → has_float (row_data columns row) ≡ false
no_float-row columns row = no_float-with_cells columns row.cells (own_members columns row) (no_float-own columns row)

-- ---- the cells end with the columns or the cells

pub with_cells-no_column : (columns : List ColumnSchema) (cells : List Datum) (ms : Members) → length columns ≡ 0 → ms ≡ with_cells columns cells ms
with_cells-no_column [] cells ms h = refl
with_cells-no_column (c ∷ cs) cells ms h = absurd (omega (arith, h))

pub with_cells-no_cell : (columns : List ColumnSchema) (cells : List Datum) (ms : Members) → length cells ≡ 0 → ms ≡ with_cells columns cells ms
with_cells-no_cell [] cells ms h = refl
with_cells-no_cell (c ∷ cs) [] ms h = refl
with_cells-no_cell (c ∷ cs) (d ∷ ds) ms h = absurd (omega (arith, h))
