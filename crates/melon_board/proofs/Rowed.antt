-- A table in the place of another: its rows, columns and room.
use Rattle.std.proofs.Common.{◌≡◌, ℕ, ◌+◌, ◌<◌, ◌≤◌, List, [], map, get_or, set, slice_get, Bool, true, false, ◌&&◌, ◌==◌, Option, Some, None, option_map, MatchOption, refl, ap, sym, ◌∙◌, arith, length}
use Rattle.std.proofs.lemmas.Bool.{eqb-true, eqb-false}
use Rattle.std.proofs.lemmas.List.{map-set, get_or-set_same, get_or-set_other}
use Rattle.std.proofs.Math.Seq.{map-set_same}
use Rattle.std.proofs.lemmas.Option.{get_or_from_slice_get, slice_get-map, slice_get_within}
use Rattle.melon_schema.specs.declared.schema.ColumnSchema.{ColumnSchema}
use Rattle.melon_raw.specs.declared.raw.Raw.{Raw}
use Rattle.melon_table.specs.Seen.{SeenTable, rows_of, columns_of}
use Rattle.melon_change.specs.Changes.{with_after}
use Rattle.melon_board.specs.Boards.{no_table, spare_at, is_new, one_if, used_in}

module _ (ts : List SeenTable) (t : ℕ) (x x' : SeenTable) (here : slice_get ts t ≡ Some x) where
  pub rows_here : get_or (rows_of ts) t [] ≡ x.rows
  rows_here = get_or_from_slice_get (rows_of ts) t x.rows [] (slice_get-map (λ (s : SeenTable). s.rows) ts t ∙ ap (option_map (λ (s : SeenTable). s.rows)) here)

  pub columns_here : get_or (columns_of ts) t [] ≡ x.columns
  columns_here = get_or_from_slice_get (columns_of ts) t x.columns [] (slice_get-map (λ (s : SeenTable). s.columns) ts t ∙ ap (option_map (λ (s : SeenTable). s.columns)) here)

  table_here : get_or ts t no_table ≡ x
  table_here = get_or_from_slice_get ts t x no_table here

  pub spare_here : spare_at ts t ≡ x.spare
  spare_here = ap (λ (s : SeenTable). s.spare) table_here

  pub rows_set : (rows : List Raw) → x'.rows ≡ rows → rows_of (set ts t x') ≡ set (rows_of ts) t rows
  rows_set rows e = map-set (λ (s : SeenTable). s.rows) ts t x' ∙ ap (λ (rs : List Raw). set (rows_of ts) t rs) e

  pub rows_same : x'.rows ≡ x.rows → rows_of (set ts t x') ≡ rows_of ts
  rows_same e = map-set_same (λ (s : SeenTable). s.rows) ts t x' no_table (e ∙ ap (λ (s : SeenTable). s.rows) (sym table_here))

  pub columns_same : x'.columns ≡ x.columns → columns_of (set ts t x') ≡ columns_of ts
  columns_same e = map-set_same (λ (s : SeenTable). s.columns) ts t x' no_table (e ∙ ap (λ (s : SeenTable). s.columns) (sym table_here))

both_true : (b w : Bool) → w ≡ true → (b && w) ≡ b
both_true true w e = e
both_true false w e = refl

-- where a table gives away room for a new row, the others keep theirs
pub spare_used : (ts : List SeenTable) (t : ℕ) (x x' : SeenTable) → slice_get ts t ≡ Some x → (new : Bool) → x.spare ≤ x'.spare + one_if new → (u : ℕ) → spare_at ts u ≤ spare_at (set ts t x') u + used_in u t new
spare_used ts t x x' here new h u = by (t == u) refl new h
  where
    within : t < length ts
    within = slice_get_within ts t x here

    by : (same : Bool) → t == u ≡ same → (b : Bool) → x.spare ≤ x'.spare + one_if b → spare_at ts u ≤ spare_at (set ts t x') u + one_if (b && (t == u))
    by true e b k =
        let one : t ≡ u = eqb-true t u e in
        let was : spare_at ts u ≡ x.spare = ap (spare_at ts) (sym one) ∙ spare_here ts t x x' here in
        let is : spare_at (set ts t x') u ≡ x'.spare = ap (spare_at (set ts t x')) (sym one) ∙ ap (λ (s : SeenTable). s.spare) (get_or-set_same ts t x' no_table within) in
        let all : one_if b ≡ one_if (b && (t == u)) = ap one_if (sym (both_true b (t == u) e)) in
        omega (arith, was, is, all, k)
    by false e b k =
        let is : spare_at (set ts t x') u ≡ spare_at ts u = ap (λ (s : SeenTable). s.spare) (get_or-set_other ts t u x' no_table (λ one. eqb-false t u e (sym one))) in
        omega (arith, is)

-- the table at a place has room for n rows, and the others have theirs
pub room_set : (n : ℕ) (ts : List SeenTable) (t : ℕ) (x' : SeenTable) → t < length ts → n ≤ x'.spare → n ≤ spare_at (set ts t x') t
room_set n ts t x' within room = let is : spare_at (set ts t x') t ≡ x'.spare = ap (λ (s : SeenTable). s.spare) (get_or-set_same ts t x' no_table within) in omega (arith, is, room)

pub room_other : (n : ℕ) (ts : List SeenTable) (t u : ℕ) (x' : SeenTable) → u < t → n ≤ spare_at ts u → n ≤ spare_at (set ts t x') u
room_other n ts t u x' before room = let is : spare_at (set ts t x') u ≡ spare_at ts u = ap (λ (s : SeenTable). s.spare) (get_or-set_other ts t u x' no_table (λ one. absurd (omega (arith, one)))) in omega (arith, is, room)

-- a table whose rows have this row after of an id
pub put_done : (ts : List SeenTable) (t : ℕ) (x x' : SeenTable) → slice_get ts t ≡ Some x → (id : List ℕ) (after now : Option Raw) → after ≡ now → x'.rows ≡ with_after id now x.rows → rows_of (set ts t x') ≡ set (rows_of ts) t (with_after id after (get_or (rows_of ts) t []))
put_done ts t x x' here id after now same e =
    rows_set ts t x x' here (with_after id now x.rows) e
    ∙ ap (λ (rs : List Raw). set (rows_of ts) t rs) (ap (λ (rs : List Raw). with_after id now rs) (sym (rows_here ts t x x' here)) ∙ ap (λ (a : Option Raw). with_after id a (get_or (rows_of ts) t [])) (sym same))

pub spare_put : (was : Option Raw) (row : Raw) (new old : ℕ) → MatchOption was (new + 1 ≡ old) (λ _. new ≡ old) → old ≤ new + one_if (is_new was (Some row))
spare_put None row new old h = omega (arith, h)
spare_put (Some r) row new old h = omega (arith, h)
