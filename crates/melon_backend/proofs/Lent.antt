-- Tables of which one is changed.
use Rattle.std.proofs.Common.{◌≡◌, ◌≢◌, ℕ, zero, suc, ◌<◌, eqb, List, [], ◌∷◌, length, get_or, set, slice_get, Bool, true, false, ◌&&◌, Option, Some, bytes_eq, refl, sym, ap, ◌∙◌, arith}
use Rattle.std.specs.Option.{option_map_or}
use Rattle.std.proofs.lemmas.Bool.{both_ways}
use Rattle.std.proofs.lemmas.Bool.Decides.{Decides-eqb}
use Rattle.melon_raw.specs.Rows.{is_key}
use Rattle.melon_wire.proofs.KeyOrder.{split}
use Rattle.melon_log.specs.declared.server_row.ServerRow.{ServerRow}
use Rattle.melon_log.specs.ServerRows.{ServerRows}
use Rattle.melon_log.proofs.ById.{bytes_turned}
use Rattle.melon_backend.specs.declared.put.Put.{Put}
use Rattle.melon_backend.specs.declared.table.ServerTable.{ServerTable}
use Rattle.melon_backend.specs.Rows.{put_row, with_put}
use Rattle.melon_backend.specs.Inside.{rows_in, is_ready, tables_rows}
use Rattle.melon_backend.specs.Drafts.{key_put, is_ready_at}
use Rattle.melon_backend.proofs.LaidOut.{rows_at, rows_set}

set_same : (rows : ServerRows) (i : ℕ) (rs : List ServerRow) → i < length rows → get_or rows i [] ≡ rs → set rows i rs ≡ rows
set_same [] i rs h is = absurd (omega (arith, h))
set_same (q ∷ qs) zero rs h is = ap (λ (x : List ServerRow). x ∷ qs) (sym is)
set_same (q ∷ qs) (suc i) rs h is = ap (λ (rest : ServerRows). q ∷ rest) (set_same qs i rs (omega (arith, h)) is)

pub length_rows : (tables : List ServerTable) → length (tables_rows tables) ≡ length tables
length_rows [] = refl
length_rows (t ∷ ts) = let ih : length (tables_rows ts) ≡ length ts = length_rows ts in omega (arith, ih)

here : (tables : List ServerTable) (i : ℕ) (new : ServerTable) → i < length tables → slice_get (set tables i new) i ≡ Some new
here [] i new h = absurd (omega (arith, h))
here (t ∷ ts) zero new h = refl
here (t ∷ ts) (suc i) new h = here ts i new (omega (arith, h))

there : (tables : List ServerTable) (i : ℕ) (t : ServerTable) → i < length tables → t ≡ get_or tables i t → slice_get tables i ≡ Some t
there [] i t h is = absurd (omega (arith, h))
there (u ∷ us) zero t h is = ap Some (sym is)
there (u ∷ us) (suc i) t h is = there us i t (omega (arith, h)) is

elsewhere : (tables : List ServerTable) (i j : ℕ) (new : ServerTable) → j ≢ i → slice_get (set tables i new) j ≡ slice_get tables j
elsewhere [] i j new apart = refl
elsewhere (t ∷ ts) zero zero new apart = absurd (apart refl)
elsewhere (t ∷ ts) zero (suc j) new apart = refl
elsewhere (t ∷ ts) (suc i) zero new apart = refl
elsewhere (t ∷ ts) (suc i) (suc j) new apart = elsewhere ts i j new (λ e. apart (ap suc e))

pub length_set : (tables : List ServerTable) (i : ℕ) (new : ServerTable) → length (set tables i new) ≡ length tables
length_set [] i new = refl
length_set (t ∷ ts) zero new = refl
length_set (t ∷ ts) (suc i) new = let ih : length (set ts i new) ≡ length ts = length_set ts i new in omega (arith, ih)

module _ (tables : List ServerTable) (i : ℕ) (t new : ServerTable) (within : i < length tables) (is : t ≡ get_or tables i t) where
  pub same_rows_set : rows_in new ≡ rows_in t → tables_rows (set tables i new) ≡ tables_rows tables
  same_rows_set same =
      let l : i < length (tables_rows tables) = (let n = length_rows tables in omega (arith, n, within)) in
      rows_set tables i new ∙ set_same (tables_rows tables) i (rows_in new) l (rows_at tables i t within is ∙ sym same)

  pub put_rows : (p : Put) → p.table ≡ i → rows_in new ≡ put_row p.row (rows_in t) → tables_rows (set tables i new) ≡ with_put (tables_rows tables) p
  put_rows p place same =
      rows_set tables i new ∙ (ap (set (tables_rows tables) i) (same ∙ ap (put_row p.row) (sym (rows_at tables i t within is))) ∙ ap (λ (k : ℕ). set (tables_rows tables) k (put_row p.row (get_or (tables_rows tables) k []))) (sym place))

  pub ready_set : (p : Put) → p.table ≡ i → is_ready p.row new ≡ true → is_ready_at (set tables i new) p ≡ true
  ready_set p place ready = ap (λ (k : ℕ). option_map_or (is_ready p.row) (slice_get (set tables i new) k) false) place ∙ (ap (λ (o : Option ServerTable). option_map_or (is_ready p.row) o false) (here tables i new within) ∙ ready)

  pub keeps_set : (q : Put) → (q.table ≡ i → is_ready q.row t ≡ true → is_ready q.row new ≡ true) → is_ready_at tables q ≡ true → is_ready_at (set tables i new) q ≡ true
  keeps_set q keeps has = split (eqb q.table i)
      (λ e. let place : q.table ≡ i = (Decides-eqb q.table i).0 e in
      ready_set q place (keeps place (sym (ap (λ (k : ℕ). option_map_or (is_ready q.row) (slice_get tables k) false) place ∙ ap (λ (o : Option ServerTable). option_map_or (is_ready q.row) o false) (there tables i t within is)) ∙ has)))
      (λ e. ap (λ (o : Option ServerTable). option_map_or (is_ready q.row) o false) (elsewhere tables i q.table new (λ same. both_ways (eqb q.table i) e ((Decides-eqb q.table i).1 same))) ∙ has)

-- two rows to be put into one table have two ids
pub other_ids : (p q : Put) → is_key (key_put p) (key_put q) ≡ false → q.table ≡ p.table → bytes_eq q.row.id p.row.id ≡ false
other_ids p q apart same =
    bytes_turned p.row.id q.row.id (sym (ap (λ (b : Bool). b && bytes_eq p.row.id q.row.id) ((Decides-eqb p.table q.table).1 (sym same))) ∙ apart)
