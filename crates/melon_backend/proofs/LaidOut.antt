-- Tables that are laid out, row by row.
use Rattle.std.proofs.Common.{◌≡◌, ℕ, zero, suc, ◌+◌, ◌-◌, ◌<◌, ◌≤◌, List, [], ◌∷◌, ◌++◌, length, get_or, set, true, Option, refl, ap, sym, subst, ◌∙◌, arith}
use Rattle.std.specs.List.{AllByRecursion}
use Rattle.std.proofs.lemmas.List.{length-map}
use Rattle.melon_schema.specs.declared.schema.TableSchema.{TableSchema}
use Rattle.melon_wire.specs.Forms.{names_ascend}
use Rattle.melon_log.specs.declared.server_row.ServerRow.{ServerRow}
use Rattle.melon_log.specs.ServerRows.{ServerRows, id_of, at_id}
use Rattle.melon_backend.specs.declared.put.Put.{Put}
use Rattle.melon_backend.specs.declared.table.ServerTable.{ServerTable}
use Rattle.melon_backend.specs.Rows.{with_put, total, bytes_in, stored_bytes, live_one, live_rows, weight_of}
use Rattle.melon_backend.specs.Inside.{rows_in, IsKept, tables_rows, AreKept}
use Rattle.melon_backend.specs.Backends.{no_rows}
use Rattle.melon_backend.specs.Opened.{IsLaidOut}
use Rattle.melon_backend.proofs.Tables.{ascend-rows}
use Rattle.melon_backend.proofs.Sums.{total-put}

-- ---- no rows

pub each-push : {X : Type 0} (P : X → Type 0) (xs : List X) (x : X) → AllByRecursion P xs → P x → AllByRecursion P (xs ++ x ∷ [])
each-push P [] x all p = (p, tt)
each-push P (y ∷ ys) x all p = (all.0, each-push P ys x all.1 p)

pub rows_none : (tables : List ServerTable) (schema : List TableSchema) → AllByRecursion (λ t. rows_in t ≡ []) tables → length tables ≡ length schema → tables_rows tables ≡ no_rows schema
rows_none [] [] all long = refl
rows_none [] (s ∷ ss) all long = absurd (omega (arith, long))
rows_none (t ∷ ts) [] all long = absurd (omega (arith, long))
rows_none (t ∷ ts) (s ∷ ss) all long = rw all.0 (ap (λ (rest : ServerRows). [] ∷ rest) (rows_none ts ss all.1 (omega (arith, long))))

total-none : (w : ℕ → ServerRow → ℕ) (k : ℕ) (schema : List TableSchema) → total w k (no_rows schema) ≡ 0
total-none w k [] = refl
total-none w k (s ∷ ss) = let ih : total w (k + 1) (no_rows ss) ≡ 0 = total-none w (k + 1) ss in omega (arith, ih)

pub none_laid : (schema : List TableSchema) (tables : List ServerTable) → AreKept tables → tables_rows tables ≡ no_rows schema → IsLaidOut schema tables 0 0
none_laid schema tables kept rows = record {
  kept = kept;
  long = sym (length-map tables rows_in) ∙ (ap length rows ∙ length-map schema (λ (s : TableSchema). let rs : List ServerRow = [] in rs));
  stored_is = sym (ap (stored_bytes schema) rows ∙ total-none (bytes_in schema) 0 schema);
  live_is = sym (ap live_rows rows ∙ total-none (λ i. live_one) 0 schema);
}

-- ---- a table among all

pub kept_at : (tables : List ServerTable) (i : ℕ) (t : ServerTable) → AreKept tables → i < length tables → t ≡ get_or tables i t → IsKept t
kept_at [] i t all within is = absurd (omega (arith, within))
kept_at (u ∷ us) zero t all within is = subst IsKept (sym is) all.0
kept_at (u ∷ us) (suc i) t all within is = kept_at us i t all.1 (omega (arith, within)) is

pub rows_at : (tables : List ServerTable) (i : ℕ) (t : ServerTable) → i < length tables → t ≡ get_or tables i t → get_or (tables_rows tables) i [] ≡ rows_in t
rows_at [] i t within is = absurd (omega (arith, within))
rows_at (u ∷ us) zero t within is = ap rows_in (sym is)
rows_at (u ∷ us) (suc i) t within is = rows_at us i t (omega (arith, within)) is

pub ascend_at : (tables : List ServerTable) (i : ℕ) → AreKept tables → names_ascend id_of (get_or (tables_rows tables) i []) ≡ true
ascend_at [] i all = refl
ascend_at (t ∷ ts) zero all = ascend-rows t all.0
ascend_at (t ∷ ts) (suc i) all = ascend_at ts i all.1

pub rows_set : (tables : List ServerTable) (i : ℕ) (t : ServerTable) → tables_rows (set tables i t) ≡ set (tables_rows tables) i (rows_in t)
rows_set [] i t = refl
rows_set (u ∷ us) zero t = refl
rows_set (u ∷ us) (suc i) t = ap (λ (rest : ServerRows). rows_in u ∷ rest) (rows_set us i t)

pub kept_set : (tables : List ServerTable) (i : ℕ) (t : ServerTable) → AreKept tables → IsKept t → AreKept (set tables i t)
kept_set [] i t all kept = tt
kept_set (u ∷ us) zero t all kept = (kept, all.1)
kept_set (u ∷ us) (suc i) t all kept = (all.0, kept_set us i t all.1 kept)

-- ---- one row more

module _ (schema : List TableSchema) (tables : List ServerTable) (stored live : ℕ) (laid : IsLaidOut schema tables stored live) (p : Put) (within : p.table < length schema) where
  was : Option ServerRow
  was = at_id p.row.id (get_or (tables_rows tables) p.table [])

  room : p.table < length (tables_rows tables)
  room = omega (arith, length-map tables rows_in, laid.long, within)

  pub stored_put : stored_bytes schema (with_put (tables_rows tables) p) + weight_of (bytes_in schema p.table) (at_id p.row.id (get_or (tables_rows tables) p.table [])) ≡ stored + bytes_in schema p.table p.row
  stored_put = total-put (bytes_in schema) (tables_rows tables) p room (ascend_at tables p.table laid.kept) ∙ ap (λ (n : ℕ). n + bytes_in schema p.table p.row) (sym laid.stored_is)

  pub live_put : live_rows (with_put (tables_rows tables) p) + weight_of live_one (at_id p.row.id (get_or (tables_rows tables) p.table [])) ≡ live + live_one p.row
  live_put = total-put (λ i. live_one) (tables_rows tables) p room (ascend_at tables p.table laid.kept) ∙ ap (λ (n : ℕ). n + live_one p.row) (sym laid.live_is)

  -- with the weights of the row that was there
  module _ (gone n total dead live_total : ℕ) (gone_is : gone ≡ weight_of (bytes_in schema p.table) (at_id p.row.id (get_or (tables_rows tables) p.table []))) (size : bytes_in schema p.table p.row ≡ n) (total_is : total ≡ stored + n)
      (dead_is : dead ≡ weight_of live_one (at_id p.row.id (get_or (tables_rows tables) p.table []))) (live_total_is : live_total ≡ live + live_one p.row) where
    pub enough : gone ≤ total
    enough = omega (arith, gone_is, size, total_is, stored_put)

    pub enough_live : dead ≤ live_total
    enough_live = omega (arith, dead_is, live_total_is, live_put)

    pub more_laid : (new : List ServerTable) → AreKept new → length new ≡ length tables → tables_rows new ≡ with_put (tables_rows tables) p → IsLaidOut schema new (total - gone) (live_total - dead)
    more_laid new kept long rows = record {
      kept = kept;
      long = long ∙ laid.long;
      stored_is = (let e : total - gone ≡ stored_bytes schema (with_put (tables_rows tables) p) = omega (arith, gone_is, size, total_is, stored_put) in e) ∙ ap (stored_bytes schema) (sym rows);
      live_is = (let e : live_total - dead ≡ live_rows (with_put (tables_rows tables) p) = omega (arith, dead_is, live_total_is, live_put) in e) ∙ ap live_rows (sym rows);
    }
