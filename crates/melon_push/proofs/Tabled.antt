-- What is collected of tables, one after the other.
use Rattle.std.proofs.Common.{◌≡◌, ℕ, zero, suc, ◌+◌, ◌<◌, ◌≤◌, List, [], ◌∷◌, ◌++◌, length, take, get_or, true, Some, None, slice_get, refl, sym, ap, ◌∙◌, subst, arith}
use Rattle.std.specs.List.{AllByRecursion}
use Rattle.std.proofs.lemmas.List.{length-map, take_all}
use Rattle.std.proofs.lemmas.Option.{slice_get_within}
use Rattle.melon_raw.specs.Rows.{Rows, at_id}
use Rattle.melon_table.specs.Seen.{SeenTable, rows_of}
use Rattle.melon_table.specs.Kept.{IsKept}
use Rattle.melon_table.specs.Dirty.{dirty_rows}
use Rattle.melon_wire.specs.declared.fetch.Fetch.{Fetch}
use Rattle.melon_wire.specs.Collected.{collected, fetched_count, IsFetch, is_within}
use Rattle.melon_push.specs.Fetching.{collected_at, with_more, collected_of, AreKept}
use Rattle.melon_push.specs.Laws.{AllAscend, IsCollected}
use Rattle.melon_push.proofs.Lists.{take_next, each-append}
use Rattle.melon_push.proofs.Growing.{table_more, all_tables, count_table, count_within}
use Rattle.melon_push.proofs.Collected.{is_collected}

pub rows_at : (tables : List SeenTable) (i : ℕ) (t : SeenTable) → slice_get tables i ≡ Some t → get_or (rows_of tables) i [] ≡ t.rows
rows_at [] i t h = cc
rows_at (u ∷ us) zero t h = let same : u ≡ t = cc in ap (λ (v : SeenTable). v.rows) same
rows_at (u ∷ us) (suc i) t h = rows_at us i t h

-- past the last table there is no row
pub none_past : (tables : List SeenTable) (i : ℕ) (id : List ℕ) → length tables ≤ i → None ≡ at_id id (get_or (rows_of tables) i [])
none_past [] zero id h = refl
none_past [] (suc i) id h = refl
none_past (t ∷ ts) zero id h = absurd (omega (arith, h))
none_past (t ∷ ts) (suc i) id h = none_past ts i id (omega (arith, h))

pub rows_length : (tables : List SeenTable) → length (rows_of tables) ≡ length tables
rows_length tables = length-map tables (λ t. t.rows)

module _ (tables : List SeenTable) (i : ℕ) (t : SeenTable) (here : slice_get tables i ≡ Some t) where
  pub more_collected : (f next : Fetch) → f ≡ collected_of (rows_of tables) i → next ≡ with_more f (collected_at i t.rows) → next ≡ collected_of (rows_of tables) (i + 1)
  more_collected f next was is = is ∙ (ap (λ (g : Fetch). with_more g (collected_at i t.rows)) was ∙ (ap (λ rs. with_more (collected_of (rows_of tables) i) (collected_at i rs)) (sym (rows_at tables i t here)) ∙ table_more (rows_of tables) i))

  pub more_kept : AreKept (take i tables) → IsKept t.columns t.rows → AreKept (take (i + 1) tables)
  more_kept all kept = subst AreKept (sym (take_next tables i t here)) (each-append (λ u. IsKept u.columns u.rows) (take i tables) (t ∷ []) all (kept, tt))

  pub more_steps : (start now next : ℕ) → now ≤ start + fetched_count (collected_of (rows_of tables) i) → next ≤ now + length (dirty_rows t.rows) → next ≤ start + fetched_count (collected_of (rows_of tables) (i + 1))
  more_steps start now next was is = omega (arith, was, is, count_table (rows_of tables) i, ap (λ rs. length (dirty_rows rs)) (rows_at tables i t here))

  pub steps_within : (start now next : ℕ) → now ≤ start + fetched_count (collected_of (rows_of tables) i) → next ≤ now + length (dirty_rows t.rows) → next ≤ start + fetched_count (collected (rows_of tables))
  steps_within start now next was is =
      let within : i < length (rows_of tables) = subst (λ (n : ℕ). i < n) (sym (rows_length tables)) (slice_get_within tables i t here) in
      omega (arith, was, is, count_within (rows_of tables) i (length (rows_of tables)) within, ap (λ rs. length (dirty_rows rs)) (rows_at tables i t here), ap fetched_count (all_tables (rows_of tables)))

-- all tables
pub collected_all : (tables : List SeenTable) (n : ℕ) (f : Fetch) → n ≡ length tables → f ≡ collected_of (rows_of tables) n → f ≡ collected (rows_of tables)
collected_all tables n f same is = is ∙ (ap (collected_of (rows_of tables)) (same ∙ sym (rows_length tables)) ∙ all_tables (rows_of tables))

pub steps_all : (tables : List SeenTable) (n start now : ℕ) → n ≡ length tables → now ≤ start + fetched_count (collected_of (rows_of tables) n) → now ≤ start + fetched_count (collected (rows_of tables))
steps_all tables n start now same h = subst (λ (f : Fetch). now ≤ start + fetched_count f) (ap (collected_of (rows_of tables)) (same ∙ sym (rows_length tables)) ∙ all_tables (rows_of tables)) h

ascend_from_kept : (tables : List SeenTable) → AreKept tables → AllAscend (rows_of tables)
ascend_from_kept [] all = tt
ascend_from_kept (t ∷ ts) all = (all.0.ascending, ascend_from_kept ts all.1)

pub collected_form : (tables : List SeenTable) (n : ℕ) → n ≡ length tables → AreKept (take n tables) → IsCollected (rows_of tables) (collected (rows_of tables))
collected_form tables n same all = is_collected (rows_of tables) (ascend_from_kept tables (subst AreKept (take_all n tables (omega (arith, same))) all))
