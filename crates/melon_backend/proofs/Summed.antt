-- The sums of a backend once rows are put.
use Rattle.std.proofs.Common.{◌≡◌, ℕ, ◌+◌, ◌-◌, ◌≤◌, List, length, map, true, sym, ◌∙◌, subst, arith}
use Rattle.std.specs.List.{AllByRecursion, filter_map}
use Rattle.melon_schema.specs.declared.schema.TableSchema.{TableSchema}
use Rattle.melon_wire.specs.Keys.{are_apart}
use Rattle.melon_log.specs.ServerRows.{ServerRows}
use Rattle.melon_backend.specs.declared.backend.Backend.TheInside.{Inside}
use Rattle.melon_backend.specs.declared.draft.Draft.{Draft}
use Rattle.melon_backend.specs.declared.put.Put.{Put}
use Rattle.melon_backend.specs.Rows.{with_puts, bytes_in, stored_bytes, live_one, live_rows}
use Rattle.melon_backend.specs.Inside.{tables_rows}
use Rattle.melon_backend.specs.Backends.{SeenBackend}
use Rattle.melon_backend.specs.Fields.{backend_in, IsSummed}
use Rattle.melon_backend.specs.Pushing.{Naming, put_named, row_filed, next_revision, key_named, IsNowOf}
use Rattle.melon_backend.specs.Listing.{IsOfTable}
use Rattle.melon_backend.specs.Drafts.{IsDraft, key_put, IsPutWithin}
use Rattle.melon_backend.proofs.LaidOut.{ascend_at}
use Rattle.melon_backend.proofs.Lent.{length_rows}
use Rattle.melon_backend.proofs.Puts.{total-puts, puts_within, puts_apart}

abbrev pub puts_of : SeenBackend → List Naming → List Put
puts_of b ns = filter_map (put_named b.schema.tables (next_revision b.revision)) ns

pub record Drafted (i : Inside) (b : SeenBackend) (ns : List Naming) (d : Draft) : Type 0 where
  pub enough_stored : d.stored_before ≤ i.stored + d.stored_after
  pub enough_live : d.live_before ≤ i.live + d.live_after
  pub stored_is : i.stored + d.stored_after - d.stored_before ≡ stored_bytes b.schema.tables (with_puts b.rows (puts_of b ns))
  pub live_is : i.live + d.live_after - d.live_before ≡ live_rows (with_puts b.rows (puts_of b ns))
  pub puts_is : d.puts.items ≡ puts_of b ns
  pub rows_is : d.rows ≡ map (row_filed b.schema.tables) (puts_of b ns)
  pub within : AllByRecursion (IsPutWithin (length b.schema.tables)) (puts_of b ns)
  pub apart : are_apart (map key_put (puts_of b ns)) ≡ true

module _ (i : Inside) (summed : IsSummed i) (ns : List Naming) (declared : AllByRecursion (IsOfTable (length i.schema.tables)) ns) (now : AllByRecursion (IsNowOf (tables_rows i.tables.items)) ns) (apart : are_apart (map key_named ns) ≡ true) (d : Draft) (is : IsDraft i.schema.tables (next_revision i.revision) ns d) where
  abbrev schema : List TableSchema
  schema = i.schema.tables

  abbrev rows : ServerRows
  rows = tables_rows i.tables.items

  long : length rows ≡ length schema
  long = length_rows i.tables.items ∙ summed.long

  of_rows : AllByRecursion (IsOfTable (length rows)) ns
  of_rows = subst (λ (n : ℕ). AllByRecursion (IsOfTable n) ns) (sym long) declared

  stored_law : stored_bytes schema (with_puts rows (puts_of (backend_in i) ns)) + d.stored_before ≡ i.stored + d.stored_after
  stored_law = let sum = total-puts schema (next_revision i.revision) (bytes_in schema) ns rows (λ t. ascend_at i.tables.items t summed.kept) now of_rows apart in
      omega (arith, sum, is.stored_before, is.stored_after, summed.stored_is)

  live_law : live_rows (with_puts rows (puts_of (backend_in i) ns)) + d.live_before ≡ i.live + d.live_after
  live_law = let sum = total-puts schema (next_revision i.revision) (λ t. live_one) ns rows (λ t. ascend_at i.tables.items t summed.kept) now of_rows apart in
      omega (arith, sum, is.live_before, is.live_after, summed.live_is)

  pub drafted : Drafted i (backend_in i) ns d
  drafted = record {
    enough_stored = omega (arith, stored_law);
    enough_live = omega (arith, live_law);
    stored_is = omega (arith, stored_law);
    live_is = omega (arith, live_law);
    puts_is = is.puts;
    rows_is = is.rows;
    within = puts_within schema (next_revision i.revision) rows (length schema) ns now declared;
    apart = puts_apart schema (next_revision i.revision) rows ns now apart;
  }

abbrev pub Gives : Inside → SeenBackend → Type 0
Gives i b =
    (ns : List Naming) → AllByRecursion (IsOfTable (length b.schema.tables)) ns → AllByRecursion (IsNowOf b.rows) ns → are_apart (map key_named ns) ≡ true → (d : Draft)
    → IsDraft i.schema.tables (next_revision i.revision) ns d → Drafted i b ns d

pub drafted_for : (i : Inside) (b : SeenBackend) → backend_in i ≡ b → IsSummed i → Gives i b
drafted_for i b view summed = subst (Gives i) view (λ ns declared now apart d is. drafted i summed ns declared now apart d is)
