-- Of a table nothing is told but rows that were touched.
use Rattle.std.proofs.Common.{◌≡◌, ℕ, nat_lt, List, map, filter, Bool, true, false, not, ◌&&◌, ◌||◌, refl}
use Rattle.std.specs.Option.{unwrap_or}
use Rattle.std.proofs.lemmas.Bool.{and_parts}
use Rattle.melon_schema.specs.declared.schema.TableSchema.{TableSchema}
use Rattle.melon_log.specs.declared.server_row.ServerRow.{ServerRow}
use Rattle.melon_log.specs.ServerRows.{is_live, is_touched}
use Rattle.melon_log.specs.Pulled.{row_told, is_new, is_edited, is_gone, table_told}
use Rattle.melon_backend.proofs.Lists.{filter-filter}

or_first : (a b : Bool) → a ≡ true → (a || b) ≡ true
or_first true b h = refl
or_first false b h = cc

or_second : (a b : Bool) → b ≡ true → (a || b) ≡ true
or_second true b h = refl
or_second false b h = h

new_touched : (t : ℕ) (r : ServerRow) → is_new t r ≡ true → is_touched t r ≡ true
new_touched t r h = or_first (nat_lt t r.created) (nat_lt t r.changed || nat_lt t (unwrap_or r.deleted 0)) (and_parts (is_live r) (nat_lt t r.created) h).1

edited_touched : (t : ℕ) (r : ServerRow) → is_edited t r ≡ true → is_touched t r ≡ true
edited_touched t r h =
    let p = and_parts (is_live r) (not (nat_lt t r.created) && nat_lt t r.changed) h in
    or_second (nat_lt t r.created) (nat_lt t r.changed || nat_lt t (unwrap_or r.deleted 0)) (or_first (nat_lt t r.changed) (nat_lt t (unwrap_or r.deleted 0)) (and_parts (not (nat_lt t r.created)) (nat_lt t r.changed) p.1).1)

gone_touched : (t : ℕ) (r : ServerRow) → is_gone t r ≡ true → is_touched t r ≡ true
gone_touched t r h = or_second (nat_lt t r.created) (nat_lt t r.changed || nat_lt t (unwrap_or r.deleted 0)) (or_second (nat_lt t r.changed) (nat_lt t (unwrap_or r.deleted 0)) h)

pub touched_told : (t : ℕ) (table : TableSchema) (rows : List ServerRow) → table_told t table (filter (is_touched t) rows) ≡ table_told t table rows
touched_told t table rows =
    let new : filter (is_new t) (filter (is_touched t) rows) ≡ filter (is_new t) rows = filter-filter (is_new t) (is_touched t) (new_touched t) rows in
    let edited : filter (is_edited t) (filter (is_touched t) rows) ≡ filter (is_edited t) rows = filter-filter (is_edited t) (is_touched t) (edited_touched t) rows in
    let gone : filter (is_gone t) (filter (is_touched t) rows) ≡ filter (is_gone t) rows = filter-filter (is_gone t) (is_touched t) (gone_touched t) rows in
    λ i. record {
      table = table.name;
      created = map (row_told table.columns) (new i);
      updated = map (row_told table.columns) (edited i);
      deleted = map (λ (r : ServerRow). r.id) (gone i);
    }
