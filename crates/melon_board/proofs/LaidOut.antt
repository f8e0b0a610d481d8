-- The tables and the bytes of the kept rows, row by row.
use Rattle.std.proofs.Common.{◌≡◌, ℕ, ◌+◌, ◌-◌, ◌<◌, ◌≤◌, List, [], ◌∷◌, length, map, get_or, set, Option, Result, Ok, Err, refl, ap, sym, subst, ◌∙◌, arith}
use Rattle.std.proofs.lemmas.List.{length-map}
use Rattle.std.proofs.Math.ListN.{get_or-map}
use Rattle.melon_schema.specs.Faults.{◌>>=◌, Fails, or_fault, in_turn}
use Rattle.melon_schema.specs.declared.schema.ColumnSchema.{ColumnSchema}
use Rattle.melon_schema.specs.declared.schema.TableSchema.{TableSchema}
use Rattle.melon_raw.specs.declared.raw.Raw.{Raw}
use Rattle.melon_raw.specs.Rows.{Fits, Rows, at_id, table_at, no_table, put_row}
use Rattle.melon_raw.specs.Decoding.{IsRowOf}
use Rattle.melon_table.specs.Seen.{SeenTable, rows_of, columns_of, declared_columns}
use Rattle.melon_table.specs.Kept.{IsKept}
use Rattle.melon_outside.specs.declared.kept.KeptRow.{KeptRow}
use Rattle.melon_outside.specs.declared.kept.OpenFault.{OpenFault}
use Rattle.melon_outside.specs.declared.kept.OpenFault.TheVariants.{BadRow, Version, Full, KeeperFault, Memory}
use Rattle.melon_change.specs.Changes.{columns_at}
use Rattle.melon_board.specs.declared.opening.Opened.{Opened}
use Rattle.melon_board.specs.Sizes.{row_bytes, bytes_if_any, table_bytes, stored_bytes}
use Rattle.melon_board.specs.Opening.{row_kept, with_row, row_opened, no_rows}
use Rattle.melon_board.specs.Opened.{IsLaidOut}
use Rattle.melon_board.specs.Boards.{AreKept}
use Rattle.melon_board.proofs.Stored.{columns-declared, stored-put_row, kept-put_row}

module _ (schema : List TableSchema) where
  -- ---- no rows

  stored-none : (ts : List TableSchema) → stored_bytes ts (no_rows ts) ≡ 0
  stored-none [] = refl
  stored-none (t ∷ ts) = omega (arith, stored-none ts)

  pub kept-none : AreKept schema (no_rows schema)
  kept-none t =
      let none : get_or (no_rows schema) t [] ≡ [] = get_or-map (λ (s : TableSchema). let rs : List Raw = [] in rs) schema t no_table in
      subst (λ (rs : List Raw). IsKept (columns_at schema t) rs) (sym none) (record { ascending = refl; fitting = tt })

  pub none_laid : (tables : List SeenTable) → columns_of tables ≡ declared_columns schema → rows_of tables ≡ no_rows schema → IsLaidOut schema (record { tables = tables; stored = 0 })
  none_laid tables columns rows = record {
    columns = columns;
    kept = subst (λ (q : Rows). AreKept schema q) (sym rows) kept-none;
    stored = sym (ap (stored_bytes schema) rows ∙ stored-none schema);
  }

  -- ---- one row more

  long : (o : Opened) → IsLaidOut schema o → length (rows_of o.tables) ≡ length schema
  long o laid =
      length-map o.tables (λ (t : SeenTable). t.rows) ∙ (sym (length-map o.tables (λ (t : SeenTable). t.columns))
      ∙ (ap (length {A = List ColumnSchema}) laid.columns ∙ length-map schema (λ (t : TableSchema). t.columns)))

  pub fits_table : (o : Opened) (t : ℕ) (row : Raw) → IsLaidOut schema o → Fits (columns_at schema t) row → Fits (get_or (columns_of o.tables) t []) row
  fits_table o t row laid fits =
      subst (λ (k : List ColumnSchema). Fits k row) (sym (ap (λ (k : List (List ColumnSchema)). get_or k t []) laid.columns ∙ columns-declared schema t)) fits

  module _ (o : Opened) (t : ℕ) (row : Raw) (body : List ℕ) (within : t < length schema) (is : IsRowOf (table_at schema t) body row) (laid : IsLaidOut schema o) (total gone : ℕ) (was : Option Raw) (total_is : total ≡ o.stored + length body) (was_is : was ≡ at_id row.id (get_or (rows_of o.tables) t [])) (gone_is : gone ≡ bytes_if_any (table_at schema t) was) where
    law : stored_bytes schema (set (rows_of o.tables) t (put_row row (get_or (rows_of o.tables) t []))) + gone ≡ total
    law =
        let size : row_bytes (table_at schema t) row ≡ length body = ap (length {A = ℕ}) is.1 in
        let gone' : gone ≡ bytes_if_any (table_at schema t) (at_id row.id (get_or (rows_of o.tables) t [])) = gone_is ∙ ap (bytes_if_any (table_at schema t)) was_is in
        let sum = stored-put_row schema (rows_of o.tables) t row within (long o laid) laid.kept in
        omega (arith, size, gone', sum, total_is, laid.stored)

    pub enough : gone ≤ total
    enough = omega (arith, law)

    pub more_laid : (tables : List SeenTable) → columns_of tables ≡ columns_of o.tables → rows_of tables ≡ set (rows_of o.tables) t (put_row row (get_or (rows_of o.tables) t [])) → IsLaidOut schema (record { tables = tables; stored = total - gone })
    more_laid tables columns rows = record {
      columns = columns ∙ laid.columns;
      kept = subst (λ (q : Rows). AreKept schema q) (sym rows) (kept-put_row schema (rows_of o.tables) t row is.0 laid.kept);
      stored = omega (arith, law, ap (stored_bytes schema) rows);
    }

  -- ---- what is read

  pub opened_more : (rows : Rows) (kept : KeptRow) (f : ℕ × Raw) → or_fault (row_kept schema kept) (BadRow kept.table kept.id) ≡ Ok f → row_opened schema rows kept ≡ Ok (with_row rows f)
  opened_more rows kept f e = ap (λ (r : Result (ℕ × Raw) OpenFault). r >>= λ found. Ok (with_row rows found)) e

  pub opened_none : (rows : Rows) (kept : KeptRow) (f : OpenFault) → Fails Memory f (or_fault (row_kept schema kept) (BadRow kept.table kept.id)) → Fails Memory f (row_opened schema rows kept)
  opened_none rows kept f fails other = ap (λ (r : Result (ℕ × Raw) OpenFault). r >>= λ found. Ok (with_row rows found)) (fails other)

  pub turn_more : (rows new : Rows) (kept : KeptRow) (later left : List KeptRow) (whole : Result Rows OpenFault) → left ≡ kept ∷ later → row_opened schema rows kept ≡ Ok new → in_turn (row_opened schema) rows left ≡ whole → in_turn (row_opened schema) new later ≡ whole
  turn_more rows new kept later left whole is one all =
      sym (ap (λ (r : Result Rows OpenFault). r >>= λ more. in_turn (row_opened schema) more later) one)
      ∙ (ap (λ (ks : List KeptRow). in_turn (row_opened schema) rows ks) (sym is) ∙ all)

  pub turn_none : (rows : Rows) (kept : KeptRow) (later left : List KeptRow) (whole : Result Rows OpenFault) (f : OpenFault) → left ≡ kept ∷ later → Fails Memory f (row_opened schema rows kept) → in_turn (row_opened schema) rows left ≡ whole → Fails Memory f whole
  turn_none rows kept later left whole f is fails all other =
      sym all ∙ (ap (λ (ks : List KeptRow). in_turn (row_opened schema) rows ks) is
      ∙ ap (λ (r : Result Rows OpenFault). r >>= λ more. in_turn (row_opened schema) more later) (fails other))

  pub turn_end : (rows : Rows) (left : List KeptRow) (whole : Result Rows OpenFault) → length left ≡ 0 → in_turn (row_opened schema) rows left ≡ whole → whole ≡ Ok rows
  turn_end rows [] whole none all = sym all
  turn_end rows (k ∷ ks) whole none all = absurd (omega (arith, none))
