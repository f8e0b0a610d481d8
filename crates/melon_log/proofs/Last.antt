-- A deleted row was deleted last.
use Rattle.std.proofs.Common.{◌≡◌, ℕ, ◌≤◌, max, List, [], ◌∷◌, length, Bool, true, false, cond, Option, Some, None, sym, subst, arith}
use Rattle.std.specs.Option.{option_or, unwrap_or, is_none}
use Rattle.melon_schema.specs.declared.schema.ColumnSchema.{ColumnSchema}
use Rattle.melon_raw.specs.declared.datum.OpField.{OpField}
use Rattle.melon_raw.specs.Rows.{Key}
use Rattle.melon_wire.specs.declared.changes.Changes.{Changes}
use Rattle.melon_wire.specs.Standing.{Standing, as_created, as_updated, as_deleted, in_no_list, standing}
use Rattle.melon_log.specs.declared.server_row.ServerRow.{ServerRow}
use Rattle.melon_log.specs.ServerRows.{at, is_live, made, overwritten, sent_to, deleted_at, if_live, next_row}
use Rattle.melon_log.specs.Log.{Log, revision_after, row_unsent, row_after, columns_at, row_now}
use Rattle.melon_log.specs.Laws.{greatest_in, WasDeletedLast, DeletedLast}
use Rattle.melon_log.proofs.Follows.{or_none}
use Rattle.melon_log.proofs.Now.{pushed_row, with_pushes, row_within}

module _ (columns : List ColumnSchema) (id : List ℕ) (r : ℕ) where
  sent_last : (row : Option ServerRow) (fields : List OpField) → WasDeletedLast (Some (sent_to columns id row r fields))
  sent_last None fields = λ e. cc
  sent_last (Some row) fields = go (is_live row)
    where
      go : (b : Bool) → WasDeletedLast (Some (cond b (overwritten columns row r fields) (made columns id r fields)))
      go true = λ e. cc
      go false = λ e. cc

  deleted_last : (row : Option ServerRow) → greatest_in row ≤ r → WasDeletedLast row → WasDeletedLast (option_or (if_live r row) row)
  deleted_last None above last = tt
  deleted_last (Some row) above last = go (is_live row)
    where
      go : (b : Bool) → WasDeletedLast (option_or (cond b (Some (deleted_at r row)) None) (Some row))
      go true = λ e. omega (arith, above)
      go false = last

  next_last : (row : Option ServerRow) (how : Standing) → greatest_in row ≤ r → WasDeletedLast row → WasDeletedLast (next_row columns id row r how)
  next_last row (as_created fields) above last = sent_last row fields
  next_last row (as_updated fields) above last = sent_last row fields
  next_last row as_deleted above last = deleted_last row above last
  next_last row in_no_list above last = last

row_last : (g : Log) (x : Key) (cs : List Changes) → greatest_in (at g.opening x) ≤ g.first → WasDeletedLast (at g.opening x) → WasDeletedLast (row_now (with_pushes g cs) x)
unfolding row_after
row_last g x [] h last = go (at g.opening x) last
  where
    go : (o : Option ServerRow) → WasDeletedLast o → WasDeletedLast (row_unsent o [])
    go None k = tt
    go (Some row) k = subst (λ (d : Option ℕ). is_none d ≡ false → max row.created (max row.changed (unwrap_or d 0)) ≡ unwrap_or d 0) (sym (or_none row.deleted)) k
row_last g x (c ∷ cs) h last =
    let n = revision_after g.first (length (c ∷ cs)) in
    let so_far : greatest_in (row_now (with_pushes g cs) x) ≤ revision_after g.first (length cs) = row_within g x cs h in
    let above : greatest_in (row_now (with_pushes g cs) x) ≤ n = omega (arith, so_far) in
    subst WasDeletedLast (sym (pushed_row (with_pushes g cs) c x)) (next_last (columns_at g.schema x.table) x.id n (row_now (with_pushes g cs) x) (standing g.schema c x) above (row_last g x cs h last))

pub lasts : DeletedLast
lasts g within last x = row_last g x g.pushes (within x) (last x)
