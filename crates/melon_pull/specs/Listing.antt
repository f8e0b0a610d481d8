-- What a changes object lists of the declared tables, record by record.
use Rattle.std.specs.Prelude.{◌≡◌, ℕ, ◌<◌, List, [], ◌++◌, length, map, find, true, Option, Some, None, option_map, option_to_list, Result, Ok}
use Rattle.std.specs.List.{All, AllByRecursion, filter_map, flat_map, range_with_len}
use Rattle.std.specs.List.Sorted.{IsPermutation}
use Rattle.melon_schema.specs.Faults.{◌>>=◌}
use Rattle.melon_schema.specs.declared.schema.ColumnSchema.{ColumnSchema}
use Rattle.melon_schema.specs.declared.schema.TableSchema.{TableSchema}
use Rattle.melon_raw.specs.declared.raw.Raw.{Raw}
use Rattle.melon_raw.specs.Rows.{Key, Rows, at, table_at}
use Rattle.melon_change.specs.declared.change.Change.{Change}
use Rattle.melon_change.specs.Changes.{columns_at}
use Rattle.melon_change.specs.History.{FitsIfAny}
use Rattle.melon_wire.specs.declared.changes.Remote.{Remote}
use Rattle.melon_wire.specs.declared.changes.TableChanges.{TableChanges}
use Rattle.melon_wire.specs.declared.changes.Changes.{Changes}
use Rattle.melon_wire.specs.Keys.{key_at, do_rise, first_again}
use Rattle.melon_wire.specs.Standing.{Standing, as_created, as_updated, as_deleted, changes_for}
use Rattle.melon_wire.specs.Fates.{fate}
use Rattle.melon_pull.specs.declared.fault.PullFault.{PullFault}
use Rattle.melon_pull.specs.declared.listed.InList.{InList}
use Rattle.melon_pull.specs.declared.listed.InList.TheVariants as lists
use Rattle.melon_pull.specs.declared.listed.Listed.{Listed}
use Rattle.melon_pull.specs.declared.fate.Fate.{Fate}
use Rattle.melon_pull.specs.declared.fate.Fate.TheVariants.{Stays, Gone, Becomes}
use Rattle.melon_pull.specs.Incoming.{difference, repeated, if_long, unless_any}

-- a record, and in which list it stands
pub record Telling : Type 0 where
  pub key : Key
  pub how : Standing

abbrev pub key_told : Telling → Key
key_told t = t.key

-- ---- as the code lists them

abbrev pub standing_seen : InList → Standing
standing_seen (lists.Created fields) = as_created fields.now
standing_seen (lists.Updated fields) = as_updated fields.now
standing_seen lists.Deleted = as_deleted

abbrev pub telling_seen : Listed → Telling
telling_seen l = record { key = key_at l.table l.id.now; how = standing_seen l.list }

abbrev pub tellings_seen : List Listed → List Telling
tellings_seen listed = map telling_seen listed

-- ---- as they stand

abbrev pub created_told : ℕ → Remote → Telling
created_told i row = record { key = key_at i row.id; how = as_created row.fields }

abbrev pub updated_told : ℕ → Remote → Telling
updated_told i row = record { key = key_at i row.id; how = as_updated row.fields }

abbrev pub deleted_told : ℕ → List ℕ → Telling
deleted_told i id = record { key = key_at i id; how = as_deleted }

abbrev pub told_at : ℕ → TableChanges → List Telling
told_at i t = map (created_told i) t.created ++ (map (updated_told i) t.updated ++ map (deleted_told i) t.deleted)

abbrev pub told_of : List TableSchema → Changes → ℕ → List Telling
told_of schema changes i = told_at i (changes_for changes (table_at schema i).name)

-- table by table, in the order in which they are declared
abbrev pub tellings : List TableSchema → Changes → List Telling
tellings schema changes = flat_map (told_of schema changes) (range_with_len 0 (length schema))

-- They are all that is told, in the order of the records.
pub record IsListing (schema : List TableSchema) (changes : Changes) (told : List Telling) : Type 0 where
  pub moved : IsPermutation (tellings schema changes) told
  pub rising : do_rise (map key_told told) ≡ true
  pub declared : All (λ t. t.key.table < length schema) told

-- ---- what is made of them

abbrev pub row_after : Fate → Option Raw → Option Raw
row_after Stays before = before
row_after Gone before = None
row_after (Becomes row) before = Some row

abbrev pub fate_told : List TableSchema → Rows → Telling → Option Raw
fate_told schema rows t = fate (columns_at schema t.key.table) t.key.id (at rows t.key) t.how

abbrev pub change_told : List TableSchema → Rows → Telling → Option Change
change_told schema rows t = difference t.key (at rows t.key) (fate_told schema rows t)

abbrev pub long_told : List TableSchema → Telling → Option PullFault
long_told schema t = if_long schema t.key t.how

abbrev pub repeats : List TableSchema → List Telling → List PullFault
repeats schema told = option_to_list (option_map (repeated schema) (first_again (map key_told told)))

-- the change set of what is told in the order of the records, or its first refusal
unfoldable pub incoming_told : List TableSchema → Rows → List Telling → Result (List Change) PullFault
incoming_told schema rows told = do
  once ← unless_any (repeats schema told)
  short ← unless_any (filter_map (long_told schema) told)
  Ok (filter_map (change_told schema rows) told)

-- the row before a change fits its table
abbrev pub BeforeFits : List TableSchema → Change → Type 0
BeforeFits schema c = FitsIfAny (columns_at schema c.table) c.before

abbrev pub BeforesFit : List TableSchema → List Change → Type 0
BeforesFit schema set = AllByRecursion (BeforeFits schema) set
