-- What holds of every open store, and that each plan keeps it.
use Rattle.std.specs.Prelude.{◌≡◌, ℕ, List, [], length, Bool, true, IsUtf8, Option, Some, None, Result, Ok}
use Rattle.std.specs.List.{AllByRecursion}
use Rattle.serde_json.specs.Data.{Data}
use Rattle.melon_schema.specs.Schema.{schema_of}
pub use Rattle.melon_schema.specs.Sound.{have_different_names, HasSoundColumns}
use Rattle.melon_schema.specs.Seen.{SeenSchema}
use Rattle.melon_schema.specs.declared.schema.TableSchema.{TableSchema}
use Rattle.melon_raw.specs.Rows.{Rows}
use Rattle.melon_outside.specs.declared.kept.Kept.{Kept}
use Rattle.melon_outside.specs.declared.kept.KeptBatch.{KeptBatch}
use Rattle.melon_outside.specs.declared.kept.KeptRow.{KeptRow}
use Rattle.melon_outside.specs.Kept.{batched, is_in_order}
use Rattle.melon_change.specs.declared.op.Op.{Op}
use Rattle.melon_change.specs.declared.change.Change.{Change}
use Rattle.melon_change.specs.declared.history.Origin.{Origin}
use Rattle.melon_change.specs.History.{AreChanges}
use Rattle.melon_board.specs.Boards.{AreKept}
use Rattle.melon_board.specs.Stores.{SeenStore, with_last, Continues}
use Rattle.melon_board.specs.Batches.{last_batch}
use Rattle.melon_board.specs.Plans.{Plan, install_plan, write_plan}
use Rattle.melon_board.specs.Opening.{open_plan, opened}
use Rattle.melon_board.specs.Keeps.{Keeps}

-- The tables have different names, and each has its rows, which ascend and fit it.
pub record IsWellFormed (store : SeenStore) : Type 0 where
  pub names : have_different_names store.schema.tables ≡ true
  pub tables : length store.rows ≡ length store.schema.tables
  pub rows : AreKept store.schema.tables store.rows

-- what is kept once the batch is done, where there is one
abbrev pub kept_after : Option KeptBatch → Kept → Kept
kept_after None kept = kept
kept_after (Some batch) kept = batched batch kept

-- The store after the plan is well-formed, and what is kept once the plan is done is what it has.
pub record IsKeptAfter (plan : Plan) (kept : Kept) : Type 0 where
  pub formed : IsWellFormed plan.after
  pub keeps : Keeps plan.after (kept_after plan.batch kept)

-- a timestamp saved
abbrev pub last_plan : ℕ → SeenStore → Plan
last_plan at store = record { batch = Some (last_batch at); after = with_last at store }

-- ---- the rows are kept

-- A batch written keeps the rows.
abbrev pub WritesKeepRows : Type 0
WritesKeepRows = (store : SeenStore) (kept : Kept) (ops : List Op) (plan : Plan) → IsWellFormed store → Keeps store kept → write_plan store ops ≡ Ok plan → IsKeptAfter plan kept

-- A change set installed keeps them.
abbrev pub InstallsKeepRows : Type 0
InstallsKeepRows =
    (store : SeenStore) (kept : Kept) (origin : Origin) (set : List Change) (plan : Plan) → IsWellFormed store → Keeps store kept → AreChanges store.schema.tables store.rows origin set
    → install_plan store origin set ≡ Ok plan → IsKeptAfter plan kept

-- A timestamp saved keeps them.
abbrev pub SavesKeepRows : Type 0
SavesKeepRows = (store : SeenStore) (kept : Kept) (at : ℕ) → IsWellFormed store → Keeps store kept → IsKeptAfter (last_plan at store) kept

-- An opening over what is kept in order has the rows that are kept.
abbrev pub OpeningsKeepRows : Type 0
OpeningsKeepRows =
    (name : List ℕ) (schema : SeenSchema) (kept : Kept) (plan : Plan) → have_different_names schema.tables ≡ true → is_in_order kept ≡ true → open_plan name schema kept ≡ Ok plan → IsKeptAfter plan kept

-- ---- the journal is a legal history

-- An opened store continues its own rows.
abbrev pub OpeningsBegin : Type 0
OpeningsBegin = (name : List ℕ) (schema : SeenSchema) (kept : Kept) (plan : Plan) → open_plan name schema kept ≡ Ok plan → Continues plan.after.rows plan.after

abbrev pub WritesContinue : Type 0
WritesContinue = (opening : Rows) (store : SeenStore) (ops : List Op) (plan : Plan) → IsWellFormed store → Continues opening store → write_plan store ops ≡ Ok plan → Continues opening plan.after

abbrev pub InstallsContinue : Type 0
InstallsContinue =
    (opening : Rows) (store : SeenStore) (origin : Origin) (set : List Change) (plan : Plan) → Continues opening store → AreChanges store.schema.tables store.rows origin set → install_plan store origin set ≡ Ok plan
    → Continues opening plan.after

abbrev pub SavesContinue : Type 0
SavesContinue = (opening : Rows) (store : SeenStore) (at : ℕ) → Continues opening store → Continues opening (with_last at store)

-- ---- schemas

-- A schema that is read declares tables with different names.
abbrev pub ReadSchemasHaveDifferentNames : Type 0
ReadSchemasHaveDifferentNames = (d : Data) (schema : SeenSchema) → schema_of d ≡ Ok schema → have_different_names schema.tables ≡ true

-- Each of its tables has columns of different names, after the rule for names and none reserved.
abbrev pub ReadSchemasAreSound : Type 0
ReadSchemasAreSound = (d : Data) (schema : SeenSchema) → schema_of d ≡ Ok schema → AllByRecursion HasSoundColumns schema.tables

-- ---- what is kept opens again

-- the store as it is opened again: with its rows and its timestamp, and no entry
abbrev pub opened_again : SeenStore → SeenStore
opened_again store = record { name = store.name; schema = store.schema; rows = store.rows; entries = []; last = store.last }

-- each body that is kept is a text
abbrev pub AreTexts : List KeptRow → Type 0
AreTexts kept = AllByRecursion (λ row. IsUtf8 row.body) kept

-- What is kept of a store opens under its schema as that store.
abbrev pub KeptStoresOpenAgain : Type 0
KeptStoresOpenAgain =
    (store : SeenStore) (kept : Kept) → IsWellFormed store → AllByRecursion HasSoundColumns store.schema.tables → Keeps store kept → AreTexts kept.rows → opened store.name store.schema kept ≡ Ok (opened_again store)
