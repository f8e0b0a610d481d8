-- Laws of a backend that stands for a log.
use Rattle.std.specs.Prelude.{◌≡◌, ℕ, List, true, Ok}
use Rattle.melon_schema.specs.Seen.{SeenSchema}
use Rattle.melon_outside.specs.declared.kept.Kept.{Kept}
use Rattle.melon_outside.specs.Kept.{is_in_order}
use Rattle.melon_wire.specs.declared.changes.TableChanges.{TableChanges}
use Rattle.melon_wire.specs.declared.changes.Changes.{Changes}
use Rattle.melon_wire.specs.Forms.{names_ascend}
use Rattle.melon_wire.specs.Reading.{changes_in}
use Rattle.melon_log.specs.ServerRows.{at}
use Rattle.melon_log.specs.Log.{Log, after_push}
use Rattle.melon_log.specs.Pulled.{pull_of, pulled}
use Rattle.melon_log.specs.Verdict.{judged, verdict}
use Rattle.melon_log.specs.Laws.{NamesApart}
use Rattle.melon_backend.specs.Backends.{SeenBackend, Plan, open_plan}
use Rattle.melon_backend.specs.Pushing.{push_plan}
use Rattle.melon_backend.specs.Standing.{Stands, opened_log, IsWellKept}
use Rattle.melon_backend.specs.Keeps.{Keeps, KeepsLog, kept_after}

-- a backend that was opened stands for its log
abbrev pub OpeningStands : Type 0
OpeningStands = (b : SeenBackend) → NamesApart b.schema.tables → IsWellKept b → Stands (opened_log b) b

-- what it answers to a pull is the log's answer
abbrev pub PullIsLogs : Type 0
PullIsLogs = (g : Log) (b : SeenBackend) (t : ℕ) → Stands g b → pull_of b.schema.tables b.revision b.rows t ≡ pulled g t

-- it accepts the pushes that the log accepts, and refuses the others as the log does
abbrev pub VerdictIsLogs : Type 0
VerdictIsLogs = (g : Log) (b : SeenBackend) (t : ℕ) (c : Changes) → Stands g b → judged b.schema.tables b.revision (at b.rows) t c ≡ verdict g t c

-- after an accepted push it stands for the log after it
abbrev pub PushFollowsLog : Type 0
PushFollowsLog =
    (g : Log) (b : SeenBackend) (t : ℕ) (c : Changes) (plan : Plan) → names_ascend (λ (u : TableChanges). u.table) c.tables ≡ true → Stands g b → push_plan b t c ≡ Ok plan
    → Stands (after_push g c) plan.after

-- ---- what is kept

-- The opened backend stands for the log that begins with it, and what is kept once the plan is done is what that log
-- amounts to.
pub record BeginsLog (plan : Plan) (kept : Kept) : Type 0 where
  pub stands : Stands (opened_log plan.after) plan.after
  pub keeps : KeepsLog (opened_log plan.after) plan.after.schema.version (kept_after plan.batch kept)

-- an opening over what is kept in order
abbrev pub OpeningBeginsLog : Type 0
OpeningBeginsLog =
    (name : List ℕ) (schema : SeenSchema) (kept : Kept) (plan : Plan) → NamesApart schema.tables → is_in_order kept ≡ true → open_plan name schema kept ≡ Ok plan → BeginsLog plan kept

-- Where what is kept is what the log amounts to, the same holds once what an accepted push asks is done.
abbrev pub PushKeepsLog : Type 0
PushKeepsLog =
    (g : Log) (b : SeenBackend) (t : ℕ) (c : Changes) (plan : Plan) (kept : Kept) → names_ascend (λ (u : TableChanges). u.table) c.tables ≡ true → Stands g b → KeepsLog g b.schema.version kept → push_plan b t c ≡ Ok plan
    → KeepsLog (after_push g c) b.schema.version (kept_after plan.batch kept)

-- where a backend stands for a log, its own rows are kept just where the log's are
pub record AreKeptAlike (g : Log) (b : SeenBackend) (kept : Kept) : Type 0 where
  pub to_log : Keeps b kept → KeepsLog g b.schema.version kept
  pub to_backend : KeepsLog g b.schema.version kept → Keeps b kept

abbrev pub RowsAreLogs : Type 0
RowsAreLogs = (g : Log) (b : SeenBackend) (kept : Kept) → Stands g b → AreKeptAlike g b kept

-- ---- what is pushed

-- The tables of changes that are read ascend by name, as a push needs it.
abbrev pub ReadTablesAscend : Type 0
ReadTablesAscend = (bytes : List ℕ) (c : Changes) → changes_in bytes ≡ Ok c → names_ascend (λ (u : TableChanges). u.table) c.tables ≡ true
