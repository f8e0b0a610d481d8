-- What holds of every change set of a pull.
use Rattle.std.specs.Prelude.{◌≡◌, List, [], length, true, Ok}
use Rattle.melon_schema.specs.declared.schema.TableSchema.{TableSchema}
use Rattle.melon_raw.specs.Rows.{Key, Rows, at}
use Rattle.melon_change.specs.declared.change.Change.{Change}
use Rattle.melon_change.specs.declared.history.Origin.TheVariants.{Applied}
use Rattle.melon_change.specs.Changes.{after_set}
use Rattle.melon_change.specs.History.{AreChanges}
use Rattle.melon_change.specs.Legality.{RowsFit}
use Rattle.melon_wire.specs.declared.changes.Changes.{Changes}
use Rattle.melon_wire.specs.Standing.{has_ids}
use Rattle.melon_wire.specs.Fates.{fate_of}
use Rattle.melon_pull.specs.Incoming.{incoming_of}

-- each record has its fate on the rows after the set
abbrev pub LeavesFates : List TableSchema → Rows → Changes → List Change → Type 0
LeavesFates schema rows changes set = (x : Key) → at (after_set rows set) x ≡ fate_of schema rows changes x

-- on the rows after the set the change set of the same changes object is empty
abbrev pub IsOnce : List TableSchema → Rows → Changes → List Change → Type 0
IsOnce schema rows changes set = incoming_of schema (after_set rows set) changes ≡ Ok []

abbrev pub IncomingLeavesFates : Type 0
IncomingLeavesFates = (schema : List TableSchema) (rows : Rows) (changes : Changes) (set : List Change) → length rows ≡ length schema → incoming_of schema rows changes ≡ Ok set → LeavesFates schema rows changes set

abbrev pub TwiceIsOnce : Type 0
TwiceIsOnce = (schema : List TableSchema) (rows : Rows) (changes : Changes) (set : List Change) → length rows ≡ length schema → incoming_of schema rows changes ≡ Ok set → IsOnce schema rows changes set

-- The set is one that an applied entry may have.
abbrev pub IncomingIsAllowed : Type 0
IncomingIsAllowed =
    (schema : List TableSchema) (rows : Rows) (changes : Changes) (set : List Change) → length rows ≡ length schema → RowsFit schema rows → has_ids changes ≡ true
    → incoming_of schema rows changes ≡ Ok set → AreChanges schema rows Applied set
