-- The changes objects and replies that a text can say: those that are read back as they were written.
use Rattle.std.specs.Prelude.{◌≡◌, ℕ, ◌≤◌, List, [], ◌∷◌, Bool, true, not, ◌&&◌}
use Rattle.std.specs.List.{list_all, AllByRecursion}
use Rattle.melon_schema.specs.Names.{is_name, is_id, is_reserved_column}
use Rattle.melon_raw.specs.declared.datum.Datum.{Datum}
use Rattle.melon_raw.specs.declared.datum.Datum.TheVariants.{Null, Words, Whole, Truth}
use Rattle.melon_raw.specs.declared.datum.OpField.{OpField}
use Rattle.melon_raw.specs.Datum.{in_profile}
use Rattle.melon_raw.specs.Order.{is_below}
use Rattle.melon_wire.specs.declared.changes.Remote.{Remote}
use Rattle.melon_wire.specs.declared.changes.TableChanges.{TableChanges}
use Rattle.melon_wire.specs.declared.changes.Changes.{Changes}
use Rattle.melon_wire.specs.declared.pull.PullReply.{PullReply}

-- each name is below those after it
abbrev pub names_ascend : {X : Type 0} → (X → List ℕ) → List X → Bool
names_ascend name [] = true
names_ascend name (x ∷ xs) = list_all (λ y. is_below (name x) (name y)) xs && names_ascend name xs

-- a number is one of the profile
abbrev pub is_in_range : Datum → Bool
is_in_range Null = true
is_in_range (Words text) = true
is_in_range (Whole z) = in_profile z
is_in_range (Truth b) = true

abbrev pub may_be_field : OpField → Bool
may_be_field f = not (is_reserved_column f.column) && is_in_range f.value

-- The fields ascend by their columns, each once; none is named `id`, `_status` or `_changed`.
pub record IsSendable (row : Remote) : Type 0 where
  pub id : is_id row.id ≡ true
  pub ascending : names_ascend (λ f. f.column) row.fields ≡ true
  pub fields : list_all may_be_field row.fields ≡ true

pub record IsTable (table : TableChanges) : Type 0 where
  pub named : is_name table.table ≡ true
  pub created : AllByRecursion IsSendable table.created
  pub deleted : list_all is_id table.deleted ≡ true
  pub updated : AllByRecursion IsSendable table.updated

-- The tables ascend by name, each once.
pub record IsChanges (changes : Changes) : Type 0 where
  pub ascending : names_ascend (λ t. t.table) changes.tables ≡ true
  pub tables : AllByRecursion IsTable changes.tables

pub record IsReply (reply : PullReply) : Type 0 where
  pub changes : IsChanges reply.changes
  pub timestamp : reply.timestamp ≤ 9007199254740991
