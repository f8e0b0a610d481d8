-- Which JSON is a list of operations, and its first fault.
use Rattle.std.specs.Prelude.{◌≡◌, ℕ, ◌+◌, List, [], ◌∷◌, Bool, true, false, not, Option, Some, None, Result, Ok, Err, option_map, is_some, position, codes, if◌then◌else◌}
use Rattle.serde_json.specs.Data as json
use Rattle.serde_json.specs.Data.{Data}
use Rattle.serde_json.specs.Find.{get}
use Rattle.melon_schema.specs.Json.{◌>>=◌, given, each, has_only, text_at, list_of, members_given}
use Rattle.melon_raw.specs.declared.datum.Datum.{Datum}
use Rattle.melon_raw.specs.declared.datum.Datum.TheVariants.{Null}
use Rattle.melon_raw.specs.declared.datum.OpField.{OpField}
use Rattle.melon_raw.specs.Datum.{datum_of}
use Rattle.melon_change.specs.declared.op.Op.{Op}
use Rattle.melon_change.specs.declared.op.Op.TheVariants.{Create, Update, MarkDeleted, Destroy}
use Rattle.melon_change.specs.declared.op.OpsFault.{OpsFault}
use Rattle.melon_change.specs.declared.op.OpsFault.TheVariants.{Form, Number, Memory}

-- a value of the form, whatever its number is
abbrev pub any_value : Data → Option Datum
any_value (json.number n) = Some Null
any_value (json.array ds) = None
any_value (json.object ms) = None
any_value (json.null) = Some Null
any_value (json.boolean b) = Some Null
any_value (json.string s) = Some Null

-- a value of a column: exactly, or in its form alone
abbrev pub value_of : Bool → Data → Option Datum
value_of true d = datum_of d
value_of false d = any_value d

abbrev pub field_of : Bool → List ℕ → Data → Option OpField
field_of exact column d = option_map (λ value. record { column = column; value = value }) (value_of exact d)

-- the values that are set, ascending by their columns
abbrev pub set_of : Bool → Data → Option (List OpField)
set_of exact d = get (codes "set") d >>= members_given (field_of exact)

unfoldable pub create_of : Bool → Data → Option Op
create_of exact d = do
  known ← given (has_only (codes "create" ∷ codes "id" ∷ codes "set" ∷ []) d)
  table ← text_at (codes "create") d
  id ← text_at (codes "id") d
  set ← set_of exact d
  Some (Create table id set)

unfoldable pub update_of : Bool → Data → Option Op
update_of exact d = do
  known ← given (has_only (codes "update" ∷ codes "id" ∷ codes "set" ∷ []) d)
  table ← text_at (codes "update") d
  id ← text_at (codes "id") d
  set ← set_of exact d
  Some (Update table id set)

unfoldable pub delete_of : Data → Option Op
delete_of d = do
  known ← given (has_only (codes "delete" ∷ codes "id" ∷ []) d)
  table ← text_at (codes "delete") d
  id ← text_at (codes "id") d
  Some (MarkDeleted table id)

unfoldable pub destroy_of : Data → Option Op
destroy_of d = do
  known ← given (has_only (codes "destroy" ∷ codes "id" ∷ []) d)
  table ← text_at (codes "destroy") d
  id ← text_at (codes "id") d
  Some (Destroy table id)

-- an operation is told by the key of its table: exactly, or in its form alone
abbrev pub op_of : Bool → Data → Option Op
op_of exact d =
    if is_some (get (codes "create") d) then create_of exact d
    else (if is_some (get (codes "update") d) then update_of exact d
    else (if is_some (get (codes "delete") d) then delete_of d else destroy_of d))

-- the first that is none
abbrev pub first_none : Bool → List Data → Option ℕ
first_none exact ds = position (λ d. not (is_some (op_of exact d))) ds

-- the first that is outside the form, or else the first with a number outside the profile
abbrev pub fault_in : Option ℕ → Option ℕ → OpsFault
fault_in (Some i) number = Form (i + 1)
fault_in None (Some i) = Number (i + 1)
fault_in None None = Form 0

abbrev pub or_fault_in : List Data → Option (List Op) → Result (List Op) OpsFault
or_fault_in ds (Some ops) = Ok ops
or_fault_in ds None = Err (fault_in (first_none false ds) (first_none true ds))

abbrev pub ops_in : Option (List Data) → Result (List Op) OpsFault
ops_in None = Err (Form 0)
ops_in (Some ds) = or_fault_in ds (each (op_of true) ds)

-- The operations that a JSON lists, or their first fault.
abbrev pub ops_of : Data → Result (List Op) OpsFault
ops_of d = ops_in (list_of d)
