-- Which JSON is a changes object or the reply to a pull, and what it says; for every other its first fault.
use Rattle.std.specs.Prelude.{ℕ, List, [], ◌∷◌, Bool, not, filter, Option, Some, None, Result, Ok, codes}
use Rattle.serde_json.specs.Data as json
use Rattle.serde_json.specs.Data.{Data, Members}
use Rattle.serde_json.specs.Find.{get, get_member, as_str, as_object}
use Rattle.melon_schema.specs.Bytes.{json_of}
use Rattle.melon_schema.specs.Faults.{◌>>=◌, unless, or_fault, each_read}
use Rattle.melon_schema.specs.Json.{named, list_of, has_only, text_at, count_of}
use Rattle.melon_schema.specs.Names.{is_name, is_id, is_reserved_column}
use Rattle.melon_raw.specs.declared.datum.Datum.{Datum}
use Rattle.melon_raw.specs.declared.datum.Datum.TheVariants.{Null, Words, Truth}
use Rattle.melon_raw.specs.declared.datum.OpField.{OpField}
use Rattle.melon_raw.specs.Datum.{whole_of}
use Rattle.melon_wire.specs.declared.changes.Remote.{Remote}
use Rattle.melon_wire.specs.declared.changes.TableChanges.{TableChanges}
use Rattle.melon_wire.specs.declared.changes.Changes.{Changes}
use Rattle.melon_wire.specs.declared.pull.PullReply.{PullReply}
use Rattle.melon_wire.specs.declared.wire_fault.WireFault.{WireFault}
use Rattle.melon_wire.specs.declared.wire_fault.WireFault.TheVariants.{NotJson, Form, Number, Name, BadId}

-- ---- rows

-- a list or an object is read as null
abbrev pub value_of : Data → Result Datum WireFault
value_of json.null = Ok Null
value_of (json.boolean b) = Ok (Truth b)
value_of (json.number n) = or_fault (whole_of n) Number
value_of (json.string s) = Ok (Words s)
value_of (json.array ds) = Ok Null
value_of (json.object ms) = Ok Null

abbrev pub field_of : List ℕ × Data → Result OpField WireFault
field_of m = value_of m.1 >>= λ value. Ok (record { column = m.0; value = value })

-- `_status` and `_changed` are passed over, and the id is no field
abbrev pub is_field : List ℕ × Data → Bool
is_field m = not (is_reserved_column m.0)

-- the fields, ascending by their columns
abbrev pub fields_of : Members → Result (List OpField) WireFault
fields_of ms = each_read field_of (filter is_field (named ms))

abbrev pub id_in : List ℕ → Result (List ℕ) WireFault
id_in text = unless (is_id text) BadId >>= λ good. Ok text

-- the id under its key
abbrev pub id_at : Data → Result (List ℕ) WireFault
id_at d = or_fault (text_at (codes "id") d) Form >>= id_in

-- an object with an id, and any fields beside it
unfoldable pub row_of : Data → Result Remote WireFault
row_of d = do
  id ← id_at d
  members ← or_fault (as_object d) Form
  fields ← fields_of members
  Ok (record { id = id; fields = fields })

-- a text that is an id
abbrev pub id_of : Data → Result (List ℕ) WireFault
id_of d = or_fault (as_str d) Form >>= id_in

-- ---- tables

abbrev pub items_in : Option Data → Option (List Data)
items_in None = Some []
items_in (Some d) = list_of d

-- the items of the list under a key, which may be missing
abbrev pub items_at : List ℕ → Members → Result (List Data) WireFault
items_at key ms = or_fault (items_in (get_member key ms)) Form

-- {"created": [rows], "deleted": [ids], "updated": [rows]} under a name
unfoldable pub table_of : List ℕ × Data → Result TableChanges WireFault
table_of m = do
  good ← unless (is_name m.0) Name
  known ← unless (has_only (codes "created" ∷ codes "deleted" ∷ codes "updated" ∷ []) m.1) Form
  members ← or_fault (as_object m.1) Form
  new ← items_at (codes "created") members
  gone ← items_at (codes "deleted") members
  edited ← items_at (codes "updated") members
  created ← each_read row_of new
  deleted ← each_read id_of gone
  updated ← each_read row_of edited
  Ok (record { table = m.0; created = created; updated = updated; deleted = deleted })

-- ---- the whole

-- an object of tables by their names
unfoldable pub changes_of : Data → Result Changes WireFault
changes_of d = do
  members ← or_fault (as_object d) Form
  tables ← each_read table_of (named members)
  Ok (record { tables = tables })

-- {"changes": {..}, "timestamp": number}, and any keys beside these
unfoldable pub reply_of : Data → Result PullReply WireFault
reply_of d = do
  content ← or_fault (get (codes "changes") d) Form
  stamp ← or_fault (get (codes "timestamp") d) Form
  changes ← changes_of content
  timestamp ← or_fault (count_of stamp) Number
  Ok (record { changes = changes; timestamp = timestamp })

-- The changes object that bytes are, or their first fault.
abbrev pub changes_in : List ℕ → Result Changes WireFault
changes_in bytes = or_fault (json_of bytes) NotJson >>= changes_of

-- The reply that bytes are, or their first fault.
abbrev pub reply_in : List ℕ → Result PullReply WireFault
reply_in bytes = or_fault (json_of bytes) NotJson >>= reply_of
