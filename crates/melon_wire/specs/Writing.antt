-- The text that a changes object or a reply is written as.
use Rattle.std.specs.Prelude.{ℕ, List, [], ◌∷◌, map, codes}
use Rattle.serde_json.specs.Data.{Data, string, number, unsigned, array, object, Members, no_members, put}
use Rattle.serde_json.specs.View.{items_of}
use Rattle.serde_json.specs.Written.{compact_text}
use Rattle.melon_raw.specs.declared.datum.OpField.{OpField}
use Rattle.melon_raw.specs.Encoding.{datum_data}
use Rattle.melon_wire.specs.declared.changes.Remote.{Remote}
use Rattle.melon_wire.specs.declared.changes.TableChanges.{TableChanges}
use Rattle.melon_wire.specs.declared.changes.Changes.{Changes}
use Rattle.melon_wire.specs.declared.pull.PullReply.{PullReply}

-- these members, and each field under its column
abbrev pub with_fields : List OpField → Members → Members
with_fields [] ms = ms
with_fields (f ∷ fs) ms = with_fields fs (put f.column (datum_data f.value) ms)

abbrev pub id_member : List ℕ → Members
id_member id = put (codes "id") (string id) no_members

-- the row as an object: its id and its fields
abbrev pub row_data : Remote → Data
row_data row = object (with_fields row.fields (id_member row.id))

abbrev pub rows_data : List Remote → Data
rows_data rows = array (items_of (map row_data rows))

abbrev pub ids_data : List (List ℕ) → Data
ids_data ids = array (items_of (map string ids))

-- the three lists under their keys
abbrev pub table_data : TableChanges → Data
table_data t =
    object (put (codes "updated") (rows_data t.updated)
    (put (codes "deleted") (ids_data t.deleted)
    (put (codes "created") (rows_data t.created) no_members)))

-- these members, and each table under its name
abbrev pub with_tables : List TableChanges → Members → Members
with_tables [] ms = ms
with_tables (t ∷ ts) ms = with_tables ts (put t.table (table_data t) ms)

abbrev pub changes_data : Changes → Data
changes_data changes = object (with_tables changes.tables no_members)

abbrev pub reply_data : PullReply → Data
reply_data reply =
    object (put (codes "timestamp") (number (unsigned reply.timestamp))
    (put (codes "changes") (changes_data reply.changes) no_members))

-- compact, with the keys of each object ascending
unfoldable pub changes_text : Changes → List ℕ
changes_text changes = compact_text (changes_data changes)

unfoldable pub reply_text : PullReply → List ℕ
reply_text reply = compact_text (reply_data reply)
