-- The printed texts.
use Rattle.std.specs.Prelude.{ℕ, List, [], ◌∷◌, ◌++◌, map, codes, decimal}
use Rattle.serde_json.specs.Data.{Data, Members, no_members, put, array, object, string}
use Rattle.serde_json.specs.View.{items_of}
use Rattle.serde_json.specs.Written.{compact_text}
use Rattle.melon_raw.specs.Encoding.{datum_data}
use Rattle.melon_raw.specs.declared.datum.OpField.{OpField}
use Rattle.melon_script.specs.declared.item.Item.{Item}
use Rattle.melon_script.specs.declared.item.Item.TheVariants.{Open, Close, EnterHolds, EnterWaits, Nest, LeaveDepth, LeaveNext, LeaveFree, Write, Fetch, Rows, Emit, Still, Drop, Parent, Children, Backend, Server, Refused}
use Rattle.melon_script.specs.declared.item.Given.{Given}
use Rattle.melon_script.specs.declared.item.Given.TheVariants as given
use Rattle.melon_script.specs.declared.item.GivenRow.{GivenRow}
use Rattle.melon_script.specs.declared.item.Group.{Group}
use Rattle.melon_script.specs.declared.item.Group.TheVariants as groups
use Rattle.melon_script.specs.declared.item.Detail.{Detail}
use Rattle.melon_script.specs.declared.item.Detail.TheVariants.{Number, Words, Absent}

-- texts as a JSON list
abbrev pub list_text : List (List ℕ) → List ℕ
list_text texts = compact_text (array (items_of (map string texts)))

-- a text as a JSON string
abbrev pub quoted : List ℕ → List ℕ
quoted text = compact_text (string text)

-- each behind a comma
abbrev pub with_commas : List (List ℕ) → List ℕ
with_commas [] = []
with_commas (text ∷ more) = codes "," ++ (text ++ with_commas more)

-- texts one after another, with commas between
abbrev pub joined : List (List ℕ) → List ℕ
joined [] = []
joined (text ∷ more) = text ++ with_commas more

abbrev pub open_text : List ℕ → ℕ → ℕ → List ℕ
open_text app rows last = codes "open " ++ (app ++ (codes " rows " ++ (decimal rows ++ (codes " last " ++ (decimal last ++ 10 ∷ [])))))

abbrev pub close_text : List ℕ → List ℕ
close_text app = codes "close " ++ (app ++ 10 ∷ [])

abbrev pub holds_text : List ℕ → List ℕ → List ℕ
holds_text app writer = codes "enter " ++ (app ++ (codes " " ++ (writer ++ codes " holds\n")))

abbrev pub waits_text : List ℕ → List ℕ → ℕ → List ℕ
waits_text app writer before = codes "enter " ++ (app ++ (codes " " ++ (writer ++ (codes " waits " ++ (decimal before ++ 10 ∷ [])))))

abbrev pub nest_text : List ℕ → List ℕ → ℕ → List ℕ
nest_text app writer depth = codes "nest " ++ (app ++ (codes " " ++ (writer ++ (codes " depth " ++ (decimal depth ++ 10 ∷ [])))))

abbrev pub depth_text : List ℕ → List ℕ → ℕ → List ℕ
depth_text app writer depth = codes "leave " ++ (app ++ (codes " " ++ (writer ++ (codes " depth " ++ (decimal depth ++ 10 ∷ [])))))

abbrev pub next_text : List ℕ → List ℕ → List ℕ → List ℕ
next_text app writer next = codes "leave " ++ (app ++ (codes " " ++ (writer ++ (codes " next " ++ (next ++ 10 ∷ [])))))

abbrev pub free_text : List ℕ → List ℕ → List ℕ
free_text app writer = codes "leave " ++ (app ++ (codes " " ++ (writer ++ codes " free\n")))

abbrev pub write_text : List ℕ → ℕ → List ℕ
write_text app at = codes "write " ++ (app ++ (codes " at " ++ (decimal at ++ 10 ∷ [])))

abbrev pub fetch_text : List ℕ → List (List ℕ) → List ℕ
fetch_text app ids = codes "fetch " ++ (app ++ (codes " " ++ (list_text ids ++ 10 ∷ [])))

abbrev pub rows_head : List ℕ → List ℕ → List ℕ
rows_head app table = codes "rows " ++ (app ++ (codes " " ++ (table ++ codes " [")))

abbrev pub rows_text : List ℕ → List ℕ → List (List ℕ) → List ℕ
rows_text app table rows = (rows_head app table ++ joined rows) ++ (93 ∷ 10 ∷ [])

-- ---- what is shown

-- these members, and each field's value under its column's name
abbrev pub with_fields : List OpField → Members → Members
with_fields [] ms = ms
with_fields (f ∷ fs) ms = with_fields fs (put f.column (datum_data f.value) ms)

-- a row as a JSON object with its id and the named columns
abbrev pub given_row_data : GivenRow → Data
given_row_data row = object (with_fields row.fields (put (codes "id") (string row.id) no_members))

abbrev pub given_row_text : GivenRow → List ℕ
given_row_text row = compact_text (given_row_data row)

abbrev pub given_rows_text : List GivenRow → List ℕ
given_rows_text rows = codes "[" ++ (joined (map given_row_text rows) ++ codes "]")

abbrev pub given_text : Given → List ℕ
given_text (given.Ids ids) = list_text ids
given_text (given.Rows rows) = given_rows_text rows
given_text given.Nothing = codes "null"
given_text given.Missing = quoted (codes "missing")
given_text (given.Row body) = body

abbrev pub emit_head : List ℕ → List ℕ → ℕ → List ℕ
emit_head app name at = codes "emit " ++ (app ++ (codes " " ++ (name ++ (codes " at " ++ (decimal at ++ codes " ")))))

abbrev pub emit_text : List ℕ → List ℕ → ℕ → Given → List ℕ
emit_text app name at shown = (emit_head app name at ++ given_text shown) ++ 10 ∷ []

abbrev pub still_text : List ℕ → List ℕ → ℕ → List ℕ
still_text app name at = codes "still " ++ (app ++ (codes " " ++ (name ++ (codes " at " ++ (decimal at ++ 10 ∷ [])))))

abbrev pub drop_text : List ℕ → List ℕ → List ℕ
drop_text app name = codes "drop " ++ (app ++ (codes " " ++ (name ++ 10 ∷ [])))

abbrev pub parent_head : List ℕ → List ℕ
parent_head app = codes "parent " ++ (app ++ codes " ")

abbrev pub parent_text : List ℕ → Given → List ℕ
parent_text app shown = (parent_head app ++ given_text shown) ++ 10 ∷ []

abbrev pub children_text : List ℕ → List (List ℕ) → List ℕ
children_text app ids = codes "children " ++ (app ++ (codes " " ++ (list_text ids ++ 10 ∷ [])))

-- ---- the server

abbrev pub backend_text : ℕ → List ℕ
backend_text revision = codes "backend revision " ++ (decimal revision ++ 10 ∷ [])

abbrev pub server_head : List ℕ → ℕ → List ℕ
server_head table revision = codes "server " ++ (table ++ (codes " revision " ++ (decimal revision ++ codes " ")))

abbrev pub server_text : List ℕ → ℕ → List ℕ → List ℕ
server_text table revision rows = (server_head table revision ++ rows) ++ 10 ∷ []

-- ---- refusals

abbrev pub group_word : Group → List ℕ
group_word groups.App = codes "app"
group_word groups.Open = codes "open"
group_word groups.Schema = codes "schema"
group_word groups.Backend = codes "backend"
group_word groups.Table = codes "table"
group_word groups.Queue = codes "queue"
group_word groups.Ops = codes "ops"
group_word groups.Batch = codes "batch"
group_word groups.Full = codes "full"
group_word groups.Query = codes "query"
group_word groups.Observer = codes "observer"
group_word groups.Relation = codes "relation"
group_word groups.Keeper = codes "keeper"

abbrev pub detail_text : Detail → List ℕ
detail_text (Number n) = decimal n
detail_text (Words text) = quoted text
detail_text Absent = codes "null"

-- each after one space
abbrev pub details_text : List Detail → List ℕ
details_text [] = []
details_text (d ∷ ds) = codes " " ++ (detail_text d ++ details_text ds)

abbrev pub refused_head : Group → ℕ → List ℕ
refused_head group number = codes "refused " ++ (group_word group ++ (codes " " ++ decimal number))

abbrev pub refused_text : Group → ℕ → List Detail → List ℕ
refused_text group number details = (refused_head group number ++ details_text details) ++ 10 ∷ []

abbrev pub item_text : Item → List ℕ
item_text (Open app rows last) = open_text app rows last
item_text (Close app) = close_text app
item_text (EnterHolds app writer) = holds_text app writer
item_text (EnterWaits app writer before) = waits_text app writer before
item_text (Nest app writer depth) = nest_text app writer depth
item_text (LeaveDepth app writer depth) = depth_text app writer depth
item_text (LeaveNext app writer next) = next_text app writer next
item_text (LeaveFree app writer) = free_text app writer
item_text (Write app at) = write_text app at
item_text (Fetch app ids) = fetch_text app ids
item_text (Rows app table rows) = rows_text app table rows
item_text (Emit app name at shown) = emit_text app name at shown
item_text (Still app name at) = still_text app name at
item_text (Drop app name) = drop_text app name
item_text (Parent app shown) = parent_text app shown
item_text (Children app ids) = children_text app ids
item_text (Backend revision) = backend_text revision
item_text (Server table revision rows) = server_text table revision rows
item_text (Refused group number details) = refused_text group number details

-- the items of an answer, one after another
abbrev pub answer_text : List Item → List ℕ
answer_text [] = []
answer_text (item ∷ items) = item_text item ++ answer_text items
