-- Which bytes are a line, and which line they are.
use Rattle.std.specs.Prelude.{ℕ, List, [], ◌∷◌, Bool, true, ◌||◌, ◌==◌, Option, Some, None, option_map, codes, bytes_eq, if◌then◌else◌}
use Rattle.std.specs.List.{list_all}
use Rattle.serde_json.specs.Data.{Data}
use Rattle.serde_json.specs.Find.{get, as_str}
use Rattle.melon_schema.specs.Bytes.{json_of}
use Rattle.melon_schema.specs.Json.{◌>>=◌, given, has_only, text_at, list_of, each}
use Rattle.melon_script.specs.declared.line.LineShape.{LineShape}
use Rattle.melon_script.specs.declared.line.LineShape.TheVariants.{Ids, Columns}
use Rattle.melon_script.specs.SeenLine.{SeenLine, Open, Close, Enter, Nest, Leave, Write, Fetch, Rows, Observe, Watch, Turn, Drop, Parent, Children, Backend, Server}

abbrev pub part_at : List ℕ → Data → Option Data
part_at key d = get key d

-- {"do":"open","app":text,"schema":any}
unfoldable pub open_form : Data → Option SeenLine
open_form d = do
  known ← given (has_only (codes "do" ∷ codes "app" ∷ codes "schema" ∷ []) d)
  app ← text_at (codes "app") d
  schema ← part_at (codes "schema") d
  Some (Open app schema)

-- {"do":"close","app":text}
unfoldable pub close_form : Data → Option SeenLine
close_form d = do
  known ← given (has_only (codes "do" ∷ codes "app" ∷ []) d)
  app ← text_at (codes "app") d
  Some (Close app)

-- {"do":"enter","app":text,"writer":text}
unfoldable pub enter_form : Data → Option SeenLine
enter_form d = do
  known ← given (has_only (codes "do" ∷ codes "app" ∷ codes "writer" ∷ []) d)
  app ← text_at (codes "app") d
  writer ← text_at (codes "writer") d
  Some (Enter app writer)

-- {"do":"nest","app":text,"writer":text}
unfoldable pub nest_form : Data → Option SeenLine
nest_form d = do
  known ← given (has_only (codes "do" ∷ codes "app" ∷ codes "writer" ∷ []) d)
  app ← text_at (codes "app") d
  writer ← text_at (codes "writer") d
  Some (Nest app writer)

-- {"do":"leave","app":text,"writer":text}
unfoldable pub leave_form : Data → Option SeenLine
leave_form d = do
  known ← given (has_only (codes "do" ∷ codes "app" ∷ codes "writer" ∷ []) d)
  app ← text_at (codes "app") d
  writer ← text_at (codes "writer") d
  Some (Leave app writer)

-- a text, or nothing under the key
abbrev pub text_in : Option Data → Option (Option (List ℕ))
text_in None = Some None
text_in (Some part) = option_map Some (as_str part)

abbrev pub text_if_at : List ℕ → Data → Option (Option (List ℕ))
text_if_at key d = text_in (get key d)

-- {"do":"write","app":text,"ops":any}, and {"writer":text} where a writer makes it
unfoldable pub write_form : Data → Option SeenLine
write_form d = do
  known ← given (has_only (codes "do" ∷ codes "app" ∷ codes "ops" ∷ codes "writer" ∷ []) d)
  app ← text_at (codes "app") d
  writer ← text_if_at (codes "writer") d
  ops ← part_at (codes "ops") d
  Some (Write app ops writer)

-- {"do":"fetch","app":text,"table":text,"query":any}
unfoldable pub fetch_form : Data → Option SeenLine
fetch_form d = do
  known ← given (has_only (codes "do" ∷ codes "app" ∷ codes "table" ∷ codes "query" ∷ []) d)
  app ← text_at (codes "app") d
  table ← text_at (codes "table") d
  query ← part_at (codes "query") d
  Some (Fetch app table query)

-- {"do":"rows","app":text,"table":text}
unfoldable pub rows_form : Data → Option SeenLine
rows_form d = do
  known ← given (has_only (codes "do" ∷ codes "app" ∷ codes "table" ∷ []) d)
  app ← text_at (codes "app") d
  table ← text_at (codes "table") d
  Some (Rows app table)

-- "ids", or a list of column names
abbrev pub shape_by : Data → Option (List ℕ) → Option LineShape
shape_by d (Some word) = if bytes_eq word (codes "ids") then Some Ids else None
shape_by d None = option_map Columns (list_of d >>= each as_str)

abbrev pub shape_of : Data → Option LineShape
shape_of d = shape_by d (as_str d)

abbrev pub shape_at : List ℕ → Data → Option LineShape
shape_at key d = get key d >>= shape_of

-- {"do":"observe","app":text,"name":text,"table":text,"query":any,"shape":shape}
unfoldable pub observe_form : Data → Option SeenLine
observe_form d = do
  known ← given (has_only (codes "do" ∷ codes "app" ∷ codes "name" ∷ codes "table" ∷ codes "query" ∷ codes "shape" ∷ []) d)
  app ← text_at (codes "app") d
  name ← text_at (codes "name") d
  table ← text_at (codes "table") d
  shape ← shape_at (codes "shape") d
  query ← part_at (codes "query") d
  Some (Observe app name table query shape)

-- {"do":"watch","app":text,"name":text,"table":text,"id":text,"to":text}
unfoldable pub watch_form : Data → Option SeenLine
watch_form d = do
  known ← given (has_only (codes "do" ∷ codes "app" ∷ codes "name" ∷ codes "table" ∷ codes "id" ∷ codes "to" ∷ []) d)
  app ← text_at (codes "app") d
  name ← text_at (codes "name") d
  table ← text_at (codes "table") d
  id ← text_at (codes "id") d
  to ← text_at (codes "to") d
  Some (Watch app name table id to)

-- {"do":"turn","app":text,"name":text}
unfoldable pub turn_form : Data → Option SeenLine
turn_form d = do
  known ← given (has_only (codes "do" ∷ codes "app" ∷ codes "name" ∷ []) d)
  app ← text_at (codes "app") d
  name ← text_at (codes "name") d
  Some (Turn app name)

-- {"do":"drop","app":text,"name":text}
unfoldable pub drop_form : Data → Option SeenLine
drop_form d = do
  known ← given (has_only (codes "do" ∷ codes "app" ∷ codes "name" ∷ []) d)
  app ← text_at (codes "app") d
  name ← text_at (codes "name") d
  Some (Drop app name)

-- {"do":"parent","app":text,"table":text,"id":text,"to":text}
unfoldable pub parent_form : Data → Option SeenLine
parent_form d = do
  known ← given (has_only (codes "do" ∷ codes "app" ∷ codes "table" ∷ codes "id" ∷ codes "to" ∷ []) d)
  app ← text_at (codes "app") d
  table ← text_at (codes "table") d
  id ← text_at (codes "id") d
  to ← text_at (codes "to") d
  Some (Parent app table id to)

-- {"do":"children","app":text,"table":text,"id":text,"to":text}
unfoldable pub children_form : Data → Option SeenLine
children_form d = do
  known ← given (has_only (codes "do" ∷ codes "app" ∷ codes "table" ∷ codes "id" ∷ codes "to" ∷ []) d)
  app ← text_at (codes "app") d
  table ← text_at (codes "table") d
  id ← text_at (codes "id") d
  to ← text_at (codes "to") d
  Some (Children app table id to)

-- {"do":"backend","schema":any}
unfoldable pub backend_form : Data → Option SeenLine
backend_form d = do
  known ← given (has_only (codes "do" ∷ codes "schema" ∷ []) d)
  schema ← part_at (codes "schema") d
  Some (Backend schema)

-- {"do":"server","table":text}
unfoldable pub server_form : Data → Option SeenLine
server_form d = do
  known ← given (has_only (codes "do" ∷ codes "table" ∷ []) d)
  table ← text_at (codes "table") d
  Some (Server table)

unfoldable pub form_of : Data → Option SeenLine
form_of d = do
  word ← text_at (codes "do") d
  if bytes_eq word (codes "open") then open_form d else
      (if bytes_eq word (codes "close") then close_form d else
      (if bytes_eq word (codes "enter") then enter_form d else
      (if bytes_eq word (codes "nest") then nest_form d else
      (if bytes_eq word (codes "leave") then leave_form d else
      (if bytes_eq word (codes "write") then write_form d else
      (if bytes_eq word (codes "fetch") then fetch_form d else
      (if bytes_eq word (codes "rows") then rows_form d else
      (if bytes_eq word (codes "observe") then observe_form d else
      (if bytes_eq word (codes "watch") then watch_form d else
      (if bytes_eq word (codes "turn") then turn_form d else
      (if bytes_eq word (codes "drop") then drop_form d else
      (if bytes_eq word (codes "parent") then parent_form d else
      (if bytes_eq word (codes "children") then children_form d else
      (if bytes_eq word (codes "backend") then backend_form d else
      (if bytes_eq word (codes "server") then server_form d else None)))))))))))))))

-- spaces and tabs alone
abbrev pub is_blank : List ℕ → Bool
is_blank bytes = list_all (λ b. b == 32 || b == 9) bytes

unfoldable pub line_of : List ℕ → Option SeenLine
line_of bytes = json_of bytes >>= form_of
