-- A line as its data: the values that it keeps for readers of their own are seen as JSON data.
use Rattle.std.specs.Prelude.{◌≡◌, ℕ, List, Bool, true, false, Result, Ok, Err, Option, Some, None}
use Rattle.serde_json.specs.Data.{Data}
use Rattle.serde_json.specs.View.{view}
use Rattle.serde_json.specs.declared.value.Value.{Value}
use Rattle.melon_schema.specs.declared.refusal.Refusal.{Refusal}
use Rattle.melon_schema.specs.Refusals.{Refuses}
use Rattle.melon_script.specs.declared.line.Line.{Line}
use Rattle.melon_script.specs.declared.line.Line.TheVariants as lines
use Rattle.melon_script.specs.declared.line.LineFault.{LineFault}
use Rattle.melon_script.specs.declared.line.LineFault.TheVariants.{Form, Memory}
use Rattle.melon_script.specs.SeenLine.{SeenLine, Open, Close, Enter, Nest, Leave, Write, Fetch, Rows, Observe, Watch, Turn, Drop, Parent, Children, Backend, Server}
use Rattle.melon_script.specs.Forms.{line_of, is_blank}

abbrev pub seen : Line → SeenLine
seen (lines.Open app schema) = Open app (view schema)
seen (lines.Close app) = Close app
seen (lines.Enter app writer) = Enter app writer
seen (lines.Nest app writer) = Nest app writer
seen (lines.Leave app writer) = Leave app writer
seen (lines.Write app ops writer) = Write app (view ops) writer
seen (lines.Fetch app table query) = Fetch app table (view query)
seen (lines.Rows app table) = Rows app table
seen (lines.Observe app name table query shape) = Observe app name table (view query) shape
seen (lines.Watch app name table id to) = Watch app name table id to
seen (lines.Turn app name) = Turn app name
seen (lines.Drop app name) = Drop app name
seen (lines.Parent app table id to) = Parent app table id to
seen (lines.Children app table id to) = Children app table id to
seen (lines.Backend schema) = Backend (view schema)
seen (lines.Server table) = Server table

-- The line that was read is seen as what the form gives. It is refused exactly where the form gives nothing, unless memory runs out.
abbrev pub AnswersSeen : Result Line Refusal → Option SeenLine → Type 0
AnswersSeen (Ok line) form = form ≡ Some (seen line)
AnswersSeen (Err e) form = Refuses e form

-- the same of a value
abbrev pub Takes : Result Value Refusal → Option Data → Type 0
Takes (Ok part) form = form ≡ Some (view part)
Takes (Err e) form = Refuses e form

-- A blank line is none, another is the line that its bytes are; outside the grammar there is none.
abbrev pub ReadsLine : List ℕ → Result (Option Line) LineFault → Type 0
ReadsLine bytes (Ok None) = is_blank bytes ≡ true
ReadsLine bytes (Ok (Some line)) = (is_blank bytes ≡ false) × (line_of bytes ≡ Some (seen line))
ReadsLine bytes (Err Form) = (is_blank bytes ≡ false) × (line_of bytes ≡ None)
ReadsLine bytes (Err Memory) = Unit {0}
