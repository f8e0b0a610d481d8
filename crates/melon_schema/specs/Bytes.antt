-- The JSON value that bytes are.
use Rattle.std.specs.Prelude.{◌≡◌, ℕ, List, Result, Ok, Err, Option, Some, None, if◌then◌else◌}
use Rattle.std.specs.Str.{is_utf8}
use Rattle.serde_json.specs.Data.{Data}
use Rattle.serde_json.specs.Read.{read}
use Rattle.serde_json.specs.View.{view}
use Rattle.serde_json.specs.declared.value.Value.{Value}
use Rattle.melon_schema.specs.declared.refusal.Refusal.{Refusal}
use Rattle.melon_schema.specs.Refusals.{Refuses}

-- UTF-8 that is one JSON text, nested at most 127 levels deep; the last of a repeated key counts
unfoldable pub json_of : List ℕ → Option Data
json_of bytes = if is_utf8 bytes then read bytes else None

-- The value that was read is what the bytes are. They are refused exactly where they are none, unless memory runs out.
abbrev pub Reads : Result Value Refusal → Option Data → Type 0
Reads (Ok v) json = json ≡ Some (view v)
Reads (Err e) json = Refuses e json
