use Rattle.std.proofs.Common.{◌≡◌, ◌++◌, option_map, string_bytes}
use Rattle.serde_json.specs.View.{view}
use Rattle.melon_schema.specs.Json.{each}
use Rattle.melon_schema.proofs.reader.read_members.Given as goal

-- what was read, and then what is left
abbrev pub invariant-loop-key : goal.invariant-loop-key
invariant-loop-key g l =
    let form = g.T.FromMember.member_form in
    option_map (λ rest. l.read ++ rest) (each (λ e. form (string_bytes e.0) (view e.1)) l.key-iterator) ≡ each (λ e. form (string_bytes e.0) (view e.1)) l.members.entries
