use Rattle.std.proofs.Common.{◌≡◌, ◌∷◌, ◌++◌, Ok, [], filter}
use Rattle.serde_json.specs.View.{members_view}
use Rattle.melon_schema.specs.Faults.{◌>>=◌, in_turn, each_read}
use Rattle.melon_schema.specs.Json.{named}
use Rattle.melon_wire.specs.Reading.{field_of, is_field}
use Rattle.melon_wire.proofs.reading.take_fields.Given as goal

-- what is left is still to be read
abbrev pub invariant-loop-key : goal.invariant-loop-key
invariant-loop-key l = in_turn (λ made m. field_of m >>= λ field. Ok (made ++ field ∷ [])) l.fields (filter is_field (named (members_view l.key-iterator))) ≡ each_read field_of (filter is_field (named (members_view l.fn.members.entries)))
