use Rattle.std.proofs.Common.{◌≡◌, ◌∷◌, ◌++◌, Ok, []}
use Rattle.serde_json.specs.View.{members_view}
use Rattle.melon_schema.specs.Faults.{◌>>=◌, in_turn, each_read}
use Rattle.melon_schema.specs.Json.{named}
use Rattle.melon_wire.specs.Reading.{table_of}
use Rattle.melon_wire.proofs.reading.take_tables.Given as goal

-- what is left is still to be read
abbrev pub invariant-loop-key : goal.invariant-loop-key
invariant-loop-key l = in_turn (λ made m. table_of m >>= λ table. Ok (made ++ table ∷ [])) l.tables (named (members_view l.key-iterator)) ≡ each_read table_of (named (members_view l.fn.members.entries))
