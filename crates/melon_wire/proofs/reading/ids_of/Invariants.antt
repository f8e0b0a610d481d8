use Rattle.std.proofs.Common.{◌≡◌, ◌∷◌, ◌++◌, Ok, [], map, drop}
use Rattle.serde_json.specs.View.{view}
use Rattle.melon_schema.specs.Faults.{◌>>=◌, in_turn, each_read}
use Rattle.melon_wire.specs.Reading.{id_of}
use Rattle.melon_wire.proofs.reading.ids_of.Given as goal

-- what is left is still to be read
abbrev pub invariant-loop-item : goal.invariant-loop-item
invariant-loop-item l = in_turn (λ made d. id_of d >>= λ id. Ok (made ++ id ∷ [])) l.ids (map view (drop l.item-index l.items)) ≡ each_read id_of (map view l.items)
