use Rattle.std.proofs.Common.{◌≡◌, ◌∷◌, ◌++◌, Ok, [], map}
use Rattle.std.specs.Vec.Iter.{into_iter_items}
use Rattle.serde_json.specs.View.{view}
use Rattle.melon_schema.specs.Faults.{◌>>=◌, in_turn, each_read}
use Rattle.melon_wire.specs.Reading.{row_of}
use Rattle.melon_wire.proofs.reading.take_rows.Given as goal

-- what is left is still to be read
abbrev pub invariant-loop-item : goal.invariant-loop-item
invariant-loop-item l = in_turn (λ made d. row_of d >>= λ row. Ok (made ++ row ∷ [])) l.rows (map view (into_iter_items l.item-iterator)) ≡ each_read row_of (map view l.fn.items.items)
