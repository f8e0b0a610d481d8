use Rattle.std.proofs.Common.{◌≡◌, ◌++◌, drop, option_map}
use Rattle.melon_schema.specs.Json.{each}
use Rattle.melon_schema.specs.Places.{column_named}
use Rattle.melon_world.proofs.observing.places_of.Given as goal

-- the places so far, and then those of the names that are left
abbrev pub invariant-loop-name : goal.invariant-loop-name
invariant-loop-name l = option_map (λ rest. l.places ++ rest) (each (λ name. column_named name l.columns) (drop l.name-index l.names)) ≡ each (λ name. column_named name l.columns) l.names
