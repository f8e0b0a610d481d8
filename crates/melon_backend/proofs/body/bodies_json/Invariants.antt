use Rattle.std.proofs.Common.{◌≡◌, ◌++◌, map}
use Rattle.serde_json.specs.View.{view}
use Rattle.melon_backend.specs.Bodies.{body_data}
use Rattle.melon_backend.specs.Inside.{shown}
use Rattle.melon_backend.proofs.body.bodies_json.Given as goal

abbrev pub invariant-loop-row : goal.invariant-loop-row
invariant-loop-row l = map view l.items.items ++ map (body_data l.table.columns) (shown l.row-iterator) ≡ map (body_data l.table.columns) (shown l.places.entries)
