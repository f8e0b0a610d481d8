use Rattle.std.proofs.Common.{◌≡◌, ◌++◌, drop, option_map}
use Rattle.serde_json.specs.View.{view}
use Rattle.melon_schema.specs.Json.{each}
use Rattle.melon_raw.specs.Decoding.{cell_in}
use Rattle.melon_backend.proofs.body.each_cell.Given as goal

-- the cells that were read, and those that are left, are all
abbrev pub invariant-loop-column : goal.invariant-loop-column
invariant-loop-column l = option_map (λ rest. l.cells ++ rest) (each (cell_in (view l.json)) (drop l.column-index l.columns)) ≡ each (cell_in (view l.json)) l.columns
