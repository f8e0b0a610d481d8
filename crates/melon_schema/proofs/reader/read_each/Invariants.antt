use Rattle.std.proofs.Common.{◌≡◌, ◌++◌, drop, option_map}
use Rattle.serde_json.specs.View.{view}
use Rattle.melon_schema.specs.Json.{each}
use Rattle.melon_schema.proofs.reader.read_each.Given as goal

-- what was read, and then what is left
abbrev pub invariant-loop-item : goal.invariant-loop-item
invariant-loop-item g l =
    let form = g.T.FromJson.form in
    option_map (λ rest. l.read ++ rest) (each (λ v. form (view v)) (drop l.item-index l.items)) ≡ each (λ v. form (view v)) l.items
