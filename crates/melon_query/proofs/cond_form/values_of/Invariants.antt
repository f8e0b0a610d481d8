use Rattle.std.proofs.Common.{◌≡◌, ◌++◌, drop, option_map}
use Rattle.serde_json.specs.View.{view}
use Rattle.melon_schema.specs.Json.{each}
use Rattle.melon_raw.specs.Datum.{datum_of}
use Rattle.melon_query.proofs.cond_form.values_of.Given as goal

-- what was read, and then what is left
abbrev pub invariant-loop-item : goal.invariant-loop-item
invariant-loop-item l = option_map (λ rest. l.values ++ rest) (each (λ v. datum_of (view v)) (drop l.item-index l.items)) ≡ each (λ v. datum_of (view v)) l.items
