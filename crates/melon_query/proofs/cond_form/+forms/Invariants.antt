use Rattle.std.proofs.Common.{◌≡◌, ◌++◌, ◌+◌, ◌*◌, map, drop, option_map}
use Rattle.serde_json.specs.Data.{depth}
use Rattle.serde_json.specs.View.{view}
use Rattle.melon_schema.specs.Json.{each}
use Rattle.melon_query.specs.QueryForm.{cond_form}
use Rattle.melon_query.proofs.Forms.{list_depth}
use Rattle.melon_query.proofs.cond_form.+forms.Given as goal

abbrev pub decreases-cond_form : goal.decreases-cond_form
decreases-cond_form l = 3 * depth (view l.json.now) + 2

abbrev pub decreases-conds_at : goal.decreases-conds_at
decreases-conds_at l = 3 * depth (view l.json.now) + 1

abbrev pub decreases-conds_of : goal.decreases-conds_of
decreases-conds_of l = 3 * list_depth (map view l.items.now) + 3

-- what was read, and then what is left
abbrev pub invariant-conds_of-loop-item : goal.invariant-conds_of-loop-item
invariant-conds_of-loop-item l = option_map (λ rest. l.conds ++ rest) (each (λ v. cond_form (view v) l.may) (drop l.item-index l.items)) ≡ each (λ v. cond_form (view v) l.may) l.items
