-- What a plan decides of a main row.
use Rattle.std.specs.Prelude.{◌≡◌, List, Bool}
use Rattle.melon_raw.specs.declared.raw.Raw.{Raw}
use Rattle.melon_query.specs.declared.query.Cond.{Cond}
use Rattle.melon_query.specs.Fresh.{is_chosen}
use Rattle.melon_eval.specs.Offers.{is_chosen_by}
use Rattle.melon_eval.specs.Seen.{conds_at, seen_asks}
use Rattle.melon_eval.specs.Sources.{all_offered}
use Rattle.melon_eval.specs.declared.plan.Plan.{Plan}

abbrev pub planned : Plan → Raw → Bool
planned plan main = is_chosen_by (conds_at plan.parts.plain.items) (conds_at plan.parts.joining.items) main (all_offered (seen_asks plan.parts.asks.items) plan.sources.items main)

-- it chooses the rows that the conditions choose
abbrev pub IsPlan : List Cond → List (List Raw) → Plan → Type 0
IsPlan conds tables plan = (main : Raw) → planned plan main ≡ is_chosen conds tables main
