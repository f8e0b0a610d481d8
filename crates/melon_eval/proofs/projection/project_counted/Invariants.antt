use Rattle.std.proofs.Common.{◌≡◌, take}
use Rattle.std.specs.List.{filter_map}
use Rattle.std.specs.Option.{option_map}
use Rattle.melon_raw.specs.Rows.{at_id}
use Rattle.melon_query.specs.Shown.{shown_row}
use Rattle.melon_eval.proofs.projection.project_counted.Given as goal

abbrev pub invariant-loop-id : goal.invariant-loop-id
invariant-loop-id g l = l.all ≡ filter_map (λ id. option_map (shown_row l.columns) (at_id id l.table.rows)) (take l.id-index l.ids)
