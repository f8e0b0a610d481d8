-- Named cells of rows.
use Rattle.std.specs.Prelude.{ℕ, List}
use Rattle.std.specs.List.{filter_map}
use Rattle.std.specs.Option.{option_map}
use Rattle.melon_raw.specs.declared.raw.Raw.{Raw}
use Rattle.melon_raw.specs.Rows.{at_id}
use Rattle.melon_query.specs.declared.shown.Shown.{Shown}
use Rattle.melon_query.specs.Shown.{shown_row}

-- of each of these ids that has a row the named cells
unfoldable pub projected : List ℕ → List (List ℕ) → List Raw → List Shown
projected columns ids rows = filter_map (λ id. option_map (shown_row columns) (at_id id rows)) ids
