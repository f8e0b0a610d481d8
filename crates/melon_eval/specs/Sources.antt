-- What the sources of joined tables offer a main row.
use Rattle.std.specs.Prelude.{ℕ, List, [], map, filter}
use Rattle.std.specs.Option.{option_copied}
use Rattle.melon_raw.specs.declared.raw.Raw.{Raw}
use Rattle.melon_query.specs.Tuples.{is_choice, or_absent}
use Rattle.melon_query.specs.declared.query.Join.TheVariants as join
use Rattle.melon_eval.specs.Asking.{Asked}
use Rattle.melon_eval.specs.Offers.{Offer, kept_rows}
use Rattle.melon_eval.specs.Seen.{rows_in}
use Rattle.melon_eval.specs.Grouped.{group_of}
use Rattle.melon_eval.specs.declared.sources.By.{By}
use Rattle.melon_eval.specs.declared.sources.By.TheVariants.{OwnKey, TheirKey}
use Rattle.melon_eval.specs.declared.sources.Source.{Source}

abbrev pub rows_offered : List Asked → ℕ → By → Raw → List Raw
rows_offered asks table (OwnKey place rows) main = kept_rows asks table [] (filter (is_choice (join.OwnKey place) main) (rows_in (option_copied rows)))
rows_offered asks table (TheirKey groups) main = group_of groups main.id

abbrev pub offered : List Asked → Source → Raw → Offer
offered asks source main = record { table = source.table; rows = or_absent (rows_offered asks source.table source.by main) }

abbrev pub all_offered : List Asked → List Source → Raw → List Offer
all_offered asks sources main = map (λ source. offered asks source main) sources
