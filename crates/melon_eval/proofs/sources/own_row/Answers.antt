use Rattle.std.proofs.Common.{sym, ap, ◌∙◌, filter, List}
use Rattle.std.specs.Option.{option_copied}
use Rattle.melon_raw.specs.declared.raw.Raw.{Raw}
use Rattle.melon_raw.specs.declared.datum.Datum.{Datum}
use Rattle.melon_query.specs.Values.{value_at}
use Rattle.melon_query.specs.declared.query.Col.TheVariants.{Cell}
use Rattle.melon_eval.specs.Seen.{rows_in, datum_of}
use Rattle.melon_eval.proofs.Owning.{is_named, null_names_none, whole_names_none, truth_names_none}
use Rattle.melon_eval.proofs.sources.own_row.Goals as goal

pub returns-in-Null : goal.returns-in-Null
returns-in-Null g c = null_names_none (value_at (Cell c.args.place) c.args.main.now) (sym c.value_at.ensures ∙ ap datum_of c.in-Null.is) (rows_in (option_copied c.args.rows))

pub returns-in-Whole : goal.returns-in-Whole
returns-in-Whole g c = whole_names_none (value_at (Cell c.args.place) c.args.main.now) c.in-Whole.field-0 (sym c.value_at.ensures ∙ ap datum_of c.in-Whole.is) (rows_in (option_copied c.args.rows))

pub returns-in-Truth : goal.returns-in-Truth
returns-in-Truth g c = truth_names_none (value_at (Cell c.args.place) c.args.main.now) c.in-Truth.field-0 (sym c.value_at.ensures ∙ ap datum_of c.in-Truth.is) (rows_in (option_copied c.args.rows))
