use Rattle.std.proofs.Common.{[], filter, ap, sym, ◌∙◌}
use Rattle.std.specs.Option.{option_copied}
use Rattle.melon_eval.specs.Offers.{kept_rows}
use Rattle.melon_eval.specs.Seen.{seen_asks, rows_in}
use Rattle.melon_eval.specs.Grouped.{is_keyed}
use Rattle.melon_eval.proofs.Grouping.{kept_none, nothing_under}
use Rattle.melon_eval.proofs.sources.groups_of.Goals as goal

pub returns-in-None : goal.returns-in-None
returns-in-None g c = λ id.
    sym (nothing_under c.new.result id c.new.ensures.empty) ∙ kept_none (seen_asks c.args.asks.now) c.args.table []
    ∙ sym (ap (λ rows. kept_rows (seen_asks c.args.asks.now) c.args.table [] (filter (is_keyed c.args.place id) (rows_in (option_copied rows)))) c.in-None.is)
