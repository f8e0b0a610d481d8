use Rattle.std.proofs.Common.{true, false, filter}
use Rattle.std.specs.Option.{option_copied}
use Rattle.melon_query.specs.Tuples.{is_choice}
use Rattle.melon_query.specs.declared.query.Join.TheVariants as join
use Rattle.melon_eval.specs.Seen.{seen_asks, rows_in}
use Rattle.melon_eval.proofs.Owning.{one_kept, none_kept}
use Rattle.melon_eval.proofs.sources.own_choice.Goals as goal

pub returns-then-meets_any : goal.returns-then-meets_any
returns-then-meets_any g c =
    one_kept (seen_asks c.args.asks.now) c.args.table c.in-Some.row.now (filter (is_choice (join.OwnKey c.args.place) c.args.main.now) (rows_in (option_copied c.args.rows))) true c.in-Some.ensures c.if-meets_any.ensures

pub returns-else-meets_any : goal.returns-else-meets_any
returns-else-meets_any g c =
    one_kept (seen_asks c.args.asks.now) c.args.table c.in-Some.row.now (filter (is_choice (join.OwnKey c.args.place) c.args.main.now) (rows_in (option_copied c.args.rows))) false c.in-Some.ensures c.if-meets_any.ensures

pub returns-in-None : goal.returns-in-None
returns-in-None g c = none_kept (seen_asks c.args.asks.now) c.args.table (filter (is_choice (join.OwnKey c.args.place) c.args.main.now) (rows_in (option_copied c.args.rows))) c.in-None.ensures
