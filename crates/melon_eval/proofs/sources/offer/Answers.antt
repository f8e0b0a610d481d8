use Rattle.std.proofs.Common.{List, ℕ, Option, ap, sym, ◌∙◌, bytes_eq}
use Rattle.std.specs.HashMap.{get_by}
use Rattle.melon_raw.specs.declared.raw.Raw.{Raw}
use Rattle.melon_query.specs.Tuples.{or_absent}
use Rattle.melon_eval.specs.Offers.{Offer}
use Rattle.melon_eval.specs.Seen.{seen_asks}
use Rattle.melon_eval.specs.Grouped.{rows_under}
use Rattle.melon_eval.specs.Sources.{rows_offered}
use Rattle.melon_eval.proofs.sources.offer.Goals as goal

abbrev offering : ℕ → List Raw → Offer
offering table rows = record { table = table; rows = or_absent rows }

pub returns-in-TheirKey : goal.returns-in-TheirKey
returns-in-TheirKey g c =
    let table = c.args.source.now.table in
    c.offer_under.ensures
    ∙ ap (λ group. offering table (rows_under group)) (c.get.ensures.value ∙ ap (λ (id : List ℕ). get_by (λ k. bytes_eq id k.now) c.in-TheirKey.groups) c.as_str.ensures)
    ∙ sym (ap (λ by. offering table (rows_offered (seen_asks c.args.asks.now) table by c.args.main.now)) c.in-TheirKey.is)
