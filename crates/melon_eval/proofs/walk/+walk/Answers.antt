use Rattle.std.proofs.Common.{List, ap, sym, ◌∙◌}
use Rattle.std.specs.Option.{option_copied}
use Rattle.std.proofs.lemmas.List.{length-map}
use Rattle.melon_query.specs.Meaning.{all_hold}
use Rattle.melon_eval.specs.Seen.{conds_at}
use Rattle.melon_eval.specs.Chosen.{seen_members, tuple_of}
use Rattle.melon_eval.specs.Offers.{some_offered}
use Rattle.melon_eval.specs.Trials.{seen_offer, seen_offers}
use Rattle.melon_eval.specs.declared.matching.Member.{Member}
use Rattle.melon_eval.specs.declared.walk.Offer.{Offer}
use Rattle.melon_eval.proofs.Walking.{tried, at_nothing, some_offered-cons, first_found, first_in_vain}
use Rattle.melon_eval.proofs.walk.+walk.Goals as goal

pub some_offered-returns-in_default-clause-found : goal.some_offered-returns-in_default-clause-found
some_offered-returns-in_default-clause-found t c =
    c.all_of_hold.ensures ∙ ap (λ (ms : List Member). all_hold (conds_at c.args.conds.now) (tuple_of c.args.main.now ms)) c.as_slice.ensures.value
    ∙ at_nothing (conds_at c.args.conds.now) c.args.main.now (seen_members c.args.chosen.now.items) (seen_offers c.args.offers.now) (length-map c.args.offers.now seen_offer ∙ c.in_default.ensures.cases)

pub some_offered-returns-then-branch-clause-found : goal.some_offered-returns-then-branch-clause-found
some_offered-returns-then-branch-clause-found t c =
    let conds = conds_at c.args.conds.now in
    let chosen = seen_members c.args.chosen.now.items in
    let offer = c.in-Some.offer.now in
    let later = seen_offers c.in-Some.later.now in
    first_found (tried conds c.args.main.now chosen offer.table later) (option_copied offer.first) offer.others.now (sym c.in_ok-some_offered_with.ensures.found ∙ c.if-branch.true)
    ∙ sym (ap (λ (os : List Offer). some_offered conds c.args.main.now chosen (seen_offers os)) c.in-Some.ensures.cases.0 ∙ some_offered-cons conds c.args.main.now chosen (seen_offer offer) later)

pub some_offered-loop-row-init : goal.some_offered-loop-row-init
some_offered-loop-row-init t c =
    let conds = conds_at c.args.conds.now in
    let chosen = seen_members c.args.chosen.now.items in
    let offer = c.in-Some.offer.now in
    let later = seen_offers c.in-Some.later.now in (
      c.in_ok-some_offered_with.ensures.chosen,
      first_in_vain (tried conds c.args.main.now chosen offer.table later) (option_copied offer.first) offer.others.now (sym c.in_ok-some_offered_with.ensures.found ∙ c.if-branch.false)
          ∙ sym (ap (λ (os : List Offer). some_offered conds c.args.main.now chosen (seen_offers os)) c.in-Some.ensures.cases.0 ∙ some_offered-cons conds c.args.main.now chosen (seen_offer offer) later),
    )
