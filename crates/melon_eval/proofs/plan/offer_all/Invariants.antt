use Rattle.std.proofs.Common.{◌≡◌, take}
use Rattle.melon_eval.specs.Seen.{seen_asks}
use Rattle.melon_eval.specs.Trials.{seen_offers}
use Rattle.melon_eval.specs.Sources.{all_offered}
use Rattle.melon_eval.proofs.plan.offer_all.Given as goal

abbrev pub invariant-loop-source : goal.invariant-loop-source
invariant-loop-source g l = seen_offers l.offers.items ≡ all_offered (seen_asks l.asks) (take l.source-index l.sources) l.main
