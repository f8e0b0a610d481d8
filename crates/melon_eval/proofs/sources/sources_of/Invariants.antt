use Rattle.std.proofs.Common.{◌≡◌, map, take}
use Rattle.melon_raw.specs.declared.raw.Raw.{Raw}
use Rattle.melon_table.specs.Seen.{rows_of}
use Rattle.melon_eval.specs.Offers.{offer_at}
use Rattle.melon_eval.specs.Seen.{seen_asks}
use Rattle.melon_eval.specs.Sources.{all_offered}
use Rattle.melon_eval.proofs.sources.sources_of.Given as goal

abbrev pub invariant-loop-one : goal.invariant-loop-one
invariant-loop-one g l = (main : Raw) → all_offered (seen_asks l.asks) l.sources.items main ≡ map (offer_at (seen_asks l.asks) (rows_of l.tables) main) (take l.one-index l.joined)
