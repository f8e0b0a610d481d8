-- The rows of a joined table that are tried for a main row, where they are borrowed.
use Rattle.std.specs.Prelude.{List, ◌∷◌, map, Some}
use Rattle.std.specs.Option.{option_copied}
use Rattle.melon_eval.specs.Seen.{rows_at}
use Rattle.melon_eval.specs.Offers as offers
use Rattle.melon_eval.specs.declared.walk.Offer.{Offer}

-- the first, which may be the absent row, and then the others
abbrev pub seen_offer : Offer → offers.Offer
seen_offer o = record { table = o.table; rows = option_copied o.first ∷ map Some (rows_at o.others.now) }

abbrev pub seen_offers : List Offer → List offers.Offer
seen_offers os = map seen_offer os
