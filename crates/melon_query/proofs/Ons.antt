-- The equations of `ons`, one for each kind of condition, and tables added one after another.
use Rattle.std.proofs.Common.{◌≡◌, ℕ, List, [], ◌∷◌, ◌++◌, ◌+◌, ◌<◌, suc, length, get_or, drop, Bool, true, false, ◌||◌, map, sym, ap, ◌∙◌, refl, drop-cons, add-one}
use Rattle.melon_query.specs.Meaning.{ons, ons_step, ons_of_each}
use Rattle.melon_query.specs.Fresh.{all_ons}
use Rattle.melon_query.specs.Simple.{with_place, with_places, has_on, has_on_step, one_true, one_has_on}
use Rattle.melon_query.specs.declared.query.Compare.{Compare}
use Rattle.melon_query.specs.declared.query.Join.{Join}
use Rattle.melon_query.specs.declared.query.Joined.{Joined}
use Rattle.melon_query.specs.declared.query.Cond.{Cond}
use Rattle.melon_query.specs.declared.query.Cond.TheVariants.{rolls-Compare, rolls-All, rolls-Any, rolls-On}
use Rattle.melon_query.specs.declared.query.Cond.TheVariants as cond
use Rattle.melon_query.specs.declared.query.Cond.TheOpen.{Cond-F}
use Rattle.melon_query.specs.declared.query.Cond.TheFolds.{fold-roll-Cond}
use Rattle.melon_query.specs.declared.query.Cond.TheViews.{roll-Cond}
use denote.Hole.Carrier.{roll}

pub ons-Compare : (by : Compare) → ons (cond.Compare by) ≡ []
unfolding roll-Cond roll
ons-Compare by = ap ons (rolls-Compare by) ∙ fold-roll-Cond (List Joined) ons_step (Cond-F.Compare by)

ons-map : (ps : List Cond) → ons_of_each (map ons ps) ≡ all_ons ps
ons-map [] = refl
ons-map (p ∷ ps) = ap (λ js. ons p ++ js) (ons-map ps)

pub ons-All : (ps : List Cond) → ons (cond.All ps) ≡ all_ons ps
unfolding roll-Cond roll
ons-All ps = ap ons (rolls-All ps) ∙ fold-roll-Cond (List Joined) ons_step (Cond-F.All ps) ∙ ons-map ps

pub ons-Any : (ps : List Cond) → ons (cond.Any ps) ≡ all_ons ps
unfolding roll-Cond roll
ons-Any ps = ap ons (rolls-Any ps) ∙ fold-roll-Cond (List Joined) ons_step (Cond-F.Any ps) ∙ ons-map ps

pub ons-On : (table : ℕ) (join : Join) (ps : List Cond) → ons (cond.On table join ps) ≡ record { table = table; join = join } ∷ []
unfolding roll-Cond roll
ons-On table join ps = ap ons (rolls-On table join ps) ∙ fold-roll-Cond (List Joined) ons_step (Cond-F.On table join ps)

pub with_places-append : (places : List ℕ) (xs ys : List Joined) → with_places places (xs ++ ys) ≡ with_places (with_places places xs) ys
with_places-append places [] ys = refl
with_places-append places (x ∷ xs) ys = with_places-append (with_place places x.table) xs ys

-- one condition more
pub places_more : (places : List ℕ) (conds : List Cond) (i : ℕ) (c : Cond) → i < length conds → c ≡ get_or conds i c → with_places (with_places places (ons c)) (all_ons (drop (i + 1) conds)) ≡ with_places places (all_ons (drop i conds))
places_more places conds i c here is =
    let splits : drop i conds ≡ c ∷ drop (i + 1) conds = drop-cons conds i c here ∙ ap (λ (d : Cond). d ∷ drop (suc i) conds) (sym is) ∙ ap (λ n. c ∷ drop n conds) (sym (add-one i)) in
    sym (ap (λ cs. with_places places (all_ons cs)) splits ∙ with_places-append places (ons c) (all_ons (drop (i + 1) conds)))

pub ruleset equations = (ons-Compare, ons-All, ons-Any, ons-On)

-- ---- `has_on`

pub has_on-Compare : (by : Compare) → has_on (cond.Compare by) ≡ false
unfolding roll-Cond roll
has_on-Compare by = ap has_on (rolls-Compare by) ∙ fold-roll-Cond Bool has_on_step (Cond-F.Compare by)

has_on-map : (ps : List Cond) → one_true (map has_on ps) ≡ one_has_on ps
has_on-map [] = refl
has_on-map (p ∷ ps) = ap (λ b. has_on p || b) (has_on-map ps)

pub has_on-All : (ps : List Cond) → has_on (cond.All ps) ≡ one_has_on ps
unfolding roll-Cond roll
has_on-All ps = ap has_on (rolls-All ps) ∙ fold-roll-Cond Bool has_on_step (Cond-F.All ps) ∙ has_on-map ps

pub has_on-Any : (ps : List Cond) → has_on (cond.Any ps) ≡ one_has_on ps
unfolding roll-Cond roll
has_on-Any ps = ap has_on (rolls-Any ps) ∙ fold-roll-Cond Bool has_on_step (Cond-F.Any ps) ∙ has_on-map ps

pub has_on-On : (table : ℕ) (join : Join) (ps : List Cond) → has_on (cond.On table join ps) ≡ true
unfolding roll-Cond roll
has_on-On table join ps = ap has_on (rolls-On table join ps) ∙ fold-roll-Cond Bool has_on_step (Cond-F.On table join ps)

pub ruleset has_on_equations = (has_on-Compare, has_on-All, has_on-Any, has_on-On)
