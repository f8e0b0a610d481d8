-- The equations of `holds`, one for each kind of condition.
use Rattle.std.proofs.Common.{◌≡◌, ℕ, List, [], ◌∷◌, Bool, ◌&&◌, ◌||◌, Option, Some, None, map, ap, ◌∙◌, refl}
use Rattle.melon_raw.specs.declared.raw.Raw.{Raw}
use Rattle.melon_query.specs.Tuples.{Tuple, alone, member_of}
use Rattle.melon_query.specs.Truth.{compares}
use Rattle.melon_query.specs.Meaning.{holds, holds_step, all_hold, some_holds, all_hold_of, every, every_of, some_one}
use Rattle.melon_query.specs.declared.query.Compare.{Compare}
use Rattle.melon_query.specs.declared.query.Join.{Join}
use Rattle.melon_query.specs.declared.query.Cond.{Cond}
use Rattle.melon_query.specs.declared.query.Cond.TheVariants.{rolls-Compare, rolls-All, rolls-Any, rolls-On}
use Rattle.melon_query.specs.declared.query.Cond.TheVariants as cond
use Rattle.melon_query.specs.declared.query.Cond.TheOpen.{Cond-F}
use Rattle.melon_query.specs.declared.query.Cond.TheFolds.{fold-roll-Cond}
use Rattle.melon_query.specs.declared.query.Cond.TheViews.{roll-Cond}
use denote.Hole.Carrier.{roll}

pub holds-Compare : (by : Compare) (tuple : Tuple) → holds (cond.Compare by) tuple ≡ compares by tuple.main
unfolding roll-Cond roll
holds-Compare by tuple = ap (λ c. holds c tuple) (rolls-Compare by) ∙ ap (λ f. f tuple) (fold-roll-Cond (Tuple → Bool) holds_step (Cond-F.Compare by))

every-map : (ps : List Cond) (tuple : Tuple) → every (map holds ps) tuple ≡ all_hold ps tuple
every-map [] tuple = refl
every-map (p ∷ ps) tuple = ap (λ b. holds p tuple && b) (every-map ps tuple)

some_one-map : (ps : List Cond) (tuple : Tuple) → some_one (map holds ps) tuple ≡ some_holds ps tuple
some_one-map [] tuple = refl
some_one-map (p ∷ ps) tuple = ap (λ b. holds p tuple || b) (some_one-map ps tuple)

every_of-map : (ps : List Cond) (row : Option Raw) → every_of (map holds ps) row ≡ all_hold_of ps row
every_of-map ps None = refl
every_of-map ps (Some row) = every-map ps (alone row)

pub holds-All : (ps : List Cond) (tuple : Tuple) → holds (cond.All ps) tuple ≡ all_hold ps tuple
unfolding roll-Cond roll
holds-All ps tuple =
    ap (λ c. holds c tuple) (rolls-All ps) ∙ ap (λ f. f tuple) (fold-roll-Cond (Tuple → Bool) holds_step (Cond-F.All ps)) ∙ every-map ps tuple

pub holds-Any : (ps : List Cond) (tuple : Tuple) → holds (cond.Any ps) tuple ≡ some_holds ps tuple
unfolding roll-Cond roll
holds-Any ps tuple =
    ap (λ c. holds c tuple) (rolls-Any ps) ∙ ap (λ f. f tuple) (fold-roll-Cond (Tuple → Bool) holds_step (Cond-F.Any ps)) ∙ some_one-map ps tuple

pub holds-On : (table : ℕ) (join : Join) (ps : List Cond) (tuple : Tuple) → holds (cond.On table join ps) tuple ≡ all_hold_of ps (member_of table tuple.members)
unfolding roll-Cond roll
holds-On table join ps tuple =
    ap (λ c. holds c tuple) (rolls-On table join ps) ∙ ap (λ f. f tuple) (fold-roll-Cond (Tuple → Bool) holds_step (Cond-F.On table join ps)) ∙ every_of-map ps (member_of table tuple.members)

pub ruleset equations = (holds-Compare, holds-All, holds-Any, holds-On)
