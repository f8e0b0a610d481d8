-- The equations of `has_room`, one for each kind of condition.
use Rattle.std.proofs.Common.{◌≡◌, ℕ, ◌-◌, List, [], ◌∷◌, Bool, true, ◌&&◌, nat_lt, map, ap, ◌∙◌, refl}
use Rattle.melon_query.specs.Limits.{has_room, room_step, parts_have_room, all_have_room}
use Rattle.melon_query.specs.declared.cond_form.CompareForm.{CompareForm}
use Rattle.melon_query.specs.declared.cond_form.CondForm.{CondForm}
use Rattle.melon_query.specs.declared.cond_form.CondForm.TheVariants.{rolls-Compare, rolls-All, rolls-Any, rolls-On}
use Rattle.melon_query.specs.declared.cond_form.CondForm.TheVariants as cond
use Rattle.melon_query.specs.declared.cond_form.CondForm.TheOpen.{CondForm-F}
use Rattle.melon_query.specs.declared.cond_form.CondForm.TheFolds.{fold-roll-CondForm}
use Rattle.melon_query.specs.declared.cond_form.CondForm.TheViews.{roll-CondForm}
use denote.Hole.Carrier.{roll}

pub has_room-Compare : (by : CompareForm) (left : ℕ) → has_room (cond.Compare by) left ≡ true
unfolding roll-CondForm roll
has_room-Compare by left = ap (λ c. has_room c left) (rolls-Compare by) ∙ ap (λ f. f left) (fold-roll-CondForm (ℕ → Bool) room_step (CondForm-F.Compare by))

parts-map : (ps : List CondForm) (left : ℕ) → parts_have_room (map has_room ps) left ≡ all_have_room ps left
parts-map [] left = refl
parts-map (p ∷ ps) left = ap (λ b. nat_lt 0 left && (has_room p (left - 1) && b)) (parts-map ps left)

pub has_room-All : (ps : List CondForm) (left : ℕ) → has_room (cond.All ps) left ≡ all_have_room ps left
unfolding roll-CondForm roll
has_room-All ps left = ap (λ c. has_room c left) (rolls-All ps) ∙ ap (λ f. f left) (fold-roll-CondForm (ℕ → Bool) room_step (CondForm-F.All ps)) ∙ parts-map ps left

pub has_room-Any : (ps : List CondForm) (left : ℕ) → has_room (cond.Any ps) left ≡ all_have_room ps left
unfolding roll-CondForm roll
has_room-Any ps left = ap (λ c. has_room c left) (rolls-Any ps) ∙ ap (λ f. f left) (fold-roll-CondForm (ℕ → Bool) room_step (CondForm-F.Any ps)) ∙ parts-map ps left

pub has_room-On : (table : List ℕ) (ps : List CondForm) (left : ℕ) → has_room (cond.On table ps) left ≡ all_have_room ps left
unfolding roll-CondForm roll
has_room-On table ps left = ap (λ c. has_room c left) (rolls-On table ps) ∙ ap (λ f. f left) (fold-roll-CondForm (ℕ → Bool) room_step (CondForm-F.On table ps)) ∙ parts-map ps left

pub ruleset equations = (has_room-Compare, has_room-All, has_room-Any, has_room-On)
