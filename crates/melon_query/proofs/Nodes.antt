-- The equations of `nodes`, one for each kind of condition.
use Rattle.std.proofs.Common.{◌≡◌, ℕ, List, [], ◌∷◌, ◌++◌, Option, Some, None, map, ap, ◌∙◌, refl}
use Rattle.melon_query.specs.Limits.{Node, nodes, node_step, node_above, joined, all_nodes, values_in}
use Rattle.melon_query.specs.declared.cond_form.CompareForm.{CompareForm}
use Rattle.melon_query.specs.declared.cond_form.CondForm.{CondForm}
use Rattle.melon_query.specs.declared.cond_form.CondForm.TheVariants.{rolls-Compare, rolls-All, rolls-Any, rolls-On}
use Rattle.melon_query.specs.declared.cond_form.CondForm.TheVariants as cond
use Rattle.melon_query.specs.declared.cond_form.CondForm.TheOpen.{CondForm-F}
use Rattle.melon_query.specs.declared.cond_form.CondForm.TheFolds.{fold-roll-CondForm}
use Rattle.melon_query.specs.declared.cond_form.CondForm.TheViews.{roll-CondForm}
use denote.Hole.Carrier.{roll}

pub nodes-Compare : (by : CompareForm) → nodes (cond.Compare by) ≡ record { values = values_in by.right; table = None } ∷ []
unfolding roll-CondForm roll
nodes-Compare by = ap nodes (rolls-Compare by) ∙ fold-roll-CondForm (List Node) node_step (CondForm-F.Compare by)

nodes-map : (ps : List CondForm) → joined (map nodes ps) ≡ all_nodes ps
nodes-map [] = refl
nodes-map (p ∷ ps) = ap (λ ns. nodes p ++ ns) (nodes-map ps)

above-map : (table : Option (List ℕ)) (ps : List CondForm) → record { values = 0; table = table } ∷ joined (map nodes ps) ≡ node_above table ps
above-map table ps = ap (λ (ns : List Node). record { values = 0; table = table } ∷ ns) (nodes-map ps)

pub nodes-All : (ps : List CondForm) → nodes (cond.All ps) ≡ node_above None ps
unfolding roll-CondForm roll
nodes-All ps = ap nodes (rolls-All ps) ∙ fold-roll-CondForm (List Node) node_step (CondForm-F.All ps) ∙ above-map None ps

pub nodes-Any : (ps : List CondForm) → nodes (cond.Any ps) ≡ node_above None ps
unfolding roll-CondForm roll
nodes-Any ps = ap nodes (rolls-Any ps) ∙ fold-roll-CondForm (List Node) node_step (CondForm-F.Any ps) ∙ above-map None ps

pub nodes-On : (table : List ℕ) (ps : List CondForm) → nodes (cond.On table ps) ≡ node_above (Some table) ps
unfolding roll-CondForm roll
nodes-On table ps = ap nodes (rolls-On table ps) ∙ fold-roll-CondForm (List Node) node_step (CondForm-F.On table ps) ∙ above-map (Some table) ps

pub ruleset equations = (nodes-Compare, nodes-All, nodes-Any, nodes-On)
