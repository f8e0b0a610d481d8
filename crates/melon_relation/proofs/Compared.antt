-- What compares as the same is equal.
use Rattle.std.proofs.Common.{◌≡◌, Bool, true, false, Option, Some, None, refl, ap, subst, if◌then◌else◌}
use Rattle.melon_raw.proofs.Equals.{row_same, row_eq_refl, not_true}
use Rattle.melon_views.specs.declared.parent.Parent.{Parent}
use Rattle.melon_views.specs.declared.parent.Parent.TheVariants.{Nothing, Missing, Row}
use Rattle.melon_relation.specs.Watching.{is_same_parent, changed}
use Rattle.melon_relation.specs.Laws.{ComparesExactly}

pub same_parents : (a b : Parent) → is_same_parent a b ≡ true → a ≡ b
same_parents Nothing Nothing h = refl
same_parents Nothing Missing h = not_true h
same_parents Nothing (Row b) h = not_true h
same_parents Missing Nothing h = not_true h
same_parents Missing Missing h = refl
same_parents Missing (Row b) h = not_true h
same_parents (Row a) Nothing h = not_true h
same_parents (Row a) Missing h = not_true h
same_parents (Row a) (Row b) h = ap Row (row_same a b h)

pub same_itself : (a : Parent) → is_same_parent a a ≡ true
same_itself Nothing = refl
same_itself Missing = refl
same_itself (Row a) = row_eq_refl a

pub compares_exactly : ComparesExactly
compares_exactly a b = (same_parents a b, λ e. subst (λ (x : Parent). is_same_parent a x ≡ true) e (same_itself a))

-- ---- what has changed

is_none_then : (b : Bool) (now : Parent) → (if b then None else Some now) ≡ None → b ≡ true
is_none_then true now h = refl
is_none_then false now h = cc

is_some_then : (b : Bool) (now given : Parent) → (if b then None else Some now) ≡ Some given → given ≡ now
is_some_then true now given h = cc
is_some_then false now given h = cc

pub not_changed : (kept now : Parent) → changed kept now ≡ None → now ≡ kept
not_changed kept now h = same_parents now kept (is_none_then (is_same_parent now kept) now h)

pub changed_to : (kept now given : Parent) → changed kept now ≡ Some given → given ≡ now
changed_to kept now given h = is_some_then (is_same_parent now kept) now given h
