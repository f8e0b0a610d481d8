-- The conditions without `on` may be tried apart, on the main row alone.
use Rattle.std.proofs.Common.{◌≡◌, ℕ, List, [], ◌∷◌, ◌++◌, length, Bool, true, false, ◌&&◌, ◌||◌, not, cond, nat_eq, map, filter, ap, sym, ◌∙◌, refl, arith}
use Rattle.std.specs.List.{AllByRecursion, list_any}
use Rattle.std.proofs.lemmas.Bool.{eqb-true}
use Rattle.melon_raw.specs.declared.raw.Raw.{Raw}
use Rattle.melon_raw.specs.Rows.{is_visible}
use Rattle.melon_query.specs.declared.query.Cond.{Cond}
use Rattle.melon_query.specs.declared.query.Joined.{Joined}
use Rattle.melon_query.specs.Tuples.{Tuple, Member, alone}
use Rattle.melon_query.specs.Meaning.{holds, all_hold}
use Rattle.melon_query.specs.Fresh.{is_chosen, joined_tables}
use Rattle.melon_eval.specs.Asking.{Asked, read, asks_of, asks_nothing, asks_something}
use Rattle.melon_eval.specs.Offers.{Offer, offer_at, members_of, some_offered, is_chosen_by}
use Rattle.melon_eval.proofs.Covered.{any-same}
use Rattle.melon_eval.proofs.Monotone.{MeetsMore, read_monotone, truth_is}
use Rattle.melon_eval.proofs.Keeping.{offers_suffice}

-- ---- a condition without `on` is about the main row alone

asks_none : (t u : Tuple) (asks : List Asked) → nat_eq (length asks) 0 ≡ true → MeetsMore t u asks
asks_none t u [] e = tt
asks_none t u (a ∷ rest) e = absurd (omega (arith, eqb-true (length (a ∷ rest)) 0 e))

goes_over : (c : Cond) → asks_nothing c ≡ true → (t u : Tuple) → t.main ≡ u.main → holds c t ≡ true → holds c u ≡ true
goes_over c none t u same e =
    ap (λ f. f u) (sym (truth_is c)) ∙ read_monotone c t u same (asks_none t u (read c).asks none) (ap (λ f. f t) (truth_is c) ∙ e)

same_answer : (a b : Bool) → (a ≡ true → b ≡ true) → (b ≡ true → a ≡ true) → a ≡ b
same_answer true b f g = sym (f refl)
same_answer false true f g = g refl
same_answer false false f g = refl

same_truth : (c : Cond) → asks_nothing c ≡ true → (t u : Tuple) → t.main ≡ u.main → holds c t ≡ holds c u
same_truth c none t u same = same_answer (holds c t) (holds c u) (goes_over c none t u same) (goes_over c none u t (sym same))

-- ---- the two parts

and_assoc : (a b c : Bool) → a && (b && c) ≡ (a && b) && c
and_assoc true b c = refl
and_assoc false b c = refl

and_between : (a b c : Bool) → a && (b && c) ≡ b && (a && c)
and_between true b c = refl
and_between false true c = refl
and_between false false c = refl

parts_by : (c : Cond) (ps qs : List Cond) (t u : Tuple) (b : Bool) → asks_nothing c ≡ b → t.main ≡ u.main
    → holds c t && (all_hold ps u && all_hold qs t) ≡ all_hold (cond b (c ∷ ps) ps) u && all_hold (cond (not b) (c ∷ qs) qs) t
parts_by c ps qs t u true e same = and_assoc (holds c t) (all_hold ps u) (all_hold qs t) ∙ ap (λ b. (b && all_hold ps u) && all_hold qs t) (same_truth c e t u same)
parts_by c ps qs t u false e same = and_between (holds c t) (all_hold ps u) (all_hold qs t)

all_hold-parts : (conds : List Cond) (t u : Tuple) → t.main ≡ u.main → all_hold conds t ≡ all_hold (filter asks_nothing conds) u && all_hold (filter asks_something conds) t
all_hold-parts [] t u same = refl
all_hold-parts (c ∷ cs) t u same =
    ap (λ b. holds c t && b) (all_hold-parts cs t u same) ∙ parts_by c (filter asks_nothing cs) (filter asks_something cs) t u (asks_nothing c) refl same

any_and : {X : Type 0} (p : Bool) (q : X → Bool) (xs : List X) → list_any (λ x. p && q x) xs ≡ p && list_any q xs
any_and true q [] = refl
any_and true q (x ∷ xs) = ap (λ b. q x || b) (any_and true q xs)
any_and false q [] = refl
any_and false q (x ∷ xs) = any_and false q xs

apart : (conds : List Cond) (main : Raw) (mss : List (List Member))
    → list_any (λ ms. all_hold conds (record { main = main; members = ms })) mss ≡ all_hold (filter asks_nothing conds) (alone main) && list_any (λ ms. all_hold (filter asks_something conds) (record { main = main; members = ms })) mss
apart conds main mss =
    any-same _ _ (λ ms. all_hold-parts conds (record { main = main; members = ms }) (alone main) refl) mss
    ∙ any_and (all_hold (filter asks_nothing conds) (alone main)) (λ ms. all_hold (filter asks_something conds) (record { main = main; members = ms })) mss

-- what decides whether a row is chosen
pub chosen_is : (conds : List Cond) (tables : List (List Raw)) (main : Raw)
    → is_chosen conds tables main ≡ is_chosen_by (filter asks_nothing conds) (filter asks_something conds) main (map (offer_at (asks_of conds) tables main) (joined_tables conds))
unfolding some_offered
chosen_is conds tables main =
    ap (λ b. is_visible main.status && b) (offers_suffice conds tables main (joined_tables conds) ∙ apart conds main (members_of (map (offer_at (asks_of conds) tables main) (joined_tables conds))))

pub plan_is : (conds : List Cond) (tables : List (List Raw)) (main : Raw) (plain joining : List Cond) (asks : List Asked) (joined : List Joined) (offers : List Offer)
    → plain ≡ filter asks_nothing conds → joining ≡ filter asks_something conds → asks ≡ asks_of conds → joined ≡ joined_tables conds → offers ≡ map (offer_at asks tables main) joined
    → is_chosen_by plain joining main offers ≡ is_chosen conds tables main
plan_is conds tables main plain joining asks joined offers apart with_on asked tabled offered =
    ap (λ cs. is_chosen_by cs joining main offers) apart ∙ ap (λ cs. is_chosen_by (filter asks_nothing conds) cs main offers) with_on
    ∙ ap (is_chosen_by (filter asks_nothing conds) (filter asks_something conds) main) (offered ∙ ap (λ asked_of. map (offer_at asked_of tables main) joined) asked ∙ ap (map (offer_at (asks_of conds) tables main)) tabled)
    ∙ sym (chosen_is conds tables main)
