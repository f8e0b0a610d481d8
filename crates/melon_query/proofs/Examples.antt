-- Worked rows of the definitions; each computes.
use Rattle.std.proofs.Common.{◌≡◌, ℕ, List, [], ◌∷◌, true, false, Some, None, pos, refl}
use Rattle.std.specs.Prelude.{codes}
use Rattle.melon_raw.specs.declared.raw.Raw.{Raw}
use Rattle.melon_raw.specs.declared.datum.Datum.{Datum}
use Rattle.melon_raw.specs.declared.datum.Datum.TheVariants.{Null, Words, Whole}
use Rattle.melon_raw.specs.declared.raw.Status.TheVariants.{Synced, Deleted}
use Rattle.melon_query.specs.declared.query.CompareOp.TheVariants as op
use Rattle.melon_query.specs.declared.query.Col.TheVariants.{Cell}
use Rattle.melon_query.specs.declared.query.Join.TheVariants.{OwnKey, TheirKey}
use Rattle.melon_query.specs.Like.{meets}
use Rattle.melon_query.specs.Truth.{is_true_of, is_true_of_list}
use Rattle.melon_query.specs.Tuples.{members_over}
use Rattle.melon_query.specs.Order.{in_order, comes_before}

-- `like`
any_run : meets (codes "a%c%") (codes "AbbC") ≡ true
any_run = refl

one_character : meets (codes "_") (233 ∷ []) ≡ true
one_character = refl

not_two : meets (codes "__") (233 ∷ []) ≡ false
not_two = refl

other_letters_have_no_case : meets (201 ∷ []) (233 ∷ []) ≡ false
other_letters_have_no_case = refl

goes_on_after_the_first : meets (codes "%ab") (codes "aab") ≡ true
goes_on_after_the_first = refl

-- null
null_is_null : is_true_of op.Eq Null Null ≡ true
null_is_null = refl

nothing_is_less_than_null : is_true_of op.Lt Null (Whole (pos 1)) ≡ false
nothing_is_less_than_null = refl

weakly_above_null : is_true_of op.WeakGt (Whole (pos 1)) Null ≡ true
weakly_above_null = refl

null_is_not_outside : is_true_of_list op.NotIn Null (Whole (pos 1) ∷ []) ≡ false
null_is_not_outside = refl

between : is_true_of_list op.Between (Whole (pos 2)) (Whole (pos 2) ∷ Whole (pos 3) ∷ []) ≡ true
between = refl

-- one post with two comments and a third that is marked as deleted; no author
post : Raw
post = record { id = codes "p"; status = Synced; marks = []; cells = Null ∷ [] }

comment : List ℕ → Raw
comment id = record { id = id; status = Synced; marks = []; cells = Words (codes "p") ∷ [] }

gone : Raw
gone = record { id = codes "d"; status = Deleted; marks = []; cells = Words (codes "p") ∷ [] }

two_joined : members_over ((post ∷ []) ∷ (comment (codes "a") ∷ gone ∷ comment (codes "b") ∷ []) ∷ [] ∷ []) post (record { table = 1; join = TheirKey 0 } ∷ record { table = 2; join = OwnKey 0 } ∷ [])
    ≡ (record { table = 1; row = Some (comment (codes "a")) } ∷ record { table = 2; row = None } ∷ [])
    ∷ (record { table = 1; row = Some (comment (codes "b")) } ∷ record { table = 2; row = None } ∷ []) ∷ []
unfolding members_over post comment gone
two_joined = refl

-- descending reverses null too, ids ascend
scored : List ℕ → Datum → Raw
scored id score = record { id = id; status = Synced; marks = []; cells = score ∷ [] }

descending : in_order (comes_before (record { column = Cell 0; descending = true } ∷ [])) (scored (codes "a") Null ∷ scored (codes "b") (Whole (pos 1)) ∷ scored (codes "c") (Whole (pos 2)) ∷ scored (codes "d") (Whole (pos 1)) ∷ [])
    ≡ scored (codes "c") (Whole (pos 2)) ∷ scored (codes "b") (Whole (pos 1)) ∷ scored (codes "d") (Whole (pos 1)) ∷ scored (codes "a") Null ∷ []
unfolding scored
descending = refl
