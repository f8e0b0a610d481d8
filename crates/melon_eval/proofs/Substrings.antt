-- A part stands in a text just where the text is something, the part, and something.
use Rattle.std.proofs.Common.{◌≡◌, ℕ, List, [], ◌∷◌, ◌++◌, Bool, true, false, ◌&&◌, ◌||◌, nat_eq, ap, sym, ◌∙◌, refl, eq-eqb, None}
use Rattle.std.specs.Bool.{MatchBool}
use Rattle.std.specs.Str.Iter.{HasSubslice}
use Rattle.std.specs.Str.Pattern.{HasMatch, FindsText}
use Rattle.std.proofs.lemmas.Bool.{false≢true, eqb-true}
use Rattle.std.proofs.lemmas.Str.Pattern.{contains_text}
use Rattle.melon_query.specs.Like.{some_end}
use Rattle.melon_query.specs.Truth.{begins_with, stands_in}

and_parts : (a b : Bool) → a && b ≡ true → (a ≡ true) × (b ≡ true)
and_parts true b e = (refl, e)
and_parts false b e = absurd (false≢true e)

begins : (part rest : List ℕ) → begins_with part (part ++ rest) ≡ true
begins [] rest = refl
begins (p ∷ ps) rest = ap (λ b. b && begins_with ps (ps ++ rest)) (eq-eqb p p refl) ∙ begins ps rest

rest_after : (part text : List ℕ) → begins_with part text ≡ true → (rest : List ℕ) × (text ≡ part ++ rest)
rest_after [] text e = (text, refl)
rest_after (p ∷ ps) [] e = absurd (false≢true e)
rest_after (p ∷ ps) (c ∷ cs) e =
    let both = and_parts (nat_eq p c) (begins_with ps cs) e in
    let later = rest_after ps cs both.1 in
    let same = eqb-true p c both.0 in
    (later.0, let h = later.1 in cc)

or_true : (a : Bool) → a || true ≡ true
or_true true = refl
or_true false = refl

here : (test : List ℕ → Bool) (text : List ℕ) → test text ≡ true → some_end test text ≡ true
here test [] e = e
here test (c ∷ cs) e = ap (λ b. b || some_end test cs) e

stands_after : (before part rest : List ℕ) → stands_in part (before ++ (part ++ rest)) ≡ true
stands_after [] part rest = here (begins_with part) (part ++ rest) (begins part rest)
stands_after (b ∷ bs) part rest = ap (λ t. begins_with part (b ∷ (bs ++ (part ++ rest))) || t) (stands_after bs part rest) ∙ or_true _

found_by : (part : List ℕ) (c : ℕ) (cs : List ℕ) (b : Bool) → begins_with part (c ∷ cs) ≡ b → b || stands_in part cs ≡ true → (stands_in part cs ≡ true → HasSubslice cs part) → HasSubslice (c ∷ cs) part
found_by part c cs true e f later = let at = rest_after part (c ∷ cs) e in ([], at.0, at.1)
found_by part c cs false e f later = let at = later f in (c ∷ at.0, at.1, ap (λ l. c ∷ l) at.2)

found : (part text : List ℕ) → stands_in part text ≡ true → HasSubslice text part
found part [] e = let at = rest_after part [] e in ([], at.0, at.1)
found part (c ∷ cs) e = found_by part c cs (begins_with part (c ∷ cs)) refl e (found part cs)

stands : (part text : List ℕ) → HasSubslice text part → stands_in part text ≡ true
stands part text at = ap (stands_in part) at.2 ∙ stands_after at.0 part at.1

same_answer : (a b : Bool) → (a ≡ true → b ≡ true) → (b ≡ true → a ≡ true) → a ≡ b
same_answer true b f g = sym (f refl)
same_answer false true f g = g refl
same_answer false false f g = refl

pub contains_is : (r : Bool) (part text : List ℕ) → MatchBool r (HasMatch (FindsText part) text) (FindsText part text None) → r ≡ stands_in part text
contains_is r part text cases =
    let both = contains_text r part text cases in
    same_answer r (stands_in part text) (λ e. stands part text (both.0 e)) (λ e. both.1 (found part text e))
