-- The characters of a text that is split.
use Rattle.std.proofs.Common.{◌≡◌, ℕ, suc, ◌<◌, List, [], ◌∷◌, ◌++◌, length, take, drop, get_or, false, ◌||◌, Option, Some, None, Bor, nat_eq, ap, sym, ◌∙◌, refl, arith}
use Rattle.std.specs.Str.{chars, IsUtf8, NoCharPasses, NonePass}
use Rattle.std.proofs.lemmas.Str.{chars-nil, chars-append, chars_from_encodes, encode_ascii, encodes-chars, IsUtf8-take, IsCharBoundary-before_ascii}
use Rattle.std.proofs.lemmas.Str.Pattern.{IsSplitOnceResult}
use lib.Utf8.{encodes}
use Rattle.melon_query.specs.Like.{is_empty}
use Rattle.std.proofs.lemmas.List.{take-append-drop}
use Rattle.std.proofs.lemmas.Bool.Decides.{nat_tests}
use Rattle.melon_eval.specs.Pieces.{IsCut, has_any}

pub no_chars : (bs : List ℕ) → length bs ≡ 0 → chars bs ≡ []
no_chars [] e = chars-nil
no_chars (b ∷ bs) e = absurd (omega (arith, e))

any_char : (bs : List ℕ) → chars (37 ∷ bs) ≡ 37 ∷ chars bs
unfolding chars
any_char [] = refl
any_char (b ∷ bs) = refl

has_none : (cs : List ℕ) → NonePass (λ d. nat_eq d 37) cs → has_any cs ≡ false
has_none [] h = refl
has_none (c ∷ cs) h = ap (λ b. b || has_any cs) h.0 ∙ has_none cs h.1

no_any : (bs : List ℕ) → IsUtf8 bs → NoCharPasses (λ d. nat_eq d 37) bs → has_any (chars bs) ≡ false
no_any bs text h = ap has_any (sym (chars_from_encodes h.0 bs text h.1)) ∙ has_none h.0 h.2

pub cut_of : (bs : List ℕ) (r : Option (Bor (List ℕ) × Bor (List ℕ))) → IsUtf8 bs → IsSplitOnceResult 37 bs r → IsCut r (chars bs)
cut_of bs None text h = no_any bs text h
cut_of bs (Some x) text h =
    let i = h.0 in
    let found = h.2.1 in
    let within : i < length bs = omega (arith, h.7, found.ends) in
    let byte : get_or bs i 0 ≡ 37 = found.byte (omega arith) in
    let front : IsUtf8 (take i bs) = IsUtf8-take bs i text (IsCharBoundary-before_ascii bs i within (omega (arith, byte))) in
    let after : chars (drop i bs) ≡ 37 ∷ chars x.1.now =
    ap chars (found.split ∙ ap (λ l. l ++ drop h.1 bs) (encode_ascii 37 (omega arith))) ∙ any_char (drop h.1 bs) ∙ ap (λ l. 37 ∷ chars l) (sym h.4) in (
      ap chars (sym (take-append-drop i bs)) ∙ chars-append (take i bs) (drop i bs) front ∙ ap (λ l. chars (take i bs) ++ l) after ∙ ap (λ l. chars l ++ 37 ∷ chars x.1.now) (sym h.3),
      ap (λ l. has_any (chars l)) h.3 ∙ no_any (take i bs) front h.2.0,
    )

not_zero : (n : ℕ) → nat_eq (suc n) 0 ≡ false
not_zero n = grind (arith, nat_tests)

used_up_by : (bs : List ℕ) → IsUtf8 bs → (cs : List ℕ) → chars bs ≡ cs → nat_eq (length bs) 0 ≡ is_empty cs
used_up_by bs text [] e = ap (λ l. nat_eq (length l) 0) (sym (encodes-chars bs text) ∙ ap encodes e)
used_up_by [] text (c ∷ cs) e = let h = sym chars-nil ∙ e in cc
used_up_by (b ∷ bs) text (c ∷ cs) e = not_zero (length bs)

pub used_up : (bs : List ℕ) → IsUtf8 bs → nat_eq (length bs) 0 ≡ is_empty (chars bs)
used_up bs text = used_up_by bs text (chars bs) refl
