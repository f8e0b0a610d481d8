-- The first line of some bytes.
use Rattle.std.proofs.Common.{◌≡◌, ◌≢◌, ℕ, zero, suc, ◌+◌, ◌-◌, ◌<◌, List, [], ◌∷◌, ◌++◌, length, get_or, take, drop, Bool, true, false, cond, ◌&&◌, nat_eq, refl, ap, ◌∙◌, arith, add-one}
use Rattle.std.proofs.lemmas.Grind.{common_steps}
use Rattle.melon_script.specs.Lines.{lines_of, without_return, before_lines, begins_with_feed}

differs : (a b : ℕ) → a ≢ b → nat_eq a b ≡ false
differs a b h = grind (arith, common_steps)

and_false : (b : Bool) → (b && false) ≡ false
and_false true = refl
and_false false = refl

cons_choice : (b : Bool) (x : ℕ) (xs ys : List ℕ) → (x ∷ cond b xs ys) ≡ cond b (x ∷ xs) (x ∷ ys)
cons_choice true x xs ys = refl
cons_choice false x xs ys = refl

pub without_return-last : (front : List ℕ) (last : ℕ) → without_return (front ++ last ∷ []) ≡ cond (nat_eq last 13) front (front ++ last ∷ [])
without_return-last [] last = refl
without_return-last (b ∷ []) last = cons_choice (nat_eq last 13) b [] (last ∷ [])
without_return-last (b ∷ c ∷ cs) last = ap (λ rest. b ∷ rest) (without_return-last (c ∷ cs) last) ∙ cons_choice (nat_eq last 13) b (c ∷ cs) (c ∷ cs ++ last ∷ [])

-- a byte that isn't a line feed, before a first line that is known
step_on : (b : ℕ) (bs : List ℕ) → b ≢ 10 → lines_of (b ∷ bs) ≡ cond (nat_eq b 13 && begins_with_feed bs) (lines_of bs) (before_lines b (lines_of bs))
step_on b bs h = rw (differs b 10 h) refl

choice_lines : (r : Bool) (b : ℕ) (lines : List (List ℕ)) → cond (r && true) ([] ∷ lines) ((b ∷ []) ∷ lines) ≡ cond r [] (b ∷ []) ∷ lines
choice_lines true b lines = refl
choice_lines false b lines = refl

pub lines_at : (bytes : List ℕ) (at : ℕ) → at < length bytes → get_or bytes at 0 ≡ 10 → ((k : ℕ) → k < at → get_or bytes k 0 ≢ 10)
    → lines_of bytes ≡ without_return (take at bytes) ∷ lines_of (drop (suc at) bytes)
lines_at [] at lt is before = absurd (omega (arith, lt))
lines_at (b ∷ bs) zero lt is before = rw is refl
lines_at (b ∷ []) (suc n) lt is before = absurd (omega (arith, lt))
lines_at (b ∷ c ∷ cs) (suc zero) lt is before =
    step_on b (c ∷ cs) (before 0 (omega arith))
    ∙ ap (λ (x : ℕ). cond (nat_eq b 13 && nat_eq x 10) (lines_of (c ∷ cs)) (before_lines b (lines_of (c ∷ cs)))) is
    ∙ ap (λ lines. cond (nat_eq b 13 && true) lines (before_lines b lines)) (lines_at (c ∷ cs) zero (omega arith) is (λ k h. absurd (omega (arith, h))))
    ∙ choice_lines (nat_eq b 13) b (lines_of cs)
lines_at (b ∷ c ∷ cs) (suc (suc n)) lt is before =
    step_on b (c ∷ cs) (before 0 (omega arith))
    ∙ ap (λ (x : Bool). cond (nat_eq b 13 && x) (lines_of (c ∷ cs)) (before_lines b (lines_of (c ∷ cs)))) (differs c 10 (before 1 (omega arith)))
    ∙ ap (λ x. cond x (lines_of (c ∷ cs)) (before_lines b (lines_of (c ∷ cs)))) (and_false (nat_eq b 13))
    ∙ ap (before_lines b) (lines_at (c ∷ cs) (suc n) (omega (arith, lt)) is (λ k h. before (suc k) (omega (arith, h))))

-- the last line, without a line feed
pub lines_last : (bytes : List ℕ) → 0 < length bytes → ((k : ℕ) → k < length bytes → get_or bytes k 0 ≢ 10) → lines_of bytes ≡ bytes ∷ []
lines_last [] lt none = absurd (omega (arith, lt))
lines_last (b ∷ []) lt none = step_on b [] (none 0 (omega arith)) ∙ ap (λ x. cond x [] ((b ∷ []) ∷ [])) (and_false (nat_eq b 13))
lines_last (b ∷ c ∷ cs) lt none =
    step_on b (c ∷ cs) (none 0 (omega arith))
    ∙ ap (λ (x : Bool). cond (nat_eq b 13 && x) (lines_of (c ∷ cs)) (before_lines b (lines_of (c ∷ cs)))) (differs c 10 (none 1 (omega arith)))
    ∙ ap (λ x. cond x (lines_of (c ∷ cs)) (before_lines b (lines_of (c ∷ cs)))) (and_false (nat_eq b 13))
    ∙ ap (before_lines b) (lines_last (c ∷ cs) (omega arith) (λ k h. none (suc k) (omega (arith, h))))

-- what a slice from the byte after `at` has
pub rest_after : (bytes : List ℕ) (at : ℕ) → take (length bytes - (at + 1)) (drop (at + 1) bytes) ≡ drop (suc at) bytes
rest_after bytes at = rest_from bytes (at + 1) ∙ ap (λ n. drop n bytes) (add-one at)
  where
    rest_from : (bytes : List ℕ) (n : ℕ) → take (length bytes - n) (drop n bytes) ≡ drop n bytes
    rest_from bytes n = grind (arith, common_steps)
