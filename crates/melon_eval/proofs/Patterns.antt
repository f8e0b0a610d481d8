-- A pattern is met piece by piece, each at the first place where it can be.
use Rattle.std.proofs.Common.{◌≡◌, ℕ, ◌+◌, ◌<◌, zero, suc, List, [], ◌∷◌, ◌++◌, length, drop, Bool, true, false, ◌&&◌, ◌||◌, cond, Option, Some, None, nat_eq, ap, sym, ◌∙◌, refl, arith}
use Rattle.std.proofs.lemmas.Bool.{false≢true}
use Rattle.melon_query.specs.Like.{meets, some_end, one_and, stands_for, is_empty}
use Rattle.melon_eval.specs.Pieces.{after_piece, after_first, or_else, is_left, has_any}

-- the steps of the code
pub piece_done : (ps text : List ℕ) → ps ≡ [] → after_piece ps text ≡ Some text
unfolding after_piece
piece_done ps text e = ap (λ l. after_piece l text) e

pub text_done : (ps text : List ℕ) (p : ℕ) (later : List ℕ) → ps ≡ p ∷ later → text ≡ [] → after_piece ps text ≡ None
unfolding after_piece
text_done ps text p later e f = ap (λ l. after_piece l text) e ∙ ap (after_piece (p ∷ later)) f

pub piece_more : (ps text : List ℕ) (p : ℕ) (later : List ℕ) (c : ℕ) (cs : List ℕ) → ps ≡ p ∷ later → text ≡ c ∷ cs → after_piece ps text ≡ cond (stands_for p c) (after_piece later cs) None
unfolding after_piece
piece_more ps text p later c cs e f = ap (λ l. after_piece l text) e ∙ ap (after_piece (p ∷ later)) f

pub first_done : (ps text : List ℕ) → text ≡ [] → after_first ps text ≡ after_piece ps text
unfolding after_first
first_done ps text e = ap (after_first ps) e ∙ sym (ap (after_piece ps) e)

pub first_more : (ps text : List ℕ) (c : ℕ) (cs : List ℕ) → text ≡ c ∷ cs → after_first ps text ≡ or_else (after_piece ps text) (after_first ps cs)
unfolding after_first
first_more ps text c cs e = ap (after_first ps) e ∙ ap (λ l. or_else (after_piece ps l) (after_first ps cs)) (sym e)

pub found_first : (ps text rest : List ℕ) → after_piece ps text ≡ Some rest → after_first ps text ≡ Some rest
unfolding after_first
found_first ps [] rest e = e
found_first ps (c ∷ cs) rest e = ap (λ o. or_else o (after_first ps cs)) e

or_parts : (a b : Bool) → a || b ≡ false → (a ≡ false) × (b ≡ false)
or_parts true b e = absurd (false≢true (sym e))
or_parts false b e = (refl, e)

or_false : (a : Bool) → a || false ≡ a
or_false true = refl
or_false false = refl

or_true : (a : Bool) → a || true ≡ true
or_true true = refl
or_true false = refl

-- a piece and then `%`
cut_step : (p : ℕ) (test : List ℕ → Bool) (left : Option (List ℕ) → Bool) (ps text : List ℕ) → ((cs : List ℕ) → test cs ≡ left (after_piece ps cs)) → left None ≡ false → one_and p test text ≡ left (after_piece (p ∷ ps) text)
unfolding after_piece
cut_step p test left ps [] h none = sym none
cut_step p test left ps (c ∷ cs) h none = step (stands_for p c)
  where
    step : (b : Bool) → b && test cs ≡ left (cond b (after_piece ps cs) None)
    step true = h cs
    step false = sym none

pub meets_cut : (piece later text : List ℕ) → has_any piece ≡ false → meets (piece ++ 37 ∷ later) text ≡ is_left (some_end (meets later)) (after_piece piece text)
unfolding after_piece
meets_cut [] later text e = refl
meets_cut (p ∷ ps) later text e =
    let parts = or_parts (nat_eq p 37) (has_any ps) e in
    ap (λ b. cond b (some_end (meets (ps ++ 37 ∷ later)) text) (one_and p (meets (ps ++ 37 ∷ later)) text)) parts.0
    ∙ cut_step p (meets (ps ++ 37 ∷ later)) (is_left (some_end (meets later))) ps text (λ cs. meets_cut ps later cs parts.1) refl

-- a piece and nothing after it
pub meets_piece : (piece text : List ℕ) → has_any piece ≡ false → meets piece text ≡ is_left is_empty (after_piece piece text)
unfolding after_piece
meets_piece [] text e = refl
meets_piece (p ∷ ps) text e =
    let parts = or_parts (nat_eq p 37) (has_any ps) e in
    ap (λ b. cond b (some_end (meets ps) text) (one_and p (meets ps) text)) parts.0
    ∙ cut_step p (meets ps) (is_left is_empty) ps text (λ cs. meets_piece ps cs parts.1) refl

-- what stands later stands in more
pub some_end-same : (f g : List ℕ → Bool) → ((t : List ℕ) → f t ≡ g t) → (text : List ℕ) → some_end f text ≡ some_end g text
some_end-same f g e [] = e []
some_end-same f g e (c ∷ cs) = ap (λ b. b || some_end f cs) (e (c ∷ cs)) ∙ ap (λ b. g (c ∷ cs) || b) (some_end-same f g e cs)

in_more : (f : List ℕ → Bool) (n : ℕ) (text : List ℕ) → some_end f (drop n text) ≡ true → some_end f text ≡ true
in_more f zero text e = e
in_more f (suc n) [] e = e
in_more f (suc n) (c ∷ cs) e = ap (λ b. f (c ∷ cs) || b) (in_more f n cs e) ∙ or_true (f (c ∷ cs))

-- what is left is an end of the text
left_by : (b : Bool) (left : Option (List ℕ)) (r : List ℕ) → cond b left None ≡ Some r → left ≡ Some r
left_by true left r e = e
left_by false left r e = cc

left_is : (piece text r : List ℕ) → after_piece piece text ≡ Some r → r ≡ drop (length piece) text
unfolding after_piece
left_is [] text r e = cc
left_is (p ∷ ps) [] r e = cc
left_is (p ∷ ps) (c ∷ cs) r e = left_is ps cs r (left_by (stands_for p c) (after_piece ps cs) r e)

drop_empty : (n : ℕ) → drop {A = ℕ} n [] ≡ []
drop_empty zero = refl
drop_empty (suc n) = refl

drop_one : (n : ℕ) (c : ℕ) (cs : List ℕ) → drop n cs ≡ drop 1 (drop n (c ∷ cs))
drop_one zero c cs = refl
drop_one (suc n) c [] = ap (drop 1) (sym (drop_empty n))
drop_one (suc n) c (d ∷ cs) = drop_one n d cs

module _ (f : List ℕ → Bool) (piece : List ℕ) where
  -- the piece, and then what the test asks of an end
  abbrev then_end : List ℕ → Bool
  then_end text = is_left (some_end f) (after_piece piece text)

  of_left : (text : List ℕ) (o : Option (List ℕ)) → after_piece piece text ≡ o → is_left (some_end f) o ≡ true → some_end f (drop (length piece) text) ≡ true
  of_left text None e h = absurd (false≢true h)
  of_left text (Some r) e h = ap (some_end f) (sym (left_is piece text r e)) ∙ h

  later_too : (c : ℕ) (cs : List ℕ) → some_end f (drop (length piece) cs) ≡ true → some_end f (drop (length piece) (c ∷ cs)) ≡ true
  later_too c cs h = in_more f 1 (drop (length piece) (c ∷ cs)) (ap (some_end f) (sym (drop_one (length piece) c cs)) ∙ h)

  or_later : (c : ℕ) (cs : List ℕ) (b : Bool) → then_end (c ∷ cs) ≡ b → b || some_end then_end cs ≡ true → (some_end then_end cs ≡ true → some_end f (drop (length piece) cs) ≡ true) → some_end f (drop (length piece) (c ∷ cs)) ≡ true
  or_later c cs true e h later = of_left (c ∷ cs) (after_piece piece (c ∷ cs)) refl e
  or_later c cs false e h later = later_too c cs (later h)

  -- wherever the piece is met, the first place leaves as much
  from_first : (text : List ℕ) → some_end then_end text ≡ true → some_end f (drop (length piece) text) ≡ true
  from_first [] h = of_left [] (after_piece piece []) refl h
  from_first (c ∷ cs) h = or_later c cs (then_end (c ∷ cs)) refl h (from_first cs)

  absorbed : (a b : Bool) → (b ≡ true → a ≡ true) → a || b ≡ a
  absorbed true b h = refl
  absorbed false true h = sym (h refl)
  absorbed false false h = refl

  greedy_by : (c : ℕ) (cs : List ℕ) (o : Option (List ℕ)) → after_piece piece (c ∷ cs) ≡ o → some_end then_end cs ≡ is_left (some_end f) (after_first piece cs) → is_left (some_end f) o || some_end then_end cs ≡ is_left (some_end f) (or_else o (after_first piece cs))
  greedy_by c cs None e h = h
  greedy_by c cs (Some r) e h = absorbed (some_end f r) (some_end then_end cs) (λ met. ap (some_end f) (left_is piece (c ∷ cs) r e) ∙ later_too c cs (from_first cs met))

  pub greedy : (text : List ℕ) → some_end then_end text ≡ is_left (some_end f) (after_first piece text)
  unfolding after_first
  greedy [] = refl
  greedy (c ∷ cs) = greedy_by c cs (after_piece piece (c ∷ cs)) refl (greedy cs)

-- a step of the loop: `%`, a piece, and `%` again
pub any_cut : (piece later text : List ℕ) → has_any piece ≡ false → some_end (meets (piece ++ 37 ∷ later)) text ≡ is_left (some_end (meets later)) (after_first piece text)
any_cut piece later text e = some_end-same _ _ (λ t. meets_cut piece later t e) text ∙ greedy (meets later) piece text

-- the last piece: its length says where it has to stand
is_empty_length : (o : Option (List ℕ)) (piece text : List ℕ) → after_piece piece text ≡ o → is_left is_empty o ≡ true → length text ≡ length piece
unfolding after_piece
is_empty_length None piece text e h = absurd (false≢true h)
is_empty_length (Some []) [] [] e h = refl
is_empty_length (Some []) [] (c ∷ cs) e h = cc
is_empty_length (Some []) (p ∷ ps) [] e h = cc
is_empty_length (Some []) (p ∷ ps) (c ∷ cs) e h = ap suc (is_empty_length (Some []) ps cs (left_by (stands_for p c) (after_piece ps cs) [] e) refl)
is_empty_length (Some (r ∷ rs)) piece text e h = absurd (false≢true h)

module _ (piece : List ℕ) (whole : has_any piece ≡ false) where
  met_length : (text : List ℕ) → meets piece text ≡ true → length text ≡ length piece
  met_length text h = is_empty_length (after_piece piece text) piece text refl (sym (meets_piece piece text whole) ∙ h)

  unmet_by : (text : List ℕ) → (length text ≡ length piece → ⊥) → (b : Bool) → meets piece text ≡ b → meets piece text ≡ false
  unmet_by text h true e = absurd (h (met_length text e))
  unmet_by text h false e = e

  unmet : (text : List ℕ) → (length text ≡ length piece → ⊥) → meets piece text ≡ false
  unmet text h = unmet_by text h (meets piece text) refl

  pub too_short : (text : List ℕ) → length text < length piece → some_end (meets piece) text ≡ false
  too_short [] h = unmet [] (λ e. omega (arith, e, h))
  too_short (c ∷ cs) h = ap (λ b. b || some_end (meets piece) cs) (unmet (c ∷ cs) (λ e. omega (arith, e, h))) ∙ too_short cs (omega (arith, h))

  pub at_its_length : (n : ℕ) (text : List ℕ) → length text ≡ n + length piece → some_end (meets piece) text ≡ meets piece (drop n text)
  at_its_length zero [] e = refl
  at_its_length zero (c ∷ cs) e = ap (λ b. meets piece (c ∷ cs) || b) (too_short cs (omega (arith, e))) ∙ or_false (meets piece (c ∷ cs))
  at_its_length (suc n) [] e = absurd (omega (arith, e))
  at_its_length (suc n) (c ∷ cs) e = ap (λ b. b || some_end (meets piece) cs) (unmet (c ∷ cs) (λ f. omega (arith, e, f))) ∙ at_its_length n cs (omega (arith, e))

pub ruleset steps = (piece_done, text_done, piece_more, first_done, first_more, found_first)

pub drop_more : (text : List ℕ) (n c : ℕ) (later : List ℕ) → drop n text ≡ c ∷ later → later ≡ drop (n + 1) text
drop_more [] zero c later e = cc
drop_more [] (suc n) c later e = cc
drop_more (d ∷ text) zero c later e = cc
drop_more (d ∷ text) (suc n) c later e = drop_more text n c later e ∙ sym (ap (λ m. drop m (d ∷ text)) (more n))
  where
    more : (n : ℕ) → suc n + 1 ≡ suc (n + 1)
    more n = omega arith

pub cut_met : (pattern text front later : List ℕ) (o : Option (List ℕ)) → pattern ≡ front ++ 37 ∷ later → has_any front ≡ false → o ≡ after_piece front text → is_left (some_end (meets later)) o ≡ meets pattern text
cut_met pattern text front later o cut none left = ap (is_left (some_end (meets later))) left ∙ sym (ap (λ l. meets l text) cut ∙ meets_cut front later text none)

pub again_met : (pattern text piece later : List ℕ) (o : Option (List ℕ)) → pattern ≡ piece ++ 37 ∷ later → has_any piece ≡ false → o ≡ after_first piece text → is_left (some_end (meets later)) o ≡ some_end (meets pattern) text
again_met pattern text piece later o cut none left = ap (is_left (some_end (meets later))) left ∙ sym (ap (λ l. some_end (meets l) text) cut ∙ any_cut piece later text none)

pub whole_met : (piece text : List ℕ) (o : Option (List ℕ)) → has_any piece ≡ false → o ≡ after_piece piece text → is_left is_empty o ≡ meets piece text
whole_met piece text o none left = ap (is_left is_empty) left ∙ sym (meets_piece piece text none)

pub ruleset meetings = (cut_met, again_met, whole_met)
