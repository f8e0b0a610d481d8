-- Text that is pending, and what becomes of it.
use Rattle.std.proofs.Common.{◌≡◌, ℕ, ◌+◌, ◌≤◌, List, [], ◌∷◌, ◌++◌, length, take, drop, min, refl, sym, ap, subst, ◌∙◌, append_assoc, append-nil, arith}
use Rattle.std.specs.Prelude.{Option, Some, None}
use Rattle.std.proofs.lemmas.Grind.{common_steps}
use Rattle.std.proofs.lemmas.List.{take_at, take-append-le, take-append-drop, take_min, length-take}
use Rattle.std.proofs.Math.Seq.{take-append-add}
use Rattle.melon_outside.specs.Moves.{Grows, GrowsByFront}
use Rattle.melon_outside.proofs.Chains.{grows_more, grows_none}
use Rattle.melon_cli.specs.Runs.{Pends, PendsFront}

-- ---- what is pending

-- nothing was written
pub pends_all : (before : Option (List ℕ)) (pending whole : List ℕ) → pending ≡ whole → Pends before before pending whole
pends_all before pending whole is = record { written = []; grows = grows_none before; text_is = is }

-- all was written
pub pends_none : (before after : Option (List ℕ)) (pending whole : List ℕ) → Grows before after whole → pending ≡ [] → Pends before after pending whole
pends_none before after pending whole grows none = record { written = whole; grows = grows; text_is = ap (λ p. whole ++ p) none ∙ append-nil whole }

-- a text more
pub pends_more : (before between after : Option (List ℕ)) (pending whole printed pending' whole' : List ℕ) → Pends before between pending whole → Pends between after pending' (pending ++ printed) → whole ++ printed ≡ whole' → Pends before after pending' whole'
pends_more before between after pending whole printed pending' whole' p q is = record {
  written = p.written ++ q.written;
  grows = grows_more before between after p.written q.written p.grows q.grows;
  text_is = append_assoc p.written q.written pending' ∙ ap (λ t. p.written ++ t) q.text_is ∙ sym (append_assoc p.written pending printed) ∙ ap (λ t. t ++ printed) p.text_is ∙ is;
}

-- what is pending was written
pub pends_written : (before between after : Option (List ℕ)) (pending whole : List ℕ) → Pends before between pending whole → Grows between after pending → Grows before after whole
pends_written before between after pending whole p grows = subst (λ (t : List ℕ). Grows before after t) p.text_is (grows_more before between after p.written pending p.grows grows)

-- a front of what is pending, and of what comes behind it, was written
pub pends_cut : (before between after : Option (List ℕ)) (pending whole printed later text : List ℕ) → Pends before between pending whole → GrowsByFront between after (pending ++ printed) → (whole ++ printed) ++ later ≡ text → GrowsByFront before after text
pends_cut before between after pending whole printed later text p cut is =
    let front : (p.written ++ (pending ++ printed)) ++ later ≡ text = ap (λ t. t ++ later) (sym (append_assoc p.written pending printed) ∙ ap (λ t. t ++ printed) p.text_is) ∙ is in
    let front' : p.written ++ ((pending ++ printed) ++ later) ≡ text = sym (append_assoc p.written (pending ++ printed) later) ∙ front in
    let n = cut.0 in (
      length p.written + n,
      subst (λ (t : List ℕ). length p.written + n ≤ length t) front' (within p.written (pending ++ printed) later n cut.1),
      subst (λ (t : List ℕ). Grows before after t)
          (sym (ap (take (length p.written + n)) (sym front') ∙ take-append-add p.written ((pending ++ printed) ++ later) n ∙ ap (λ t. p.written ++ t) (take-append-le n (pending ++ printed) later cut.1)))
          (grows_more before between after p.written (take n (pending ++ printed)) p.grows cut.2),
    )
  where
    within : (xs ys zs : List ℕ) (n : ℕ) → n ≤ length ys → length xs + n ≤ length (xs ++ (ys ++ zs))
    within xs ys zs n h = grind (arith, common_steps)

-- ---- the last write

-- a front of the first bytes is a front
front_of_front : (before after : Option (List ℕ)) (whole : List ℕ) (count : ℕ) → GrowsByFront before after (take count whole) → GrowsByFront before after whole
front_of_front before after whole count cut = (
  cut.0,
  omega (arith, cut.1, length-take count whole),
  subst (λ (t : List ℕ). Grows before after t) (sym (take-append-le cut.0 (take count whole) (drop count whole) cut.1) ∙ ap (take cut.0) (take-append-drop count whole)) cut.2,
)

-- all that was pending of a front was written
pub front_written : (before between after : Option (List ℕ)) (pending whole : List ℕ) → PendsFront before between pending whole → Grows between after pending → GrowsByFront before after whole
front_written before between after pending whole p grows =
    let written : Grows before after (take p.count whole) = pends_written before between after pending (take p.count whole) p.pends grows in
    (min p.count (length whole), omega arith, subst (λ (t : List ℕ). Grows before after t) (sym (take_min p.count whole)) written)

-- a front of what is pending was written
pub written_cut : (before between after : Option (List ℕ)) (pending whole : List ℕ) → Pends before between pending whole → GrowsByFront between after pending → GrowsByFront before after whole
written_cut before between after pending whole p cut =
    pends_cut before between after pending whole [] [] whole p (subst (λ (t : List ℕ). GrowsByFront between after t) (sym (append-nil pending)) cut) (append-nil (whole ++ []) ∙ append-nil whole)

pub front_written_cut : (before between after : Option (List ℕ)) (pending whole : List ℕ) → PendsFront before between pending whole → GrowsByFront between after pending → GrowsByFront before after whole
front_written_cut before between after pending whole p cut = front_of_front before after whole p.count (written_cut before between after pending (take p.count whole) p.pends cut)

-- ---- fronts

-- a text that is pending is a front of itself with more behind it
pub pends_front : (before after : Option (List ℕ)) (pending whole later : List ℕ) → Pends before after pending whole → PendsFront before after pending (whole ++ later)
pends_front before after pending whole later p = record {
  count = length whole;
  pends = subst (λ (t : List ℕ). Pends before after pending t) (sym (take_at whole later (length whole) refl)) p;
}
