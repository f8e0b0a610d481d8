-- What stands between the commas of a text.
use Rattle.std.proofs.Common.{◌≡◌, ℕ, suc, ◌+◌, ◌<◌, ◌==◌, Bool, true, false, not, cond, List, [], ◌∷◌, length, take, drop, Option, Some, None, Bor, length-drop, refl, ap, ◌∙◌, arith}
use Rattle.std.specs.Option.{MatchOption}
use Rattle.std.specs.List.{position_or_len, before_first, after_first}
use Rattle.melon_raw.specs.Decoding.{longer, pieces}

abbrev pub comma : ℕ → Bool
comma b = b == 44

cut_at : (x : Bool) (b n : ℕ) (bs : List ℕ) → cond (not x) (1 + n) 0 < suc (length bs) → (n < length bs → pieces bs ≡ take n bs ∷ pieces (drop (n + 1) bs))
    → cond x ([] ∷ pieces bs) (longer b (pieces bs)) ≡ take (cond (not x) (1 + n) 0) (b ∷ bs) ∷ pieces (drop (cond (not x) (1 + n) 0 + 1) (b ∷ bs))
cut_at true b n bs h later = refl
cut_at false b n bs h later =
    let one : suc n ≡ 1 + n = omega arith in
    let two : suc (n + 1) ≡ 1 + n + 1 = omega arith in
    ap (longer b) (later (omega (arith, h)))
    ∙ ap (λ (k : ℕ). take k (b ∷ bs) ∷ pieces (drop (n + 1) bs)) one
    ∙ ap (λ (k : ℕ). take (1 + n) (b ∷ bs) ∷ pieces (drop k (b ∷ bs))) two

-- the first piece is what stands before the first comma
pub pieces-cut : (bs : List ℕ) → position_or_len comma bs < length bs → pieces bs ≡ before_first comma bs ∷ pieces (after_first comma bs)
pieces-cut [] h = absurd (omega (arith, h))
pieces-cut (b ∷ bs) h = cut_at (b == 44) b (position_or_len comma bs) bs h (pieces-cut bs)

whole_at : (x : Bool) (b n : ℕ) (bs : List ℕ) → cond (not x) (1 + n) 0 ≡ suc (length bs) → (n ≡ length bs → pieces bs ≡ bs ∷ []) → cond x ([] ∷ pieces bs) (longer b (pieces bs)) ≡ (b ∷ bs) ∷ []
whole_at true b n bs h later = absurd (omega (arith, h))
whole_at false b n bs h later = ap (longer b) (later (omega (arith, h)))

-- without a comma it is one piece
pub pieces-whole : (bs : List ℕ) → position_or_len comma bs ≡ length bs → pieces bs ≡ bs ∷ []
pieces-whole [] h = refl
pieces-whole (b ∷ bs) h = whole_at (b == 44) b (position_or_len comma bs) bs h (pieces-whole bs)

shorter : (bs : List ℕ) → position_or_len comma bs < length bs → length (after_first comma bs) < length bs
shorter bs h = grind (arith, length-drop (position_or_len comma bs + 1) bs)

abbrev IsCut : List ℕ → Option (Bor (List ℕ) × Bor (List ℕ)) → Type 0
IsCut bs r = MatchOption r (position_or_len comma bs ≡ length bs) (λ x. (position_or_len comma bs < length bs) × (x.0.now ≡ before_first comma bs) × (x.1.now ≡ after_first comma bs))

pub cut_pieces : (bs : List ℕ) (r : Option (Bor (List ℕ) × Bor (List ℕ))) → IsCut bs r
    → MatchOption r (pieces bs ≡ bs ∷ []) (λ parts. (pieces bs ≡ parts.0.now ∷ pieces parts.1.now) × (length parts.1.now < length bs))
cut_pieces bs None h = pieces-whole bs h
cut_pieces bs (Some x) h = (rw (h.1, h.2) (pieces-cut bs h.0), rw h.2 (shorter bs h.0))
