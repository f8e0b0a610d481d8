-- What a read out of memory copies.
use Rattle.std.proofs.Common.{◌≡◌, ℕ, ◌+◌, ◌<◌, ◌≤◌, min, List, [], ◌++◌, length, take, drop, ap, sym, ◌∙◌, subst, arith, length-append, length-drop, take-append-drop, drop-drop, take_at}
use Rattle.std.proofs.lemmas.Grind.{common_steps}
use Rattle.std.proofs.lemmas.List.{length-take-le, drop_all}

-- the buffer begins with the next bytes, and the source loses them
pub next_bytes : (bytes into new : List ℕ) (at n : ℕ) → length (take n (drop at bytes)) ≡ n → new ≡ take n (drop at bytes) ++ drop n into → drop at bytes ≡ take n new ++ drop (at + n) bytes
next_bytes bytes into new at n long is =
    sym (take-append-drop n (drop at bytes)) ∙ ap (λ front. front ++ drop n (drop at bytes)) (sym (ap (take n) is ∙ take_at (take n (drop at bytes)) (drop n into) n long)) ∙ ap (λ tail. take n new ++ tail) (drop-drop n at bytes)

length_kept : (front into new : List ℕ) (n : ℕ) → length front ≡ n → n ≤ length into → new ≡ front ++ drop n into → length new ≡ length into
length_kept front into new n long within is = ap length is ∙ omega (arith, long, within, length-append front (drop n into), length-drop n into)

pub moves : (bytes into new : List ℕ) (at most n : ℕ) → 0 < most → n ≡ min (min (length (drop at bytes)) most) (length into) → new ≡ take n (drop at bytes) ++ drop n into
    → (n ≤ length new) × (drop at bytes ≡ take n new ++ drop (at + n) bytes) × (n ≡ 0 → 0 < length new → drop at bytes ≡ [])
moves bytes into new at most n some count is =
    let long : length (take n (drop at bytes)) ≡ n = length-take-le n (drop at bytes) (omega (arith, count)) in
    let same : length new ≡ length into = length_kept _ into new n long (omega (arith, count)) is in (
      omega (arith, count, same),
      next_bytes bytes into new at n long is,
      λ none room. drop_all at bytes (omega (arith, count, none, room, same, some, length-drop at bytes)),
    )
