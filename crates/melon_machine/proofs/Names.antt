-- Names of apps, and the names under which their stores are kept.
use Rattle.std.proofs.Common.{◌≡◌, ◌≢◌, ℕ, zero, suc, ◌+◌, ◌≤◌, List, [], ◌∷◌, ◌++◌, map, length, Bool, true, false, not, bytes_eq, refl, ap, sym, ◌∙◌, subst, arith}
use Rattle.std.specs.Prelude.{Some, None, position, slice_get, if◌then◌else◌}
use Rattle.std.specs.List.{prefix_len, remove}
use Rattle.std.proofs.lemmas.Grind.{common_steps}
use Rattle.std.proofs.lemmas.Slice.Eq.{bytes_eq-Decides}
use Rattle.melon_outside.specs.Kept.{batched}
use Rattle.melon_outside.specs.Keeping.{Stores}
use Rattle.melon_outside.specs.declared.kept.KeptBatch.{KeptBatch}
use Rattle.melon_board.specs.Stores.{store_key}
use Rattle.melon_machine.specs.Calls.{after_batch}
use Rattle.melon_machine.specs.Sound.{IsNotAmong, AreDifferent}

-- ---- equal names

pub same_name : (a : List ℕ) → bytes_eq a a ≡ true
same_name a = (bytes_eq-Decides a a).1 refl

differ_is : (b : Bool) → (b ≡ true → ⊥) → b ≡ false
differ_is true h = absurd (h refl)
differ_is false h = refl

pub other_name : (a b : List ℕ) → a ≢ b → bytes_eq a b ≡ false
other_name a b h = differ_is (bytes_eq a b) (λ e. h ((bytes_eq-Decides a b).0 e))

apart_is : (a b : List ℕ) → bytes_eq a b ≡ false → a ≢ b
apart_is a b e is = absurd (no (sym e ∙ (bytes_eq-Decides a b).1 is))
  where
    no : false ≡ true → ⊥
    no e = grind (arith, e)

-- apps of different names have their stores under different names
key_apart : (a b : List ℕ) → bytes_eq (store_key a) (store_key b) ≡ bytes_eq a b
key_apart a b = refl

-- ---- what is kept after a batch

pub kept_there : (name : List ℕ) (batch : KeptBatch) (kept : Stores) → after_batch name batch kept name ≡ batched batch (kept name)
kept_there name batch kept = ap (λ b. if b then batched batch (kept name) else kept name) (same_name name)

pub kept_elsewhere : (name other : List ℕ) (batch : KeptBatch) (kept : Stores) → name ≢ other → after_batch (store_key name) batch kept (store_key other) ≡ kept (store_key other)
kept_elsewhere name other batch kept h =
    ap (λ b. if b then batched batch (kept (store_key other)) else kept (store_key other)) (key_apart name other ∙ other_name name other h)

-- ---- names among others

from_end : (name : List ℕ) (ns : List (List ℕ)) → length ns ≤ prefix_len (λ n. not (bytes_eq n name)) ns → IsNotAmong name ns
from_end name [] h = tt
from_end name (n ∷ ns) h = by (bytes_eq n name) refl (from_end name ns) h
  where
    by : (b : Bool) → bytes_eq n name ≡ b → (length ns ≤ prefix_len (λ m. not (bytes_eq m name)) ns → IsNotAmong name ns) → length (n ∷ ns) ≤ prefix_len (λ m. not (bytes_eq m name)) (n ∷ ns) → IsNotAmong name (n ∷ ns)
    by true e rest h = absurd (omega (arith, short e, h))
      where
        short : bytes_eq n name ≡ true → prefix_len (λ m. not (bytes_eq m name)) (n ∷ ns) ≡ 0
        short e = rw e refl
    by false e rest h = (apart_is n name e, rest (omega (arith, long e, h)))
      where
        long : bytes_eq n name ≡ false → prefix_len (λ m. not (bytes_eq m name)) (n ∷ ns) ≡ 1 + prefix_len (λ m. not (bytes_eq m name)) ns
        long e = rw e refl

past_end : (name : List ℕ) (ns : List (List ℕ)) → position (λ n. bytes_eq n name) ns ≡ None → length ns ≤ prefix_len (λ n. not (bytes_eq n name)) ns
past_end name ns e = grind (arith, common_steps)

pub not_among : (name : List ℕ) (ns : List (List ℕ)) → position (λ n. bytes_eq n name) ns ≡ None → IsNotAmong name ns
not_among name ns e = from_end name ns (past_end name ns e)

pub not_at : {X : Type 0} (name_of : X → List ℕ) (name : List ℕ) (xs : List X) (i : ℕ) (x : X) → IsNotAmong name (map name_of xs) → slice_get xs i ≡ Some x → name_of x ≢ name
not_at name_of name [] i x h e = absurd (grind (arith, e))
not_at name_of name (y ∷ ys) zero x h e = subst (λ z. name_of z ≢ name) (some_is e) h.0
  where
    some_is : {X : Type 0} {a b : X} → Some a ≡ Some b → a ≡ b
    some_is e = grind (arith, e)
not_at name_of name (y ∷ ys) (suc i) x h e = not_at name_of name ys i x h.1 e

not_among_more : (name : List ℕ) (ns : List (List ℕ)) (new : List ℕ) → IsNotAmong name ns → new ≢ name → IsNotAmong name (ns ++ new ∷ [])
not_among_more name [] new h k = (k, tt)
not_among_more name (n ∷ ns) new h k = (h.0, not_among_more name ns new h.1 k)

pub different_more : (ns : List (List ℕ)) (new : List ℕ) → AreDifferent ns → IsNotAmong new ns → AreDifferent (ns ++ new ∷ [])
different_more [] new h k = (tt, tt)
different_more (n ∷ ns) new h k = (not_among_more n ns new h.0 (λ is. k.0 (sym is)), different_more ns new h.1 k.1)

not_among_less : (name : List ℕ) (ns : List (List ℕ)) (i : ℕ) → IsNotAmong name ns → IsNotAmong name (remove ns i)
not_among_less name [] zero h = tt
not_among_less name [] (suc i) h = tt
not_among_less name (n ∷ ns) zero h = h.1
not_among_less name (n ∷ ns) (suc i) h = (h.0, not_among_less name ns i h.1)

pub different_less : (ns : List (List ℕ)) (i : ℕ) → AreDifferent ns → AreDifferent (remove ns i)
different_less [] zero h = tt
different_less [] (suc i) h = tt
different_less (n ∷ ns) zero h = h.1
different_less (n ∷ ns) (suc i) h = (not_among_less n ns i h.0, different_less ns i h.1)
