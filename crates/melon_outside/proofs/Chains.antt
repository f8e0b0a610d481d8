-- Moves one after another.
use Rattle.std.proofs.Common.{◌≡◌, ℕ, ◌+◌, ◌-◌, List, [], ◌++◌, length, take, drop, refl, sym, subst, ◌∙◌, ap, append_assoc, take-append-drop, take_at, take-add, drop-drop, arith}
use Rattle.std.proofs.lemmas.Grind.{common_steps}
use Rattle.std.specs.declared.option.Option.{Option}
use Rattle.std.specs.Prelude.{Some, None}
use Rattle.melon_outside.specs.Moves.{Takes, Grows}

pub takes_more : (a b c : Option (List ℕ)) (x y : List ℕ) → Takes a b x → Takes b c y → Takes a c (x ++ y)
takes_more None None None x y p q = tt
takes_more None None (Some c) x y p q = absurd q
takes_more None (Some b) c x y p q = absurd p
takes_more (Some a) None c x y p q = absurd p
takes_more (Some a) (Some b) None x y p q = absurd q
takes_more (Some a) (Some b) (Some c) x y p q = p ∙ ap (λ rest. x ++ rest) q ∙ sym (append_assoc x y c)

pub grows_more : (a b c : Option (List ℕ)) (x y : List ℕ) → Grows a b x → Grows b c y → Grows a c (x ++ y)
grows_more None None None x y p q = tt
grows_more None None (Some c) x y p q = absurd q
grows_more None (Some b) c x y p q = absurd p
grows_more (Some a) None c x y p q = absurd p
grows_more (Some a) (Some b) None x y p q = absurd q
grows_more (Some a) (Some b) (Some c) x y p q = q ∙ ap (λ front. front ++ y) p ∙ append_assoc a x y

pub grows_none : (a : Option (List ℕ)) → Grows a a []
grows_none None = tt
grows_none (Some a) = grind (arith, common_steps)

pub takes_none : (a : Option (List ℕ)) → Takes a a []
takes_none None = tt
takes_none (Some a) = refl

rest_of : (bytes : List ℕ) (done : ℕ) → take (length bytes - done) (drop done bytes) ≡ drop done bytes
rest_of bytes done = grind (arith, common_steps)

pub front_grows : (a b c : Option (List ℕ)) (bytes : List ℕ) (done n : ℕ) → Grows a b (take done bytes) → Grows b c (take n (take (length bytes - done) (drop done bytes))) → Grows a c (take (done + n) bytes)
front_grows a b c bytes done n p q = rw (take-add done n bytes) (grows_more a b c (take done bytes) (take n (drop done bytes)) p (subst (λ (piece : List ℕ). Grows b c (take n piece)) (rest_of bytes done) q))

pub front_taken : (a b c : Option (List ℕ)) (old new : List ℕ) (done n : ℕ) → take done new ≡ take done old → Takes a b (take done old) → Takes b c (take n (drop done new)) → Takes a c (take (done + n) new)
front_taken a b c old new done n same p q = rw (take-add done n new, same) (takes_more a b c (take done old) (take n (drop done new)) p q)
