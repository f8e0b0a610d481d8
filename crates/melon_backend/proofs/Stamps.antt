-- Stamps that are made and taken away.
use Rattle.std.proofs.Common.{◌≡◌, ℕ, ◌==◌, nat_lt, Bool, true, false, ◌&&◌, cond, bytes_eq, Ordering, Less, Equal, Greater, nat_cmp, refl, ap, ◌∙◌, arith}
use Rattle.std.specs.Ordering.{is_eq, ordering_then}
use Rattle.std.specs.Cmp.Lexicographic.{slice_cmp}
use Rattle.std.specs.BTreeMap.{is_at}
use Rattle.std.proofs.lemmas.Bool.Decides.{Decides-eqb, nat_tests}
use Rattle.std.proofs.lemmas.Map.Text.{is_eq-slice_cmp}
use Rattle.melon_wire.proofs.KeyOrder.{split, bytes_same}
use Rattle.melon_log.proofs.ById.{bytes_turned}
use Rattle.melon_backend.specs.declared.table.Stamp.{Stamp}
use Rattle.melon_backend.specs.Inside.{stamp_cmp}

eq_then : (o p : Ordering) → is_eq (ordering_then o p) ≡ (is_eq o && is_eq p)
eq_then Less p = refl
eq_then Equal p = refl
eq_then Greater p = refl

and_false : (a b : Bool) → b ≡ false → (a && b) ≡ false
and_false true b h = h
and_false false b h = refl

-- stamps of two ids
pub other_id : (a b : Stamp) → bytes_eq b.id a.id ≡ false → is_at (stamp_cmp a) b ≡ false
other_id a b apart =
    eq_then (nat_cmp b.revision a.revision) (slice_cmp nat_cmp a.id b.id) ∙ and_false (is_eq (nat_cmp b.revision a.revision)) (is_eq (slice_cmp nat_cmp a.id b.id)) (is_eq-slice_cmp a.id b.id ∙ bytes_turned b.id a.id apart)

unequal : (m n : ℕ) → (m == n) ≡ false → is_eq (nat_cmp m n) ≡ false
unequal m n h = split (nat_lt m n) (λ e. rw e refl) (λ e. rw (e, h) refl)

-- stamps of two revisions
pub other_revision : (a b : Stamp) → (b.revision == a.revision) ≡ false → is_at (stamp_cmp a) b ≡ false
other_revision a b apart = eq_then (nat_cmp b.revision a.revision) (slice_cmp nat_cmp a.id b.id) ∙ ap (λ (t : Bool). t && is_eq (slice_cmp nat_cmp a.id b.id)) (unequal b.revision a.revision apart)

pub either_true : (b c : Bool) → c ≡ true → cond b true c ≡ true
either_true true c h = refl
either_true false c h = h

equal_itself : (n : ℕ) → is_eq (nat_cmp n n) ≡ true
equal_itself n = let no : nat_lt n n ≡ false = grind (arith, nat_tests) in let yes : (n == n) ≡ true = (Decides-eqb n n).1 refl in rw (no, yes) refl

pub own_place : (a : Stamp) → is_at (stamp_cmp a) a ≡ true
own_place a = eq_then (nat_cmp a.revision a.revision) (slice_cmp nat_cmp a.id a.id) ∙ (ap (λ (t : Bool). t && is_eq (slice_cmp nat_cmp a.id a.id)) (equal_itself a.revision) ∙ (is_eq-slice_cmp a.id a.id ∙ bytes_same a.id a.id refl))
