-- Late keys among the settled ones: what is read at a place, and what a key put there or taken from there leaves.
use Rattle.std.proofs.Common.{◌≡◌, ◌≢◌, ℕ, zero, suc, ◌+◌, ◌-◌, ◌<◌, ◌≤◌, List, [], ◌∷◌, ◌++◌, length, take, drop, map, set, get_or, slice_get, Some, refl, sym, ap, ◌∙◌, subst, arith, length-take, length-drop}
use Rattle.std.specs.List.{insert, remove}
use Rattle.std.proofs.lemmas.List.{set-append_right, get_or-append_right}
use Rattle.std.proofs.lemmas.List.Edits.{map_over_more, length-remove}
use Rattle.std.proofs.lemmas.Option.{slice_get-get_or, slice_get_within, get_or_from_slice_get}
use Rattle.melon_table.specs.declared.keys.Late.{Late}
use Rattle.melon_table.specs.Late.{joined, AreLate, AreBefore, AreFrom, IsCut, less}

-- ---- a key put among keys, and one taken out

insert-long : (keys : List ℕ) (p a : ℕ) → length (insert keys p a) ≡ suc (length keys)
insert-long keys zero a = refl
insert-long [] (suc p) a = refl
insert-long (k ∷ ks) (suc p) a = ap suc (insert-long ks p a)

insert-insert : (keys : List ℕ) (p q a b : ℕ) → q ≤ p → p ≤ length keys → insert (insert keys p a) q b ≡ insert (insert keys q b) (suc p) a
insert-insert keys p zero a b low within = refl
insert-insert keys zero (suc q) a b low within = absurd (omega arith)
insert-insert [] (suc p) (suc q) a b low within = absurd (omega arith)
insert-insert (k ∷ ks) (suc p) (suc q) a b low within = ap (λ (rest : List ℕ). k ∷ rest) (insert-insert ks p q a b (omega arith) (omega arith))

remove-insert : (keys : List ℕ) (p a : ℕ) → p ≤ length keys → remove (insert keys p a) p ≡ keys
remove-insert keys zero a within = refl
remove-insert [] (suc p) a within = absurd (omega arith)
remove-insert (k ∷ ks) (suc p) a within = ap (λ (rest : List ℕ). k ∷ rest) (remove-insert ks p a (omega arith))

-- the one taken out stands before the one put
remove-insert_low : (keys : List ℕ) (p q a : ℕ) → q ≤ p → p < length keys → remove (insert keys (suc p) a) q ≡ insert (remove keys q) p a
remove-insert_low [] p q a low within = absurd (omega arith)
remove-insert_low (k ∷ ks) p zero a low within = refl
remove-insert_low (k ∷ ks) zero (suc q) a low within = absurd (omega arith)
remove-insert_low (k ∷ ks) (suc p) (suc q) a low within = ap (λ (rest : List ℕ). k ∷ rest) (remove-insert_low ks p q a (omega arith) (omega arith))

-- it stands behind it
remove-insert_high : (keys : List ℕ) (p q a : ℕ) → p ≤ q → q < length keys → remove (insert keys p a) (suc q) ≡ insert (remove keys q) p a
remove-insert_high keys zero q a high within = refl
remove-insert_high [] (suc p) q a high within = absurd (omega arith)
remove-insert_high (k ∷ ks) (suc p) zero a high within = absurd (omega arith)
remove-insert_high (k ∷ ks) (suc p) (suc q) a high within = ap (λ (rest : List ℕ). k ∷ rest) (remove-insert_high ks p q a (omega arith) (omega arith))

get-insert : (keys : List ℕ) (p a : ℕ) → p ≤ length keys → slice_get (insert keys p a) p ≡ Some a
get-insert keys zero a within = refl
get-insert [] (suc p) a within = absurd (omega arith)
get-insert (k ∷ ks) (suc p) a within = get-insert ks p a (omega arith)

get-insert_low : (keys : List ℕ) (p q a : ℕ) → q < p → p ≤ length keys → slice_get (insert keys p a) q ≡ slice_get keys q
get-insert_low keys zero q a low within = absurd (omega arith)
get-insert_low [] (suc p) q a low within = absurd (omega arith)
get-insert_low (k ∷ ks) (suc p) zero a low within = refl
get-insert_low (k ∷ ks) (suc p) (suc q) a low within = get-insert_low ks p q a (omega arith) (omega arith)

get-insert_high : (keys : List ℕ) (p q a : ℕ) → p ≤ q → slice_get (insert keys p a) (suc q) ≡ slice_get keys q
get-insert_high keys zero q a high = refl
get-insert_high [] (suc p) zero a high = absurd (omega arith)
get-insert_high [] (suc p) (suc q) a high = refl
get-insert_high (k ∷ ks) (suc p) zero a high = absurd (omega arith)
get-insert_high (k ∷ ks) (suc p) (suc q) a high = get-insert_high ks p q a (omega arith)

-- ---- late ones that stand at a place or after it

-- Each stands behind no more settled ones than there are.
abbrev pub Reach : ℕ → List Late → Type 0
Reach high [] = Unit {0}
Reach high (l ∷ ls) = (l.behind ≤ high) × Reach high ls

pub reach : (low high : ℕ) (ls : List Late) → AreLate low high ls → Reach high ls
reach low high [] are = tt
reach low high (l ∷ ls) are = (are.1, reach l.behind high ls are.2)

-- ---- where the late ones stand

pub from_low : (low high n place : ℕ) (ls : List Late) → AreLate low high ls → place ≤ low + n → AreFrom n place ls
from_low low high n place [] are h = tt
from_low low high n place (l ∷ ls) are h = (omega (arith, are.0, h), from_low l.behind high (suc n) place ls are.2 (omega (arith, are.0, h)))

-- so many stand before a place, each behind no fewer settled ones
before_low : (low high n place : ℕ) (ls : List Late) (i : ℕ) → AreLate low high ls → i ≤ length ls → low + n ≤ place → AreBefore n place (take i ls) → low + (n + i) ≤ place
before_low low high n place ls zero are within h before = omega (arith, h)
before_low low high n place [] (suc i) are within h before = absurd (omega (arith, within))
before_low low high n place (l ∷ ls) (suc i) are within h before =
    let ih = before_low l.behind high (suc n) place ls i are.2 (omega (arith, within)) (omega (arith, before.0)) before.1 in
    omega (arith, ih, are.0)

pub few_before : (high place : ℕ) (ls : List Late) (i : ℕ) → AreLate 0 high ls → i ≤ length ls → AreBefore 0 place (take i ls) → i ≤ place
few_before high place ls i are within before = let all = before_low 0 high 0 place ls i are within (omega arith) before in omega (arith, all)

-- where none of these stands at the place, they stand after it
pub from_next : (low high n place : ℕ) (ls : List Late) → AreLate low high ls → AreFrom n place ls → ((l : Late) → slice_get ls 0 ≡ Some l → l.behind + n ≢ place) → AreFrom n (suc place) ls
from_next low high n place [] are from off = tt
from_next low high n place (l ∷ ls) are from off =
    let apart : l.behind + n ≢ place = off l refl in
    (omega (arith, from.0, apart), from_low l.behind high (suc n) (suc place) ls are.2 (omega (arith, from.0)))

pub late-drop : (low high : ℕ) (ls : List Late) (i : ℕ) → AreLate low high ls → AreLate 0 high (drop i ls)
late-drop low high [] zero are = tt
late-drop low high [] (suc i) are = tt
late-drop low high (l ∷ ls) zero are = (omega arith, are.1, are.2)
late-drop low high (l ∷ ls) (suc i) are = late-drop l.behind high ls i are.2

pub get-drop : (ls : List Late) (i : ℕ) → slice_get (drop i ls) 0 ≡ slice_get ls i
get-drop [] zero = refl
get-drop [] (suc i) = refl
get-drop (l ∷ ls) zero = refl
get-drop (l ∷ ls) (suc i) = get-drop ls i

low_at : (low high : ℕ) (ls : List Late) (m : ℕ) (l : Late) → AreLate low high ls → slice_get ls m ≡ Some l → low ≤ l.behind
low_at low high [] m l are found = cc
low_at low high (x ∷ ls) zero l are found = let same : x ≡ l = cc in subst (λ (y : Late). low ≤ y.behind) same are.0
low_at low high (x ∷ ls) (suc m) l are found = let ih = low_at x.behind high ls m l are.2 found in omega (arith, ih, are.0)

-- those up to one that stands before a place stand before it
pub before_to : (low high n place : ℕ) (ls : List Late) (m : ℕ) (l : Late) → AreLate low high ls → slice_get ls m ≡ Some l → l.behind + (n + m) < place → AreBefore n place (take (suc m) ls)
before_to low high n place [] m l are found h = cc
before_to low high n place (x ∷ ls) zero l are found h = let same : x ≡ l = cc in (subst (λ (y : Late). y.behind + n < place) (sym same) (omega (arith, h)), tt)
before_to low high n place (x ∷ ls) (suc m) l are found h =
    let more = low_at x.behind high ls m l are.2 found in
    (omega (arith, h, more), before_to x.behind high (suc n) place ls m l are.2 found (omega (arith, h)))

-- those from one that stands at a place or after it do so too
pub from_at : (low high n place : ℕ) (ls : List Late) (m k : ℕ) (l : Late) → AreLate low high ls → slice_get ls m ≡ Some l → k ≡ n + m → place ≤ l.behind + k → AreFrom k place (drop m ls)
from_at low high n place [] m k l are found is h = cc
from_at low high n place (x ∷ ls) zero k l are found is h =
    let same : x ≡ l = cc in
    let here : place ≤ x.behind + k = subst (λ (y : Late). place ≤ y.behind + k) (sym same) h in
    (here, from_low x.behind high (suc k) place ls are.2 (omega (arith, here)))
from_at low high n place (x ∷ ls) (suc m) k l are found is h = from_at x.behind high (suc n) place ls m k l are.2 found (omega (arith, is)) h

-- ---- the keys

pub joined-long : (n : ℕ) (keys : List ℕ) (ls : List Late) → length (joined n keys ls) ≡ length keys + length ls
joined-long n keys [] = omega arith
joined-long n keys (l ∷ ls) =
    let ih = joined-long (suc n) (insert keys (l.behind + n) l.key) ls in
    let one = insert-long keys (l.behind + n) l.key in
    omega (arith, ih, one)

module _ (high : ℕ) where
  long_next : (n : ℕ) (keys : List ℕ) (p a : ℕ) → length keys ≡ high + n → length (insert keys p a) ≡ high + suc n
  long_next n keys p a long = let one = insert-long keys p a in omega (arith, one, long)

  get_before : (n : ℕ) (keys : List ℕ) (ls : List Late) (place : ℕ) → length keys ≡ high + n → Reach high ls → AreFrom n (suc place) ls → slice_get (joined n keys ls) place ≡ slice_get keys place
  get_before n keys [] place long r from = refl
  get_before n keys (l ∷ ls) place long r from =
      get_before (suc n) (insert keys (l.behind + n) l.key) ls place (long_next n keys (l.behind + n) l.key long) r.1 from.1
      ∙ get-insert_low keys (l.behind + n) place l.key (omega (arith, from.0)) (omega (arith, long, r.0))

  pub at_late : (low n : ℕ) (keys : List ℕ) (ls : List Late) (place i : ℕ) (l : Late) → length keys ≡ high + n → AreLate low high ls → slice_get ls i ≡ Some l → l.behind + (n + i) ≡ place → slice_get (joined n keys ls) place ≡ Some l.key
  at_late low n keys [] place i l long are found is = cc
  at_late low n keys (x ∷ ls) place zero l long are found is =
      let same : x ≡ l = cc in
      let here : x.behind + n ≡ place = ap (λ (y : Late). y.behind + n) same ∙ omega (arith, is) in
      get_before (suc n) (insert keys (x.behind + n) x.key) ls place (long_next n keys (x.behind + n) x.key long) (reach x.behind high ls are.2) (from_low x.behind high (suc n) (suc place) ls are.2 (omega (arith, here)))
      ∙ (ap (slice_get (insert keys (x.behind + n) x.key)) (sym here)
      ∙ (get-insert keys (x.behind + n) x.key (omega (arith, long, are.1)) ∙ ap (λ (y : Late). Some y.key) same))
  at_late low n keys (x ∷ ls) place (suc i) l long are found is =
      at_late x.behind (suc n) (insert keys (x.behind + n) x.key) ls place i l (long_next n keys (x.behind + n) x.key long) are.2 found (omega (arith, is))

  pub at_settled : (low n : ℕ) (keys : List ℕ) (ls : List Late) (place i k : ℕ) → length keys ≡ high + n → AreLate low high ls → i ≤ length ls → k ≡ n + i → low + n ≤ place → AreBefore n place (take i ls) → AreFrom k (suc place) (drop i ls)
      → slice_get (joined n keys ls) place ≡ slice_get keys (place - i)
  at_settled low n keys ls place zero k long are within is h before from =
      let none : k ≡ n = omega (arith, is) in
      let all : place - zero ≡ place = omega arith in
      get_before n keys ls place long (reach low high ls are) (subst (λ (m : ℕ). AreFrom m (suc place) ls) none from) ∙ ap (slice_get keys) (sym all)
  at_settled low n keys [] place (suc i) k long are within is h before from = absurd (omega (arith, within))
  at_settled low n keys (l ∷ ls) place (suc i) k long are within is h before from =
      let p : ℕ = l.behind + n in
      let here : List ℕ = insert keys p l.key in
      let low' : l.behind + suc n ≤ place = omega (arith, before.0) in
      let all = before_low l.behind high (suc n) place ls i are.2 (omega (arith, within)) low' before.1 in
      let next : place - i ≡ suc (place - suc i) = omega (arith, all) in
      at_settled l.behind (suc n) here ls place i k (long_next n keys p l.key long) are.2 (omega (arith, within)) (omega (arith, is)) low' before.1 from
      ∙ (ap (slice_get here) next ∙ get-insert_high keys p (place - suc i) l.key (omega (arith, all)))

  -- ---- a key put at a place

  put_before : (n : ℕ) (keys : List ℕ) (ls : List Late) (place key : ℕ) → length keys ≡ high + n → Reach high ls → AreFrom n place ls → insert (joined n keys ls) place key ≡ joined (suc n) (insert keys place key) ls
  put_before n keys [] place key long r from = refl
  put_before n keys (l ∷ ls) place key long r from =
      let p : ℕ = l.behind + n in
      let next : suc p ≡ l.behind + suc n = omega arith in
      put_before (suc n) (insert keys p l.key) ls place key (long_next n keys p l.key long) r.1 from.1
      ∙ ap (λ (ks : List ℕ). joined (suc (suc n)) ks ls) (insert-insert keys p place l.key key from.0 (omega (arith, long, r.0)) ∙ ap (λ (m : ℕ). insert (insert keys place key) m l.key) next)

  pub insert_joined : (n : ℕ) (keys : List ℕ) (ls : List Late) (place i k : ℕ) (new : Late) → length keys ≡ high + n → Reach high ls → i ≤ length ls → k ≡ n + i → AreFrom k place (drop i ls) → new.behind + k ≡ place
      → joined n keys (insert ls i new) ≡ insert (joined n keys ls) place new.key
  insert_joined n keys ls place zero k new long r within is from here =
      let none : k ≡ n = omega (arith, is) in
      let at : new.behind + n ≡ place = omega (arith, here, is) in
      ap (λ (m : ℕ). joined (suc n) (insert keys m new.key) ls) at ∙ sym (put_before n keys ls place new.key long r (subst (λ (m : ℕ). AreFrom m place ls) none from))
  insert_joined n keys [] place (suc i) k new long r within is from here = absurd (omega (arith, within))
  insert_joined n keys (l ∷ ls) place (suc i) k new long r within is from here =
      insert_joined (suc n) (insert keys (l.behind + n) l.key) ls place i k new (long_next n keys (l.behind + n) l.key long) r.1 (omega (arith, within)) (omega (arith, is)) from here

  pub late-insert : (low n : ℕ) (ls : List Late) (place i k : ℕ) (new : Late) → AreLate low high ls → i ≤ length ls → k ≡ n + i → low + n ≤ place → place ≤ high + (n + length ls) → AreBefore n place (take i ls) → AreFrom k place (drop i ls) → new.behind + k ≡ place
      → AreLate low high (insert ls i new)
  late-insert low n [] place zero k new are within is h most before from here = (omega (arith, here, is, h), omega (arith, here, is, most), tt)
  late-insert low n (l ∷ ls) place zero k new are within is h most before from here = (omega (arith, here, is, h), omega (arith, here, from.0, are.1), (omega (arith, here, from.0), are.1, are.2))
  late-insert low n [] place (suc i) k new are within is h most before from here = absurd (omega (arith, within))
  late-insert low n (l ∷ ls) place (suc i) k new are within is h most before from here =
      (are.0, are.1, late-insert l.behind (suc n) ls place i k new are.2 (omega (arith, within)) (omega (arith, is)) (omega (arith, before.0)) (omega (arith, most)) before.1 from here)

  -- ---- a late key taken out

  take_before : (n : ℕ) (keys : List ℕ) (ls : List Late) (place : ℕ) → length keys ≡ high + suc n → Reach high ls → AreFrom (suc n) (suc place) ls → remove (joined (suc n) keys ls) place ≡ joined n (remove keys place) ls
  take_before n keys [] place long r from = refl
  take_before n keys (l ∷ ls) place long r from =
      let p : ℕ = l.behind + n in
      let next : l.behind + suc n ≡ suc p = omega arith in
      take_before (suc n) (insert keys (l.behind + suc n) l.key) ls place (long_next (suc n) keys (l.behind + suc n) l.key long) r.1 from.1
      ∙ ap (λ (ks : List ℕ). joined (suc n) ks ls) (ap (λ (m : ℕ). remove (insert keys m l.key) place) next ∙ remove-insert_low keys p place l.key (omega (arith, from.0)) (omega (arith, long, r.0)))

  pub remove_late : (low n : ℕ) (keys : List ℕ) (ls : List Late) (place i : ℕ) (l : Late) → length keys ≡ high + n → AreLate low high ls → slice_get ls i ≡ Some l → l.behind + (n + i) ≡ place
      → joined n keys (remove ls i) ≡ remove (joined n keys ls) place
  remove_late low n keys [] place i l long are found is = cc
  remove_late low n keys (x ∷ ls) place zero l long are found is =
      let same : x ≡ l = cc in
      let here : x.behind + n ≡ place = ap (λ (y : Late). y.behind + n) same ∙ omega (arith, is) in
      sym (
      take_before n (insert keys (x.behind + n) x.key) ls place (long_next n keys (x.behind + n) x.key long) (reach x.behind high ls are.2) (from_low x.behind high (suc n) (suc place) ls are.2 (omega (arith, here)))
      ∙ ap (λ (ks : List ℕ). joined n ks ls) (ap (remove (insert keys (x.behind + n) x.key)) (sym here) ∙ remove-insert keys (x.behind + n) x.key (omega (arith, long, are.1)))
      )
  remove_late low n keys (x ∷ ls) place (suc i) l long are found is =
      remove_late x.behind (suc n) (insert keys (x.behind + n) x.key) ls place i l (long_next n keys (x.behind + n) x.key long) are.2 found (omega (arith, is))

  lower : (low low' : ℕ) (ls : List Late) → low' ≤ low → AreLate low high ls → AreLate low' high ls
  lower low low' [] h are = tt
  lower low low' (l ∷ ls) h are = (omega (arith, are.0, h), are.1, are.2)

  pub late-remove : (low : ℕ) (ls : List Late) (i : ℕ) → AreLate low high ls → AreLate low high (remove ls i)
  late-remove low [] zero are = tt
  late-remove low [] (suc i) are = tt
  late-remove low (l ∷ ls) zero are = lower l.behind low ls are.0 are.2
  late-remove low (l ∷ ls) (suc i) are = (are.0, are.1, late-remove l.behind ls i are.2)

  -- ---- a settled key taken out

  take_settled : (low n : ℕ) (keys : List ℕ) (ls : List Late) (place : ℕ) → length keys ≡ high + n → 0 < low → AreLate low high ls → AreFrom n (suc place) ls → remove (joined n keys ls) place ≡ joined n (remove keys place) (map less ls)
  take_settled low n keys [] place long some are from = refl
  take_settled low n keys (l ∷ ls) place long some are from =
      let q : ℕ = (l.behind - 1) + n in
      let next : l.behind + n ≡ suc q = omega (arith, are.0, some) in
      take_settled l.behind (suc n) (insert keys (l.behind + n) l.key) ls place (long_next n keys (l.behind + n) l.key long) (omega (arith, are.0, some)) are.2 from.1
      ∙ ap (λ (ks : List ℕ). joined (suc n) ks (map less ls)) (ap (λ (m : ℕ). remove (insert keys m l.key) place) next ∙ remove-insert_low keys q place l.key (omega (arith, from.0, next)) (omega (arith, long, are.1, next)))

  raised : (low n : ℕ) (ls : List Late) (place : ℕ) → n ≤ place → AreLate low high ls → AreFrom n (suc place) ls → AreLate 1 high ls
  raised low n [] place h are from = tt
  raised low n (l ∷ ls) place h are from = (omega (arith, from.0, h), are.1, are.2)

  pub remove_settled : (low n : ℕ) (keys : List ℕ) (ls : List Late) (place i k : ℕ) → length keys ≡ high + n → AreLate low high ls → i ≤ length ls → k ≡ n + i → low + n ≤ place → place - i < length keys → AreBefore n place (take i ls) → AreFrom k (suc place) (drop i ls)
      → joined n (remove keys (place - i)) (take i ls ++ map less (drop i ls)) ≡ remove (joined n keys ls) place
  remove_settled low n keys ls place zero k long are within is h settled before from =
      let none : k ≡ n = omega (arith, is) in
      let all : place - zero ≡ place = omega arith in
      let after : AreFrom n (suc place) ls = subst (λ (m : ℕ). AreFrom m (suc place) ls) none from in
      ap (λ (m : ℕ). joined n (remove keys m) (map less ls)) all ∙ sym (take_settled 1 n keys ls place long (omega arith) (raised low n ls place (omega (arith, h)) are after) after)
  remove_settled low n keys [] place (suc i) k long are within is h settled before from = absurd (omega (arith, within))
  remove_settled low n keys (l ∷ ls) place (suc i) k long are within is h settled before from =
      let p : ℕ = l.behind + n in
      let here : List ℕ = insert keys p l.key in
      let low' : l.behind + suc n ≤ place = omega (arith, before.0) in
      let all = before_low l.behind high (suc n) place ls i are.2 (omega (arith, within)) low' before.1 in
      let next : place - i ≡ suc (place - suc i) = omega (arith, all) in
      let one = insert-long keys p l.key in
      sym (
      sym (remove_settled l.behind (suc n) here ls place i k (long_next n keys p l.key long) are.2 (omega (arith, within)) (omega (arith, is)) low' (omega (arith, settled, one, next)) before.1 from)
      ∙ ap (λ (ks : List ℕ). joined (suc n) ks (take i ls ++ map less (drop i ls))) (ap (remove here) next ∙ remove-insert_high keys p (place - suc i) l.key (omega (arith, all)) settled)
      )

  late-less : (low : ℕ) (ls : List Late) → AreLate low high ls → AreLate (low - 1) (high - 1) (map less ls)
  late-less low [] are = tt
  late-less low (l ∷ ls) are = (omega (arith, are.0), omega (arith, are.1), late-less l.behind ls are.2)

  pub late-remove_settled : (low n : ℕ) (ls : List Late) (place i k : ℕ) → AreLate low high ls → i ≤ length ls → k ≡ n + i → low + n ≤ place → place < high + k → AreBefore n place (take i ls) → AreFrom k (suc place) (drop i ls)
      → AreLate low (high - 1) (take i ls ++ map less (drop i ls))
  late-remove_settled low n [] place zero k are within is h settled before from = tt
  late-remove_settled low n (l ∷ ls) place zero k are within is h settled before from =
      (omega (arith, from.0, is, h), omega (arith, are.1), late-less l.behind ls are.2)
  late-remove_settled low n [] place (suc i) k are within is h settled before from = absurd (omega (arith, within))
  late-remove_settled low n (l ∷ ls) place (suc i) k are within is h settled before from =
      let low' : l.behind + suc n ≤ place = omega (arith, before.0) in
      let all = before_low l.behind high (suc n) place ls i are.2 (omega (arith, within)) low' before.1 in
      (are.0, omega (arith, all, settled, is), late-remove_settled l.behind (suc n) ls place i k are.2 (omega (arith, within)) (omega (arith, is)) low' settled before.1 from)

-- ---- at a place

abbrev pub no_late : Late
no_late = record { behind = 0; key = 0 }

-- what is read of them by a place
pub late_read : (late : List Late) (i : ℕ) (one : Late) → i < length late → one ≡ get_or late i one → get_or late i no_late ≡ one
late_read late i one within is = get_or_from_slice_get late i one no_late (slice_get-get_or late i one within ∙ ap Some (sym is))

module _ (settled : List ℕ) (late : List Late) (place i : ℕ) (are : AreLate 0 (length settled) late) (cut : IsCut place late i) (few : i ≤ place) where
  module _ (off : i < length late → (get_or late i no_late).behind ≢ place - i) where
    pub after : AreFrom i (suc place) (drop i late)
    after = from_next 0 (length settled) i place (drop i late) (late-drop 0 (length settled) late i are) cut.from
        (λ l e.
        let found : slice_get late i ≡ Some l = sym (get-drop late i) ∙ e in
        let apart : (get_or late i no_late).behind ≢ place - i = off (slice_get_within late i l found) in
        let is : get_or late i no_late ≡ l = get_or_from_slice_get late i l no_late found in
        (λ here. apart (ap (λ (x : Late). x.behind) is ∙ omega (arith, here))))

    pub key_settled : slice_get (joined 0 settled late) place ≡ slice_get settled (place - i)
    key_settled = at_settled (length settled) 0 0 settled late place i i (omega arith) are cut.within (omega arith) (omega arith) cut.before after

    pub settled_within : place < length settled + length late → place - i < length settled
    settled_within within =
        let all = joined-long 0 settled late in
        slice_get_within settled (place - i) (get_or (joined 0 settled late) place 0) (sym key_settled ∙ slice_get-get_or (joined 0 settled late) place 0 (omega (arith, within, all)))

    pub key_is : place < length settled + length late → slice_get (joined 0 settled late) place ≡ Some (get_or settled (place - i) 0)
    key_is within = key_settled ∙ slice_get-get_or settled (place - i) 0 (settled_within within)

  pub key_late : i < length late → (get_or late i no_late).behind ≡ place - i → slice_get (joined 0 settled late) place ≡ Some (get_or late i no_late).key
  key_late within here = at_late (length settled) 0 0 settled late place i (get_or late i no_late) (omega arith) are (slice_get-get_or late i no_late within) (omega (arith, here, few))

module _ (settled : List ℕ) (late : List Late) (place i : ℕ) (are : AreLate 0 (length settled) late) (cut : IsCut place late i) (few : i ≤ place) where
  -- a key put there
  module _ (key : ℕ) (within : place ≤ length settled + length late) where
    abbrev new : Late
    new = record { behind = place - i; key = key }

    pub put_keys : joined 0 settled (insert late i (record { behind = place - i; key = key })) ≡ insert (joined 0 settled late) place key
    put_keys = insert_joined (length settled) 0 settled late place i i new (omega arith) (reach 0 (length settled) late are) cut.within (omega arith) cut.from (omega (arith, few))

    pub put_late : AreLate 0 (length settled) (insert late i (record { behind = place - i; key = key }))
    put_late = late-insert (length settled) 0 0 late place i i new are cut.within (omega arith) (omega arith) (omega (arith, within)) cut.before cut.from (omega (arith, few))

  -- a late one taken from there
  pub take_late : i < length late → (get_or late i no_late).behind ≡ place - i → joined 0 settled (remove late i) ≡ remove (joined 0 settled late) place
  take_late within here = remove_late (length settled) 0 0 settled late place i (get_or late i no_late) (omega arith) are (slice_get-get_or late i no_late within) (omega (arith, here, few))

  -- a settled one taken from there
  module _ (off : i < length late → (get_or late i no_late).behind ≢ place - i) (within : place < length settled + length late) where
    pub take_keys : joined 0 (remove settled (place - i)) (take i late ++ map less (drop i late)) ≡ remove (joined 0 settled late) place
    take_keys = remove_settled (length settled) 0 0 settled late place i i (omega arith) are cut.within (omega arith) (omega arith) (settled_within settled late place i are cut few off within) cut.before (after settled late place i are cut few off)

    pub take_late_less : AreLate 0 (length (remove settled (place - i))) (take i late ++ map less (drop i late))
    take_late_less =
        let there = settled_within settled late place i are cut few off within in
        subst (λ (n : ℕ). AreLate 0 n (take i late ++ map less (drop i late))) (sym (let one = length-remove settled (place - i) there in omega (arith, one)))
        (late-remove_settled (length settled) 0 0 late place i i are cut.within (omega arith) (omega arith) (omega (arith, there)) cut.before (after settled late place i are cut few off))

-- ---- one late key after another, each behind one settled key less

pub lessened : (from place : ℕ) (all now : List Late) (one : Late) → from ≤ place → place < length all → now ≡ take from all ++ (map less (take (place - from) (drop from all)) ++ drop (place - from) (drop from all)) → one ≡ get_or now place one
    → set now place (less one) ≡ take from all ++ (map less (take (place + 1 - from) (drop from all)) ++ drop (place + 1 - from) (drop from all))
lessened from place all now one low within is read =
    let rest : List Late = drop from all in
    let k : ℕ = place - from in
    let done : List Late = map less (take k rest) ++ drop k rest in
    let long : length (take from all) ≡ from = omega (arith, length-take from all, low, within) in
    let next : k + 1 ≡ place + 1 - from = omega (arith, low) in
    let here : one ≡ get_or done k one = read ∙ (ap (λ (l : List Late). get_or l place one) is ∙ get_or-append_right (take from all) done from place one long low) in
    ap (λ (l : List Late). set l place (less one)) is
    ∙ (set-append_right (take from all) done from place (less one) long low
    ∙ ap (λ (l : List Late). take from all ++ l) (map_over_more less rest done k one (omega (arith, length-drop from all, low, within)) refl here
    ∙ ap (λ (m : ℕ). map less (take m rest) ++ drop m rest) next))
