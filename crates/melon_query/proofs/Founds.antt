-- What is known of a value that was found or read.
use Rattle.std.proofs.Common.{◌≡◌, ℕ, suc, zero, ◌<◌, List, [], ◌∷◌, ◌++◌, length, get_or, Bool, true, false, cond, not, ◌&&◌, ◌==◌, nat_lt, nat_eq, Option, Some, None, option_map, option_and_then, slice_get, position, find, Result, Ok, Err, bytes_eq, refl, sym, ap, subst, ◌∙◌, arith}
use Rattle.std.specs.Prelude.{⊤}
use Rattle.std.specs.List.{AllByRecursion}
use Rattle.std.proofs.lemmas.Bool.{lt-ltb}
use Rattle.std.proofs.lemmas.List.Quantifiers.{position-Some}
use Rattle.std.proofs.lemmas.Option.{slice_get-get_or}
use Rattle.std.proofs.lemmas.Slice.Eq.{bytes_eq-Decides}
use Rattle.melon_schema.specs.Faults.{◌>>=◌, unless, or_fault}
use Rattle.melon_schema.specs.Places.{table_named, declared_table}
use Rattle.melon_schema.specs.declared.schema.TableSchema.{TableSchema}
use Rattle.melon_raw.specs.Rows.{table_at, no_table}

pub and_left : (a b : Bool) → a && b ≡ true → a ≡ true
and_left true b h = refl
and_left false b h = h

pub and_right : (a b : Bool) → a && b ≡ true → b ≡ true
and_right true b h = h
and_right false b h = cc

pub both : (a b : Bool) → a ≡ true → b ≡ true → a && b ≡ true
both a b h k = ap (λ x. x && b) h ∙ k

-- ---- what was read

err_ok : {A E : Type 0} (e : E) (y : A) → Err e ≡ Ok y → ⊥
err_ok e y h = cc

none_some : {A : Type 0} (y : A) → None ≡ Some y → ⊥
none_some y h = cc

-- two answers are the same
abbrev pub SameOk : {A : Type 0} (E : Type 0) → A → A → Type 0
SameOk {A} E a b = let r : Result A E = Ok a in r ≡ Ok b

pub ok_same : {A : Type 0} (E : Type 0) (a b : A) → SameOk E a b → a ≡ b
ok_same E a b h = cc

pub bind_ok : {A B E : Type 0} (r : Result A E) (f : A → Result B E) (y : B) → (r >>= f) ≡ Ok y → (x : A) × (r ≡ Ok x) × (f x ≡ Ok y)
bind_ok (Ok x) f y h = (x, refl, h)
bind_ok (Err e) f y h = absurd (err_ok e y h)

pub unless_ok : {E : Type 0} (b : Bool) (e : E) (u : ⊤) → unless b e ≡ Ok u → b ≡ true
unless_ok true e u h = refl
unless_ok false e u h = absurd (err_ok e u h)

pub or_fault_ok : {A E : Type 0} (o : Option A) (e : E) (x : A) → or_fault o e ≡ Ok x → o ≡ Some x
or_fault_ok (Some y) e x h = cc
or_fault_ok None e x h = absurd (err_ok e x h)

pub mapped_some : {A B : Type 0} (f : A → B) (o : Option A) (y : B) → option_map f o ≡ Some y → (x : A) × (o ≡ Some x) × (f x ≡ y)
mapped_some f (Some x) y h = (x, refl, some_same (f x) y h)
  where
    some_same : {B : Type 0} (a b : B) → Some a ≡ Some b → a ≡ b
    some_same a b h = cc
mapped_some f None y h = absurd (none_some y h)

pub then_some : {A B : Type 0} (f : A → Option B) (o : Option A) (y : B) → option_and_then f o ≡ Some y → (x : A) × (o ≡ Some x) × (f x ≡ Some y)
then_some f (Some x) y h = (x, refl, h)
then_some f None y h = absurd (none_some y h)

-- ---- what was found

true_false : true ≡ false → ⊥
true_false h = cc

find_first : {X : Type 0} (p : X → Bool) (xs : List X) (i : ℕ) (y d : X) → p (get_or xs i d) ≡ true → ((k : ℕ) → k < i → p (get_or xs k d) ≡ false) → i < length xs → find p xs ≡ Some y → y ≡ get_or xs i d
find_first p [] i y d here before inside h = absurd (none_some y h)
find_first p (x ∷ xs) zero y d here before inside h =
    let e : cond (p x) (Some x) (find p xs) ≡ Some x = ap (λ b. cond b (Some x) (find p xs)) here in some_back (sym h ∙ e)
  where
    some_back : {B : Type 0} {a b : B} → Some a ≡ Some b → a ≡ b
    some_back h = cc
find_first p (x ∷ xs) (suc i) y d here before inside h =
    let e : cond (p x) (Some x) (find p xs) ≡ find p xs = ap (λ b. cond b (Some x) (find p xs)) (before 0 (omega arith)) in
    find_first p xs i y d here (λ k l. before (suc k) (omega (arith, l))) (omega (arith, inside)) (sym e ∙ h)

-- the place of a table of that name, and what it declares
pub table_found : (name : List ℕ) (tables : List TableSchema) (place : ℕ) (other : TableSchema) → table_named name tables ≡ Some place → declared_table name tables ≡ Some other
    → (nat_lt place (length tables) ≡ true) × (other ≡ table_at tables place) × (other.name ≡ name)
table_found name tables place other at is =
    let found = position-Some (λ (t : TableSchema). bytes_eq name t.name) tables place no_table at in
    let same : other ≡ table_at tables place = find_first (λ (t : TableSchema). bytes_eq name t.name) tables place other no_table found.1 found.2 found.0 is in
    let called : name ≡ (table_at tables place).name = (bytes_eq-Decides name (table_at tables place).name).0 found.1 in
    (lt-ltb place (length tables) found.0, same, ap (λ (t : TableSchema). t.name) same ∙ sym called)

-- ---- all of a list

pub all_push : {X : Type 0} (P : X → Type 0) (xs : List X) (x : X) → AllByRecursion P xs → P x → AllByRecursion P (xs ++ x ∷ [])
all_push P [] x h k = (k, tt)
all_push P (y ∷ ys) x h k = (h.0, all_push P ys x h.1 k)

pub all_append : {X : Type 0} (P : X → Type 0) (xs ys : List X) → AllByRecursion P xs → AllByRecursion P ys → AllByRecursion P (xs ++ ys)
all_append P [] ys h k = k
all_append P (x ∷ xs) ys h k = (h.0, all_append P xs ys h.1 k)
