-- Whether a form gives something, part by part.
use Rattle.std.proofs.Common.{◌≡◌, ℕ, suc, ◌+◌, length, List, [], ◌∷◌, map, Bool, true, false, not, ◌&&◌, cond, Option, Some, None, option_map, is_some, String, Global, string_bytes, refl, sym, ap, ◌∙◌}
use Rattle.std.specs.List.{position, prefix_len}
use Rattle.serde_json.specs.Data.{Data}
use Rattle.serde_json.specs.View.{view, members_view}
use Rattle.serde_json.specs.declared.value.Value.{Value}
use Rattle.melon_schema.specs.Json.{◌>>=◌, each, given, named}
use Rattle.melon_schema.proofs.Each.{each-named}
use Rattle.melon_raw.specs.declared.datum.OpField.{OpField}
use Rattle.melon_change.specs.Forms.{value_of, field_of}

some_each : {A B : Type 0} (f : A → Option B) (x : A) (xs : List A) → is_some (each f (x ∷ xs)) ≡ (is_some (f x) && is_some (each f xs))
some_each f x xs = by (f x) (each f xs)
  where
    by : {B : Type 0} (o : Option B) (rest : Option (List B)) → is_some (o >>= λ y. option_map (λ ys. y ∷ ys) rest) ≡ (is_some o && is_some rest)
    by None rest = refl
    by (Some y) None = refl
    by (Some y) (Some ys) = refl

-- four parts
pub some_of_four : {A B C D : Type 0} (known : Bool) (table : Option A) (id : Option B) (set : Option C) (make : A → B → C → D)
    → is_some (given known >>= λ _. table >>= λ t. id >>= λ i. set >>= λ s. Some (make t i s)) ≡ (known && (is_some table && (is_some id && is_some set)))
some_of_four false table id set make = refl
some_of_four true None id set make = refl
some_of_four true (Some t) None set make = refl
some_of_four true (Some t) (Some i) None make = refl
some_of_four true (Some t) (Some i) (Some s) make = refl

-- three parts
pub some_of_three : {A B D : Type 0} (known : Bool) (table : Option A) (id : Option B) (make : A → B → D)
    → is_some (given known >>= λ _. table >>= λ t. id >>= λ i. Some (make t i)) ≡ (known && (is_some table && is_some id))
some_of_three false table id make = refl
some_of_three true None id make = refl
some_of_three true (Some t) None make = refl
some_of_three true (Some t) (Some i) make = refl

some_map : {A B : Type 0} (f : A → B) (o : Option A) → is_some (option_map f o) ≡ is_some o
some_map f None = refl
some_map f (Some x) = refl

-- ---- the values of an object

module _ (exact : Bool) where
  abbrev pub of_entry : String Global × Value → Option OpField
  of_entry e = field_of exact (string_bytes e.0) (view e.1)

  pub values_named : (es : List (String Global × Value)) → is_some (each (λ m. field_of exact m.0 m.1) (named (members_view es))) ≡ is_some (each of_entry es)
  values_named es = ap is_some (each-named (field_of exact) es)

  value_next : (left rest : List (String Global × Value)) (e : String Global × Value) → left ≡ e ∷ rest → is_some (each of_entry left) ≡ (is_some (value_of exact (view e.1)) && is_some (each of_entry rest))
  value_next left rest e is = ap (λ (es : List (String Global × Value)). is_some (each of_entry es)) is ∙ (some_each of_entry e rest ∙ ap (λ b. b && is_some (each of_entry rest)) (some_map (λ value. record { column = string_bytes e.0; value = value }) (value_of exact (view e.1))))

  pub value_more : (left rest : List (String Global × Value)) (e : String Global × Value) → left ≡ e ∷ rest → is_some (value_of exact (view e.1)) ≡ true → is_some (each of_entry rest) ≡ is_some (each of_entry left)
  value_more left rest e is good = sym (value_next left rest e is ∙ ap (λ b. b && is_some (each of_entry rest)) good)

  pub value_refused : (left rest : List (String Global × Value)) (e : String Global × Value) → left ≡ e ∷ rest → is_some (value_of exact (view e.1)) ≡ false → is_some (each of_entry left) ≡ false
  value_refused left rest e is bad = value_next left rest e is ∙ ap (λ b. b && is_some (each of_entry rest)) bad

  pub value_ended : (left : List (String Global × Value)) → left ≡ [] → is_some (each of_entry left) ≡ true
  value_ended left is = ap (λ (es : List (String Global × Value)). is_some (each of_entry es)) is

prefix_len-map : {A B : Type 0} (p : B → Bool) (f : A → B) (xs : List A) → prefix_len p (map f xs) ≡ prefix_len (λ x. p (f x)) xs
prefix_len-map p f [] = refl
prefix_len-map p f (x ∷ xs) = ap (λ n. cond (p (f x)) (1 + n) 0) (prefix_len-map p f xs)

length-map : {A B : Type 0} (f : A → B) (xs : List A) → length (map f xs) ≡ length xs
length-map f [] = refl
length-map f (x ∷ xs) = ap suc (length-map f xs)

pub position-map : {A B : Type 0} (p : B → Bool) (f : A → B) (xs : List A) → position p (map f xs) ≡ position (λ x. p (f x)) xs
position-map p f xs = rw (prefix_len-map (λ x. not (p x)) f xs, length-map f xs) refl
