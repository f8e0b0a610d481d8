-- What is added to a sound schema leaves it sound.
use Rattle.std.proofs.Common.{◌≡◌, ℕ, ◌≤◌, List, [], ◌∷◌, ◌++◌, length, Bool, true, false, not, ◌&&◌, ◌||◌, None, Result, Ok, Err, bytes_eq, refl, sym, subst, arith}
use Rattle.std.specs.Bool.{⊤}
use Rattle.std.specs.List.{list_all, list_any, AllByRecursion, prefix_len}
use Rattle.std.proofs.lemmas.Bool.{false_from_ne_true}
use Rattle.std.proofs.lemmas.Bool.Decides.{not_from_Decides}
use Rattle.std.proofs.lemmas.Grind.{common_steps}
use Rattle.std.proofs.lemmas.Slice.Eq.{bytes_eq-Decides}
use Rattle.melon_schema.specs.Faults.{◌>>=◌, unless, or_fault, in_turn}
use Rattle.melon_schema.specs.Names.{is_name, is_reserved_column, are_distinct}
use Rattle.melon_schema.specs.Places.{table_named}
use Rattle.melon_schema.specs.Schema.{kind_named, with_column}
use Rattle.melon_schema.specs.Sound.{is_well_named, AreSound, HasSoundColumns, IsSoundSchema}
use Rattle.melon_schema.specs.declared.schema.TableSchema.{TableSchema}
use Rattle.melon_schema.specs.declared.schema.ColumnSchema.{ColumnSchema}
use Rattle.melon_schema.specs.declared.schema_form.ColumnForm.{ColumnForm}
use Rattle.melon_schema.specs.declared.schema_fault.SchemaFault.TheVariants.{BadName, Reserved, Repeated, UnknownKind}

-- ---- tests

split : {P : Type 0} (b : Bool) → (b ≡ true → P) → (b ≡ false → P) → P
split true f g = f refl
split false f g = g refl

and_left : (a b : Bool) → (a && b) ≡ true → a ≡ true
and_left true b h = refl
and_left false b h = h

and_right : (a b : Bool) → (a && b) ≡ true → b ≡ true
and_right true b h = h
and_right false b h = cc

both : (a b : Bool) → a ≡ true → b ≡ true → (a && b) ≡ true
both true b p q = q
both false b p q = p

or_left : (a b : Bool) → (a || b) ≡ false → a ≡ false
or_left true b h = cc
or_left false b h = refl

or_right : (a b : Bool) → (a || b) ≡ false → b ≡ false
or_right true b h = cc
or_right false b h = h

not_false : (b : Bool) → not b ≡ true → b ≡ false
not_false true h = cc
not_false false h = refl

not_true : (b : Bool) → b ≡ false → not b ≡ true
not_true true h = cc
not_true false h = refl

-- two texts differ, whichever is named first
differ_back : (a b : List ℕ) → bytes_eq a b ≡ false → bytes_eq b a ≡ false
differ_back a b h = false_from_ne_true (bytes_eq b a) (λ e. not_from_Decides (bytes_eq a b) (bytes_eq-Decides a b) h (sym ((bytes_eq-Decides b a).0 e)))

-- ---- answers

same_ok : {X E : Type 0} (r : Result X E) (a b : X) → r ≡ Ok a → r ≡ Ok b → a ≡ b
same_ok (Ok x) a b p q = cc
same_ok (Err e) a b p q = cc

unless_ok : {E : Type 0} (b : Bool) (e : E) (x : ⊤) → unless b e ≡ Ok x → b ≡ true
unless_ok true e x h = refl
unless_ok false e x h = cc

bind_ok : {A B E : Type 0} (r : Result A E) (f : A → Result B E) (y : B) → (r >>= f) ≡ Ok y → (x : A) × (r ≡ Ok x) × (f x ≡ Ok y)
bind_ok (Ok x) f y h = (x, refl, h)
bind_ok (Err e) f y h = cc

-- ---- one more

all_more : {X : Type 0} (p : X → Bool) (xs : List X) (new : X) → list_all p xs ≡ true → p new ≡ true → list_all p (xs ++ new ∷ []) ≡ true
all_more p [] new all here = both _ _ here refl
all_more p (x ∷ xs) new all here = both _ _ (and_left (p x) _ all) (all_more p xs new (and_right (p x) _ all) here)

each_more : {X : Type 0} (P : X → Type 0) (xs : List X) (x : X) → AllByRecursion P xs → P x → AllByRecursion P (xs ++ x ∷ [])
each_more P [] x all here = (here, tt)
each_more P (y ∷ ys) x all here = (all.0, each_more P ys x all.1 here)

module _ {X : Type 0} (name : X → List ℕ) where
  none_more : (word : List ℕ) (xs : List X) (new : X) → list_any (λ x. bytes_eq (name x) word) xs ≡ false → bytes_eq (name new) word ≡ false → list_any (λ x. bytes_eq (name x) word) (xs ++ new ∷ []) ≡ false
  none_more word [] new none off = rw off refl
  none_more word (x ∷ xs) new none off = rw (or_left (bytes_eq (name x) word) _ none) (none_more word xs new (or_right (bytes_eq (name x) word) _ none) off)

  distinct_more : (xs : List X) (new : X) → are_distinct name xs ≡ true → list_any (λ x. bytes_eq (name x) (name new)) xs ≡ false → are_distinct name (xs ++ new ∷ []) ≡ true
  distinct_more [] new apart none = refl
  distinct_more (x ∷ xs) new apart none =
      let others = list_any (λ y. bytes_eq (name y) (name x)) xs in
      let off : bytes_eq (name new) (name x) ≡ false = differ_back (name x) (name new) (or_left (bytes_eq (name x) (name new)) _ none) in
      both _ _
      (not_true _ (none_more (name x) xs new (not_false others (and_left (not others) _ apart)) off))
      (distinct_more xs new (and_right (not others) _ apart) (or_right (bytes_eq (name x) (name new)) _ none))

-- ---- columns

with_column-sound : (earlier columns : List ColumnSchema) (form : ColumnForm) → with_column earlier form ≡ Ok columns → AreSound earlier → AreSound columns
unfolding with_column
with_column-sound earlier columns form h sound =
    let repeated = list_any (λ (c : ColumnSchema). bytes_eq c.name form.name) earlier in
    let a = bind_ok (unless (is_name form.name) BadName) _ columns h in
    let b = bind_ok (unless (not (is_reserved_column form.name)) Reserved) _ columns a.2 in
    let c = bind_ok (unless (not repeated) Repeated) _ columns b.2 in
    let d = bind_ok (or_fault (kind_named form.word) UnknownKind) _ columns c.2 in
    let new : ColumnSchema = record { name = form.name; kind = d.0; optional = form.optional; indexed = form.indexed } in
    let made : List ColumnSchema = earlier ++ new ∷ [] in
    let is : made ≡ columns = same_ok (Ok made) made columns refl d.2 in
    let named = both _ _ (unless_ok (is_name form.name) BadName a.0 a.1) (unless_ok (not (is_reserved_column form.name)) Reserved b.0 b.1) in
    subst (λ (cs : List ColumnSchema). AreSound cs) is (record {
      named = all_more is_well_named earlier new sound.named named;
      distinct = distinct_more (λ (x : ColumnSchema). x.name) earlier new sound.distinct (not_false repeated (unless_ok (not repeated) Repeated c.0 c.1));
    })

columns_sound : (forms : List ColumnForm) (earlier columns : List ColumnSchema) → in_turn with_column earlier forms ≡ Ok columns → AreSound earlier → AreSound columns
columns_sound [] earlier columns h sound = subst (λ (cs : List ColumnSchema). AreSound cs) (same_ok (Ok earlier) earlier columns refl h) sound
columns_sound (f ∷ forms) earlier columns h sound =
    let a = bind_ok (with_column earlier f) _ columns h in
    columns_sound forms a.0 columns a.2 (with_column-sound earlier a.0 f a.1 sound)

-- the columns of a table that is read
pub read_sound : (forms : List ColumnForm) (columns : List ColumnSchema) → in_turn with_column [] forms ≡ Ok columns → AreSound columns
read_sound forms columns h = columns_sound forms [] columns h (record { named = refl; distinct = refl })

-- ---- tables

past_end : (name : List ℕ) (ts : List TableSchema) → table_named name ts ≡ None → length ts ≤ prefix_len (λ t. not (bytes_eq name t.name)) ts
past_end name ts h = grind (arith, common_steps)

none_from_end : (name : List ℕ) (ts : List TableSchema) → length ts ≤ prefix_len (λ t. not (bytes_eq name t.name)) ts → list_any (λ t. bytes_eq t.name name) ts ≡ false
none_from_end name [] h = refl
none_from_end name (t ∷ ts) h =
    let ih : length ts ≤ prefix_len (λ s. not (bytes_eq name s.name)) ts → list_any (λ s. bytes_eq s.name name) ts ≡ false = none_from_end name ts in
    split (bytes_eq name t.name) (λ e. absurd (omega (arith, rw e at h))) (λ e. rw (differ_back name t.name e) (ih (omega (arith, rw e at h))))

-- a table with a new name and sound columns
pub table_more : (tables : List TableSchema) (new : TableSchema) (version : ℕ) → IsSoundSchema (record { version = version; tables = tables }) → table_named new.name tables ≡ None → AreSound new.columns
    → IsSoundSchema (record { version = version; tables = tables ++ new ∷ [] })
table_more tables new version sound free columns = record {
  names = distinct_more (λ (t : TableSchema). t.name) tables new sound.names (none_from_end new.name tables (past_end new.name tables free));
  columns = each_more HasSoundColumns tables new sound.columns columns;
}
