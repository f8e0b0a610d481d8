-- Values and rows of the two tables.
use Rattle.std.proofs.Common.{◌≡◌, ℕ, ℤ, Bool, true, false, ◌&&◌, cond, List, [], ◌∷◌, Some, Ordering, Less, Equal, Greater, refl, sym, ap, ap₂, ◌∙◌, bytes_eq, is_eq}
use Rattle.std.specs.Ordering.{ordering_then, is_ne}
use Rattle.std.specs.Cmp.{IsTotalOrder}
use Rattle.std.proofs.lemmas.Cmp.{nat_list_cmp_total}
use Rattle.std.proofs.lemmas.Slice.Eq.{bytes_eq-Decides}
use Rattle.std.proofs.lemmas.Map.Text.{is_eq-slice_cmp}
use Rattle.sqlite_value.specs.declared.value.Value.{Value}
use Rattle.sqlite_value.specs.declared.value.Value.TheVariants.{Null, Int, Text, Blob}
use Rattle.sqlite_value.specs.declared.keys.Collation.TheVariants.{Binary}
use Rattle.sqlite_value.specs.Order.{Row, column, bytes}
use Rattle.sqlite_value.specs.Order as order
use Rattle.sqlite_value.specs.Keys.{plain, first_key}
use Rattle.sqlite_value.proofs.OrderLemmas.{value_cmp-Text}
use Rattle.sqlite_sql.specs.Ops.{binary, unary, is_true, is_null, from_truth}
use Rattle.sqlite_schema.specs.Rules.{agree, equal, differ}
use Rattle.sqlite_rules.specs.Cast.{cast}
use Rattle.sqlite.specs.Kind.TheVariants.{Integer}
use Rattle.melon_outside.specs.declared.kept.KeptRow.{KeptRow}
use Rattle.melon_outside.specs.Kept.{text_cmp, key_cmp, key_of}

pub name_total : IsTotalOrder text_cmp
name_total = nat_list_cmp_total

-- ---- values

either : (b : Bool) (x : Value) → cond b x x ≡ x
either true x = refl
either false x = refl

pub cast_null : cast Integer Null ≡ Null
unfolding unary
cast_null = either _ Null

pub cast_int : (n : ℤ) → cast Integer (Int n) ≡ Int n
unfolding unary
cast_int n = either _ (Int n)

truth_back : (b : Bool) → is_true (from_truth (Some b)) ≡ b
truth_back true = refl
truth_back false = refl

pub same_is : (a b : Value) → is_null a ≡ false → is_null b ≡ false → equal Binary a b ≡ is_eq (order.value_cmp a b)
unfolding binary
same_is a b p q = rw (p, q) (truth_back (is_eq (order.value_cmp a b)))

pub differ_is : (a b : Value) → is_null a ≡ false → is_null b ≡ false → differ a b ≡ is_ne (order.value_cmp a b)
unfolding binary
differ_is a b p q = rw (p, q) (truth_back (is_ne (order.value_cmp a b)))

pub text_same : (a b : List ℕ) → equal Binary (Text a) (Text b) ≡ bytes_eq a b
text_same a b = same_is (Text a) (Text b) refl refl ∙ ap is_eq (value_cmp-Text a b) ∙ is_eq-slice_cmp a b

pub text_tie : (a b : List ℕ) → text_cmp a b ≡ Equal → a ≡ b
text_tie a b e = (bytes_eq-Decides a b).0 (sym (is_eq-slice_cmp a b) ∙ ap is_eq e)

both_tie : (o p : Ordering) → ordering_then o p ≡ Equal → (o ≡ Equal) × (p ≡ Equal)
both_tie Less p e = cc
both_tie Equal p e = (refl, e)
both_tie Greater p e = cc

pub row_tie : (a b : KeptRow) → key_cmp (key_of a) (key_of b) ≡ Equal → (a.table ≡ b.table) × (a.id ≡ b.id)
row_tie a b e = let parts = both_tie _ _ e in (text_tie _ _ parts.0, text_tie _ _ parts.1)

-- ---- rows

abbrev pub stored : ℤ → List ℕ → List ℕ → List ℕ → List ℕ → Row
stored n s t i b = Int n ∷ Text s ∷ Text t ∷ Text i ∷ Blob b ∷ []

abbrev pub IsStored : Row → Type 0
IsStored r = (n : ℤ) × (s : List ℕ) × (t : List ℕ) × (i : List ℕ) × (b : List ℕ) × (r ≡ stored n s t i b)

pub agrees : (n : ℤ) (s t i b : List ℕ) (m : ℤ) (s2 t2 i2 b2 : List ℕ)
    → agree plain (1 ∷ 2 ∷ 3 ∷ []) (stored n s t i b) (1 ∷ 2 ∷ 3 ∷ []) (stored m s2 t2 i2 b2) ≡ (bytes_eq s s2 && (bytes_eq t t2 && (bytes_eq i i2 && true)))
unfolding first_key
agrees n s t i b m s2 t2 i2 b2 = ap₂ ◌&&◌ (text_same s s2) (ap₂ ◌&&◌ (text_same t t2) (ap₂ ◌&&◌ (text_same i i2) refl))

-- ---- rows of the values

abbrev pub stored_value : ℤ → List ℕ → List ℕ → ℤ → Row
stored_value n s m v = Int n ∷ Text s ∷ Text m ∷ Int v ∷ []

abbrev pub IsStoredValue : Row → Type 0
IsStoredValue r = (n : ℤ) × (s : List ℕ) × (m : List ℕ) × (v : ℤ) × (r ≡ stored_value n s m v)

pub value_agrees : (n : ℤ) (s m : List ℕ) (v : ℤ) (n2 : ℤ) (s2 m2 : List ℕ) (v2 : ℤ)
    → agree plain (1 ∷ 2 ∷ []) (stored_value n s m v) (1 ∷ 2 ∷ []) (stored_value n2 s2 m2 v2) ≡ (bytes_eq s s2 && (bytes_eq m m2 && true))
unfolding first_key
value_agrees n s m v n2 s2 m2 v2 = ap₂ ◌&&◌ (text_same s s2) (ap₂ ◌&&◌ (text_same m m2) refl)
