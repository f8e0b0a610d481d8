-- What each row of kept_rows is, and that no two have one key.
use Rattle.std.proofs.Common.{◌≡◌, inl, inr, ℕ, ℤ, Bool, true, false, not, true≢false, ◌&&◌, List, [], ◌∷◌, Ordering, Less, Equal, Greater, None, refl, sym, ap, ap₂, ◌∙◌, subst₂, drop}
use Rattle.std.specs.Ordering.{is_ne}
use Rattle.std.proofs.lemmas.Bool.{and_parts, and_from, not-true, cases_Bool}
use Rattle.std.proofs.lemmas.Slice.Eq.{bytes_eq-Decides}
use Rattle.sqlite_value.specs.declared.value.Value.{Value}
use Rattle.sqlite_value.specs.declared.value.Value.TheVariants.{Null, Int, Real, Text, Blob}
use Rattle.sqlite_value.specs.Order.{Row, column, bytes}
use Rattle.sqlite_value.specs.Keys.{plain}
use Rattle.sqlite_trees.specs.Tree.{Trees, rowid}
use Rattle.sqlite_trees.specs.View.{IsShaped, is_int}
use Rattle.sqlite_trees.specs.declared.store.Shape.TheVariants.{Table}
use Rattle.sqlite_sql.specs.Ops.{is_null}
use Rattle.sqlite_schema.specs.Rules.{agree, differ, clashes, is_of, are_typed, are_present, Obeys}
use Rattle.sqlite_schema.specs.declared.schema.Constraint.TheVariants.{Datatype, NotNull, Unique}
use Rattle.sqlite_schema.specs.declared.schema.Kind.TheVariants as kind
use Rattle.sqlite_rules.specs.Edit.{id_in}
use Rattle.sqlite_rules.specs.Lists.{Has}
use Rattle.sqlite_rules.proofs.ListLemmas.{all_has, some_from}
use Rattle.sqlite_rules.proofs.RuleLemmas.{keeps_at}
use Rattle.sqlite_rules.proofs.PlaceLemmas.{tied_same}
use Rattle.sqlite_rules.proofs.TableLemmas.{int_is}
use Rattle.melon_outside.specs.Kept.{key_cmp, key_of}
use Rattle.melon_sqlite.specs.Contents.{store_of, row_of}
use Rattle.melon_sqlite.specs.Tables.{kept_schema, rows_table}
use Rattle.melon_sqlite.proofs.Sorted.{AreApart}
use Rattle.melon_outside.proofs.Places.{key_total}
use Rattle.melon_sqlite.proofs.Cells.{stored, IsStored, agrees, row_tie, differ_is}

pub text_in : (v : Value) → is_of kind.Text v ≡ true → is_null v ≡ false → (t : List ℕ) × (v ≡ Text t)
text_in Null h p = cc
text_in (Int n) h p = cc
text_in (Real x) h p = cc
text_in (Text t) h p = (t, refl)
text_in (Blob b) h p = cc

pub blob_in : (v : Value) → is_of kind.Blob v ≡ true → is_null v ≡ false → (t : List ℕ) × (v ≡ Blob t)
blob_in Null h p = cc
blob_in (Int n) h p = cc
blob_in (Real x) h p = cc
blob_in (Text t) h p = cc
blob_in (Blob b) h p = (b, refl)

pub no1 : (a b : Bool) → (a && (false && b)) ≡ true → ⊥
no1 true b h = true≢false (sym h)
no1 false b h = true≢false (sym h)

pub no2 : (a b c : Bool) → (a && (b && (false && c))) ≡ true → ⊥
no2 true b c h = no1 b c h
no2 false b c h = true≢false (sym h)

pub no3 : (a b c : Bool) → (a && (b && (c && (false && true)))) ≡ true → ⊥
no3 true b c h = no2 b c true h
no3 false b c h = true≢false (sym h)

no4 : (a b c d : Bool) → (a && (b && (c && (d && false)))) ≡ true → ⊥
no4 true true true true h = true≢false (sym h)
no4 true true true false h = true≢false (sym h)
no4 true true false d h = true≢false (sym h)
no4 true false c d h = true≢false (sym h)
no4 false b c d h = true≢false (sym h)

form : (r : Row) → is_int (rowid r) ≡ true → are_typed None 0 rows_table.columns (drop 1 r) ≡ true → are_present None 0 rows_table.columns r ≡ true → IsStored r
form [] k ty pr = cc
form (v ∷ []) k ty pr = cc
form (v ∷ a ∷ []) k ty pr = absurd (no1 (not (is_null a)) false pr)
form (v ∷ a ∷ b ∷ []) k ty pr = absurd (no2 (not (is_null a)) (not (is_null b)) false pr)
form (v ∷ a ∷ b ∷ c ∷ []) k ty pr = absurd (no3 (not (is_null a)) (not (is_null b)) (not (is_null c)) pr)
form (v ∷ a ∷ b ∷ c ∷ d ∷ e ∷ more) k ty pr = absurd (no4 (is_of kind.Text a) (is_of kind.Text b) (is_of kind.Text c) (is_of kind.Blob d) ty)
form (v ∷ a ∷ b ∷ c ∷ d ∷ []) k ty pr =
    let p1 = and_parts _ _ pr in
    let p2 = and_parts _ _ p1.1 in
    let p3 = and_parts _ _ p2.1 in
    let p4 = and_parts _ _ p3.1 in
    let t1 = and_parts _ _ ty in
    let t2 = and_parts _ _ t1.1 in
    let t3 = and_parts _ _ t2.1 in
    let t4 = and_parts _ _ t3.1 in
    let s = text_in a t1.0 (not-true _ p1.0) in
    let t = text_in b t2.0 (not-true _ p2.0) in
    let i = text_in c t3.0 (not-true _ p3.0) in
    let o = blob_in d t4.0 (not-true _ p4.0) in
    (id_in v, s.0, t.0, i.0, o.0, ap₂ ◌∷◌ (int_is v k) (ap₂ ◌∷◌ s.1 (ap₂ ◌∷◌ t.1 (ap₂ ◌∷◌ i.1 (ap₂ ◌∷◌ o.1 refl)))))

pub tie_from : (o : Ordering) → is_ne o ≡ false → o ≡ Equal
tie_from Less e = cc
tie_from Equal e = refl
tie_from Greater e = cc

pub stored_agree : (n : ℤ) (s t i b : List ℕ) (m : ℤ) (s2 t2 i2 b2 : List ℕ) → s ≡ s2 → t ≡ t2 → i ≡ i2
    → agree plain (1 ∷ 2 ∷ 3 ∷ []) (stored n s t i b) (1 ∷ 2 ∷ 3 ∷ []) (stored m s2 t2 i2 b2) ≡ true
stored_agree n s t i b m s2 t2 i2 b2 p q r =
    agrees n s t i b m s2 t2 i2 b2 ∙ and_from _ _ ((bytes_eq-Decides s s2).1 p) (and_from _ _ ((bytes_eq-Decides t t2).1 q) (and_from _ _ ((bytes_eq-Decides i i2).1 r) refl))

pub agree_stored : (n : ℤ) (s t i b : List ℕ) (m : ℤ) (s2 t2 i2 b2 : List ℕ)
    → agree plain (1 ∷ 2 ∷ 3 ∷ []) (stored n s t i b) (1 ∷ 2 ∷ 3 ∷ []) (stored m s2 t2 i2 b2) ≡ true → (s ≡ s2) × (t ≡ t2) × (i ≡ i2)
agree_stored n s t i b m s2 t2 i2 b2 h =
    let p = and_parts _ _ (sym (agrees n s t i b m s2 t2 i2 b2) ∙ h) in
    let q = and_parts _ _ p.1 in
    let r = and_parts _ _ q.1 in
    ((bytes_eq-Decides s s2).0 p.0, (bytes_eq-Decides t t2).0 q.0, (bytes_eq-Decides i i2).0 r.0)

module _ (db : Trees) (fits : Obeys kept_schema db) (shaped : IsShaped Table (db 0)) where
  pub row_form : (r : Row) → Has (db 0) r → IsStored r
  row_form r there =
      form r (all_has _ (db 0) r shaped.1 there) (and_parts _ _ (keeps_at Datatype kept_schema db rows_table r (fits.rules Datatype) (inl refl) there)).0
      (keeps_at NotNull kept_schema db rows_table r (fits.rules NotNull) (inl refl) there)

  pub rows_apart : AreApart key_cmp key_of key_total row_of (db 0)
  rows_apart a b h k e tie =
      let fa = row_form a h in
      let fb = row_form b k in
      let keys = row_tie (row_of a) (row_of b) tie in
      let agreed = subst₂ (λ x y. agree plain (1 ∷ 2 ∷ 3 ∷ []) x (1 ∷ 2 ∷ 3 ∷ []) y ≡ true) (sym fa.5) (sym fb.5)
      (stored_agree fa.0 fa.1 fa.2 fa.3 fa.4 fb.0 fb.1 fb.2 fb.3 fb.4 (sym (ap store_of fa.5) ∙ e ∙ ap store_of fb.5)
      (sym (ap (λ r. bytes (column r 2)) fa.5) ∙ keys.0 ∙ ap (λ r. bytes (column r 2)) fb.5) (sym (ap (λ r. bytes (column r 3)) fa.5) ∙ keys.1 ∙ ap (λ r. bytes (column r 3)) fb.5)) in
      let alone : clashes plain (1 ∷ 2 ∷ 3 ∷ []) (db 0) b ≡ false = not-true _ (and_parts _ _ (keeps_at Unique kept_schema db rows_table b (fits.rules Unique) (inl refl) k)).0 in
      elim (cases_Bool (differ (rowid a) (rowid b))) [
        | inl other ↦ absurd (let clash = some_from (λ x. agree plain (1 ∷ 2 ∷ 3 ∷ []) x (1 ∷ 2 ∷ 3 ∷ []) b && differ (rowid x) (rowid b)) (db 0) a h (and_from _ _ agreed other) in cc)
        | inr same ↦ tied_same (db 0) a b shaped.0 h k (tie_from _ (sym (differ_is (rowid a) (rowid b) (ap (λ r. is_null (rowid r)) fa.5) (ap (λ r. is_null (rowid r)) fb.5)) ∙ same))
      ]
