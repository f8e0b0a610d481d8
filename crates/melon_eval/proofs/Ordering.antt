-- Rows are ordered by a total order.
use Rattle.std.proofs.Common.{◌≡◌, ℕ, ℤ, pos, List, [], ◌∷◌, Bool, true, false, cond, ap, sym, ◌∙◌, refl}
use Rattle.std.specs.Cmp.{IsTotalOrder, bool_cmp_total}
use Rattle.std.specs.Ordering.{nat_cmp, int_cmp, bool_cmp, ordering_then, then_cmp, on, flip_args, ordering_reverse}
use Rattle.std.specs.declared.cmp.Ordering.{Ordering}
use Rattle.std.specs.declared.cmp.Ordering.TheVariants.{Less, Equal, Greater}
use Rattle.std.proofs.lemmas.Cmp.{nat_cmp_total, int_cmp_total, nat_list_cmp_total, on_total, then_total, back_total}
use Rattle.melon_raw.specs.declared.datum.Datum.{Datum}
use Rattle.melon_raw.specs.declared.datum.Datum.TheVariants.{Null, Words, Whole, Truth}
use Rattle.melon_raw.specs.declared.raw.Raw.{Raw}
use Rattle.melon_query.specs.declared.query.SortKey.{SortKey}
use Rattle.melon_query.specs.Values.{value_at, value_cmp}
use Rattle.melon_raw.specs.Order.{id_cmp}
use Rattle.melon_query.specs.Order.{key_cmp, row_cmp}

rank : Datum → ℕ
rank Null = 0
rank (Words t) = 1
rank (Whole z) = 2
rank (Truth b) = 3

text_part : Datum → List ℕ
text_part Null = []
text_part (Words t) = t
text_part (Whole z) = []
text_part (Truth b) = []

whole_part : Datum → ℤ
whole_part Null = pos 0
whole_part (Words t) = pos 0
whole_part (Whole z) = z
whole_part (Truth b) = pos 0

truth_part : Datum → Bool
truth_part Null = false
truth_part (Words t) = false
truth_part (Whole z) = false
truth_part (Truth b) = b

-- by kind, and then by what the kind has
by_parts : Datum → Datum → Ordering
by_parts = then_cmp (on rank nat_cmp) (then_cmp (on text_part id_cmp) (then_cmp (on whole_part int_cmp) (on truth_part bool_cmp)))

by_parts_total : IsTotalOrder by_parts
unfolding by_parts
by_parts_total = then_total (on_total rank nat_cmp_total) (then_total (on_total text_part nat_list_cmp_total) (then_total (on_total whole_part int_cmp_total) (on_total truth_part bool_cmp_total)))

then_equal : (o : Ordering) → ordering_then o Equal ≡ o
then_equal Less = refl
then_equal Equal = refl
then_equal Greater = refl

value_cmp_is : (a b : Datum) → value_cmp a b ≡ by_parts a b
unfolding by_parts rank text_part whole_part truth_part
value_cmp_is Null Null = refl
value_cmp_is Null (Words t) = refl
value_cmp_is Null (Whole z) = refl
value_cmp_is Null (Truth b) = refl
value_cmp_is (Words t) Null = refl
value_cmp_is (Words t) (Words u) = sym (then_equal (id_cmp t u))
value_cmp_is (Words t) (Whole z) = refl
value_cmp_is (Words t) (Truth b) = refl
value_cmp_is (Whole z) Null = refl
value_cmp_is (Whole z) (Words u) = refl
value_cmp_is (Whole z) (Whole y) = sym (then_equal (int_cmp z y))
value_cmp_is (Whole z) (Truth b) = refl
value_cmp_is (Truth b) Null = refl
value_cmp_is (Truth b) (Words u) = refl
value_cmp_is (Truth b) (Whole z) = refl
value_cmp_is (Truth b) (Truth d) = refl

-- an order that agrees with a total one is total
alike_total : {K : Type 0} (R S : K → K → Ordering) → ((x y : K) → R x y ≡ S x y) → IsTotalOrder S → IsTotalOrder R
alike_total R S e total = record {
  antisymm = λ x y. e x y ∙ total.antisymm x y ∙ ap ordering_reverse (sym (e y x));
  trans = λ x y z a b. e x z ∙ total.trans x y z (sym (e x y) ∙ a) (sym (e y z) ∙ b);
  congr = λ x y z a. e x z ∙ total.congr x y z (sym (e x y) ∙ a) ∙ sym (e y z);
}

pub value_cmp_total : IsTotalOrder value_cmp
value_cmp_total = alike_total value_cmp by_parts value_cmp_is by_parts_total

key_cmp_by : (key : SortKey) (down : Bool) → key.descending ≡ down → IsTotalOrder (key_cmp key)
key_cmp_by key true e = alike_total (key_cmp key) (flip_args (on (value_at key.column) value_cmp)) (λ a b. ap (λ d. cond d (value_cmp (value_at key.column b) (value_at key.column a)) (value_cmp (value_at key.column a) (value_at key.column b))) e) (back_total (on_total (value_at key.column) value_cmp_total))
key_cmp_by key false e = alike_total (key_cmp key) (on (value_at key.column) value_cmp) (λ a b. ap (λ d. cond d (value_cmp (value_at key.column b) (value_at key.column a)) (value_cmp (value_at key.column a) (value_at key.column b))) e) (on_total (value_at key.column) value_cmp_total)

pub row_cmp_total : (keys : List SortKey) → IsTotalOrder (row_cmp keys)
row_cmp_total [] = on_total (λ (r : Raw). r.id) nat_list_cmp_total
row_cmp_total (key ∷ keys) = then_total (key_cmp_by key key.descending refl) (row_cmp_total keys)
