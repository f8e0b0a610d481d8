-- Keys and cells that compare equal are equal.
use Rattle.std.proofs.Common.{◌≡◌, ℕ, List, Bool, true, false, ◌&&◌, refl, ap, eqb, ◌==◌}
use Rattle.std.proofs.lemmas.Bool.{and_parts, and_from}
use Rattle.std.proofs.lemmas.Bool.Decides.{Decides-eqb, Decides-int_eq}
use Rattle.melon_raw.specs.declared.datum.Datum.{Datum}
use Rattle.melon_raw.specs.declared.datum.Datum.TheVariants.{Null, Words, Whole, Truth}
use Rattle.melon_raw.specs.Datum.{datum_eq}
use Rattle.melon_raw.specs.Rows.{Key, is_key}
use Rattle.melon_table.proofs.Order.{bytes_same, same_bytes}

pub key_path : (x y : Key) → x.table ≡ y.table → x.id ≡ y.id → x ≡ y
key_path x y p q = λ i. record { table = p i; id = q i }

pub is_key_same : (x y : Key) → is_key x y ≡ true → x ≡ y
is_key_same x y h =
    let parts : (eqb x.table y.table ≡ true) × (_ ≡ true) = and_parts _ _ h in
    key_path x y ((Decides-eqb x.table y.table).0 parts.0) (same_bytes _ _ parts.1)

pub is_key_refl : (x : Key) → is_key x x ≡ true
is_key_refl x = and_from _ _ ((Decides-eqb x.table x.table).1 refl) (bytes_same x.id x.id refl)

pub datum_eq_refl : (d : Datum) → datum_eq d d ≡ true
datum_eq_refl Null = refl
datum_eq_refl (Words t) = bytes_same t t refl
datum_eq_refl (Whole z) = (Decides-int_eq z z).1 refl
datum_eq_refl (Truth true) = refl
datum_eq_refl (Truth false) = refl
