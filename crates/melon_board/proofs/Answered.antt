-- What an answer without a fault says of its parts.
use Rattle.std.proofs.Common.{◌≡◌, Bool, true, false, Option, Some, None, Result, Ok, Err, refl, ap}
use Rattle.std.specs.Bool.{⊤}
use Rattle.std.specs.Prelude.{is_none, option_map, option_and_then}
use Rattle.melon_schema.specs.Faults.{unless, or_fault}

pub same_ok : {X E : Type 0} (r : Result X E) (a b : X) → r ≡ Ok a → r ≡ Ok b → a ≡ b
same_ok (Ok x) a b p q = cc
same_ok (Err e) a b p q = cc

pub unless_ok : {E : Type 0} (b : Bool) (e : E) (x : ⊤) → unless b e ≡ Ok x → b ≡ true
unless_ok true e x h = refl
unless_ok false e x h = cc

pub fault_ok : {X E : Type 0} (o : Option X) (e : E) (x : X) → or_fault o e ≡ Ok x → o ≡ Some x
fault_ok None e x h = cc
fault_ok (Some y) e x h = let same : y ≡ x = cc in ap Some same

pub none_from : {X : Type 0} (o : Option X) → is_none o ≡ true → o ≡ None
none_from None h = refl
none_from (Some x) h = cc

pub then_some : {X Y : Type 0} (f : X → Option Y) (o : Option X) (y : Y) → option_and_then f o ≡ Some y → (x : X) × (o ≡ Some x) × (f x ≡ Some y)
then_some f None y h = cc
then_some f (Some x) y h = (x, refl, h)

pub map_some : {X Y : Type 0} (f : X → Y) (o : Option X) (y : Y) → option_map f o ≡ Some y → (x : X) × (o ≡ Some x) × (f x ≡ y)
map_some f None y h = cc
map_some f (Some x) y h = let same : f x ≡ y = cc in (x, refl, same)
