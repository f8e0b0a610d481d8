-- JSON values that are written as they are read.
use Rattle.std.specs.Prelude.{ℕ, ◌<◌, ◌^◌, pos, negsuc, ◌≡◌, List}
use Rattle.std.specs.Ordering.{nat_cmp}
use Rattle.std.specs.declared.cmp.Ordering.TheVariants.{Greater}
use Rattle.std.specs.Cmp.Lexicographic.{slice_cmp}
use Rattle.serde_json.specs.Data.{Num, unsigned, negative, float, Data, null, boolean, number, string, array, object, Items, no_items, item, Members, no_members, member}

-- no float, and a whole number of 64 bits
abbrev pub IsWhole : Num → Type 0
IsWhole (unsigned n) = n < 2 ^ 64
IsWhole (negative (pos n)) = ⊥
IsWhole (negative (negsuc n)) = n < 2 ^ 63
IsWhole (float x) = ⊥

-- each key is above this one
abbrev pub AreAbove : List ℕ → Members → Type 0
AreAbove k no_members = Unit {0}
AreAbove k (member l d ms) = (slice_cmp nat_cmp l k ≡ Greater) × AreAbove k ms

-- whole numbers alone, and the keys of each object ascend
abbrev mutual
  pub IsTidy : Data → Type 0
  IsTidy null = Unit {0}
  IsTidy (boolean b) = Unit {0}
  IsTidy (number n) = IsWhole n
  IsTidy (string s) = Unit {0}
  IsTidy (array ds) = AreTidy ds
  IsTidy (object ms) = HasTidy ms

  pub AreTidy : Items → Type 0
  AreTidy no_items = Unit {0}
  AreTidy (item d ds) = IsTidy d × AreTidy ds

  pub HasTidy : Members → Type 0
  HasTidy no_members = Unit {0}
  HasTidy (member k d ms) = AreAbove k ms × IsTidy d × HasTidy ms
