-- Which records are named, where the ids of each table stand in a set.
use Rattle.std.specs.Prelude.{◌≡◌, ℕ, List, Bool, true, false, ◌||◌, Option, Some, None, slice_get}
use Rattle.std.specs.Prelude.{String}
use Rattle.std.specs.HashSet.{HashSet, contains_text}
use Rattle.std.specs.declared.hash.FoldHasher.{FoldHasher}
use Rattle.std.specs.declared.hash.BuildHasherDefault.{BuildHasherDefault}
use Rattle.std.proofs.Common.{Global}
use Rattle.melon_raw.specs.Rows.{Key, is_key}

-- the ids of one table
abbrev pub Ids : Type 0
Ids = HashSet (String Global) (BuildHasherDefault FoldHasher)

abbrev pub has_id : Option Ids → List ℕ → Bool
has_id None id = false
has_id (Some ids) id = contains_text ids id

abbrev pub is_named : List Ids → Key → Bool
is_named sets x = has_id (slice_get sets x.table) x.id

abbrev pub NamesNone : List Ids → Type 0
NamesNone sets = (x : Key) → is_named sets x ≡ false

-- one record more
abbrev pub NamesAlso : List Ids → List Ids → Key → Type 0
NamesAlso old new k = (x : Key) → is_named new x ≡ (is_key x k || is_named old x)
