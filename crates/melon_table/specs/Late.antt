-- Keys in their order, some of which came lately.
use Rattle.std.specs.Prelude.{ℕ, suc, ◌+◌, ◌-◌, ◌<◌, ◌≤◌, List, [], ◌∷◌, length, take, drop}
use Rattle.std.specs.List.{insert}
use Rattle.melon_table.specs.declared.keys.Late.{Late}

-- What contracts see: the keys in their order, and for how many there is memory.
pub record SeenKeys : Type 0 where
  pub keys : List ℕ
  pub most : ℕ

-- the late keys put among others one after another, each behind as many settled ones as it says and the late ones before it
abbrev pub joined : ℕ → List ℕ → List Late → List ℕ
joined before keys [] = keys
joined before keys (late ∷ rest) = joined (suc before) (insert keys (late.behind + before) late.key) rest

-- none of the late ones stands behind more settled ones than the next, and none behind more than there are
abbrev pub AreLate : ℕ → ℕ → List Late → Type 0
AreLate low high [] = Unit {0}
AreLate low high (late ∷ rest) = (low ≤ late.behind) × (late.behind ≤ high) × AreLate late.behind high rest

-- all late ones stand before a place, where so many have gone before
abbrev pub AreBefore : ℕ → ℕ → List Late → Type 0
AreBefore before place [] = Unit {0}
AreBefore before place (late ∷ rest) = (late.behind + before < place) × AreBefore (suc before) place rest

-- all late ones stand at a place or after it
abbrev pub AreFrom : ℕ → ℕ → List Late → Type 0
AreFrom before place [] = Unit {0}
AreFrom before place (late ∷ rest) = (place ≤ late.behind + before) × AreFrom (suc before) place rest

-- the first n of the late ones are those that stand before the place
pub record IsCut (place : ℕ) (late : List Late) (n : ℕ) : Type 0 where
  pub within : n ≤ length late
  pub before : AreBefore 0 place (take n late)
  pub from : AreFrom n place (drop n late)

-- a late one behind one settled key less
abbrev pub less : Late → Late
less late = record { behind = late.behind - 1; key = late.key }
