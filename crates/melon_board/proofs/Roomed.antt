-- Room made in one table after another.
use Rattle.std.proofs.Common.{◌≡◌, ℕ, ◌+◌, ◌<◌, ◌≤◌, List, [], ◌∷◌, ◌++◌, length, take, set, get_or, Bool, true, false, ◌&&◌, ◌==◌, nat_lt, ◌⊎◌, inl, inr, refl, ap, sym, ◌∙◌, subst, arith, ltb-true, length-set}
use Rattle.std.specs.List.{list_all}
use Rattle.std.proofs.lemmas.Bool.{cases_lt, eqb-true}
use Rattle.melon_table.specs.Seen.{SeenTable}
use Rattle.melon_table.proofs.Order.{and_left, and_right}
use Rattle.melon_change.specs.declared.change.Change.{Change}
use Rattle.melon_board.proofs.Rowed.{room_set, room_other}
use Rattle.melon_board.specs.Boards.{makes_row, spare_at, one_if, used_in, rows_made, HasRoom, are_within}

-- one change more
pub made_more : (t : ℕ) (cs : List Change) (c : Change) → rows_made t (cs ++ c ∷ []) ≡ rows_made t cs + used_in t c.table (makes_row c)
made_more t [] c = omega arith
made_more t (d ∷ ds) c = let ih : rows_made t (ds ++ c ∷ []) ≡ rows_made t ds + used_in t c.table (makes_row c) = made_more t ds c in omega (arith, ih)

-- of changes there are not more that make a record
pub made_fewer : (t : ℕ) (cs : List Change) → rows_made t cs ≤ length cs
made_fewer t [] = omega arith
made_fewer t (c ∷ cs) = let ih : rows_made t cs ≤ length cs = made_fewer t cs in omega (arith, ih, one (makes_row c && (c.table == t)))
  where
    one : (b : Bool) → one_if b ≤ 1
    one true = omega arith
    one false = omega arith

none_past : (t n : ℕ) (cs : List Change) → n ≤ t → are_within n cs ≡ true → rows_made t cs ≡ 0
none_past t n [] past within = refl
none_past t n (c ∷ cs) past within =
    let here : c.table < n = ltb-true c.table n (and_left (nat_lt c.table n) (are_within n cs) within) in
    let ih : rows_made t cs ≡ 0 = none_past t n cs past (and_right (nat_lt c.table n) (are_within n cs) within) in
    let one : used_in t c.table (makes_row c) ≡ 0 = off (makes_row c) (c.table == t) refl here in
    omega (arith, one, ih)
  where
    off : (m w : Bool) → c.table == t ≡ w → c.table < n → one_if (m && (c.table == t)) ≡ 0
    off m true e here = absurd (omega (arith, eqb-true c.table t e))
    off true false e here = ap one_if e
    off false false e here = refl

-- the tables up to a place have room
abbrev pub RoomUpTo : ℕ → List SeenTable → List Change → Type 0
RoomUpTo n tables set = (t : ℕ) → t < n → rows_made t set ≤ spare_at tables t

pub room_more : (n : ℕ) (tables : List SeenTable) (new : SeenTable) (cs : List Change) → n < length tables → rows_made n cs ≤ new.spare → RoomUpTo n tables cs → RoomUpTo (n + 1) (set tables n new) cs
room_more n tables new cs within made so_far t before = elim (cases_lt t n) [
  | inl less ↦ room_other (rows_made t cs) tables n t new less (so_far t less)
  | inr last ↦ let same : n ≡ t = omega (arith, last, before) in subst (λ (u : ℕ). rows_made u cs ≤ spare_at (set tables n new) u) same (room_set (rows_made n cs) tables n new within made)
]

pub room_all : (n : ℕ) (tables : List SeenTable) (cs : List Change) → length tables ≤ n → are_within (length tables) cs ≡ true → RoomUpTo n tables cs → HasRoom tables cs
room_all n tables cs all within so_far t = elim (cases_lt t n) [
  | inl less ↦ so_far t less
  | inr past ↦ omega (arith, none_past t (length tables) cs (omega (arith, past, all)) within)
]
