-- What is seen of a keeper in memory.
use Rattle.std.specs.Prelude.{◌≡◌, ℕ, zero, suc, ◌<◌, ◌-◌, ◌+◌, ◌^◌, Bool, true, false, List, length}
use Rattle.std.proofs.Common.{refl, sym, ap, ap₂, ◌∙◌, length-append, add-one}
use Rattle.melon_outside.specs.Memory.{fails_later}
use Rattle.melon_outside.specs.Kept.{is_in_order}
use Rattle.melon_outside.specs.Keeping.{Shelves, AreSame, find}
use Rattle.melon_outside.specs.SeenKeeper.{SeenKeeper, planned_to}

-- It tells all. Its count of calls stands still at its type's end, and there it tells no outcomes.
abbrev pub seen_memory : Shelves → SeenKeeper
seen_memory shelves = record {
  holds = λ m. ((store : List ℕ) → is_in_order (m store) ≡ true) × AreSame m (find shelves.stores);
  answered = λ all. (shelves.calls < 2 ^ 64 - 1) × (all ≡ planned_to shelves.fails shelves.calls);
  plan = λ fails. fails ≡ shelves.fails;
  may_leave = λ m. AreSame m (find shelves.stores);
  honest = Unit {0};
  sound = fails_later shelves.fails shelves.calls ≡ false;
  faults = shelves.faults;
}

-- its outcomes are as many as its calls
pub planned-length : (fails : List ℕ) (n : ℕ) → length (planned_to fails n) ≡ n
planned-length fails zero = refl
planned-length fails (suc n) = length-append (planned_to fails n) _ ∙ ap (λ m. m + 1) (planned-length fails n) ∙ add-one n

pub planned_so : (shelves : Shelves) (fails : List ℕ) (all : List Bool) → fails ≡ shelves.fails → all ≡ planned_to shelves.fails shelves.calls → all ≡ planned_to fails (length all)
planned_so shelves fails all p q = q ∙ ap₂ planned_to (sym p) (sym (ap length q ∙ planned-length shelves.fails shelves.calls))
