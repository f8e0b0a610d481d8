-- What contracts see of a queue of writers.
use Rattle.std.specs.Prelude.{◌≡◌, ℕ, ◌≤◌, List, length}

pub record SeenQueue : Type 0 where
  pub names : List (List ℕ)
  pub depth : ℕ

-- the depth is 0 exactly where there are no names, and neither is above 64
abbrev pub IsQueue : SeenQueue → Type 0
IsQueue queue = (queue.depth ≡ 0 → length queue.names ≡ 0) × (length queue.names ≡ 0 → queue.depth ≡ 0) × (length queue.names ≤ 64) × (queue.depth ≤ 64)
