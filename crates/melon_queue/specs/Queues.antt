-- The queue of writers: the first of the names holds it, and has entered so many times.
use Rattle.std.specs.Prelude.{◌≡◌, ℕ, ◌==◌, ◌+◌, ◌-◌, Bool, false, nat_lt, nat_le, if◌then◌else◌, List, [], ◌∷◌, ◌++◌, length, Option, Some, None, Result, Ok, Err, bytes_eq}
use Rattle.std.specs.List.{list_any}
use Rattle.melon_queue.specs.declared.queue.QueueFault.{QueueFault}
use Rattle.melon_queue.specs.declared.queue.QueueFault.TheVariants.{Queued, NotHolder, Full, Memory}
use Rattle.melon_queue.specs.declared.queue.Left.{Left}
use Rattle.melon_queue.specs.declared.queue.Left.TheVariants as left
use Rattle.melon_queue.specs.Seen.{SeenQueue}

-- the most names, and the most times that one enters
abbrev pub most : ℕ
most = 64

abbrev pub first : List (List ℕ) → Option (List ℕ)
first [] = None
first (name ∷ names) = Some name

abbrev pub rest : List (List ℕ) → List (List ℕ)
rest [] = []
rest (name ∷ names) = names

abbrev pub holder_of : SeenQueue → Option (List ℕ)
holder_of queue = first queue.names

abbrev pub is_first : List ℕ → List (List ℕ) → Bool
is_first writer [] = false
is_first writer (name ∷ names) = bytes_eq name writer

abbrev pub holds : List ℕ → SeenQueue → Bool
holds writer queue = is_first writer queue.names

abbrev pub has_entered : List ℕ → SeenQueue → Bool
has_entered writer queue = list_any (λ name. bytes_eq name writer) queue.names

-- the writer stands last, behind so many; who enters an empty queue holds it at depth 1
abbrev pub entered : List ℕ → SeenQueue → Result (ℕ × SeenQueue) QueueFault
entered writer queue =
    if has_entered writer queue then Err Queued
    else if nat_le most (length queue.names) then Err (Full (length queue.names))
    else Ok (length queue.names, record { names = queue.names ++ writer ∷ []; depth = if length queue.names == 0 then 1 else queue.depth })

-- the holder enters once more
abbrev pub nested : List ℕ → SeenQueue → Result (ℕ × SeenQueue) QueueFault
nested writer queue =
    if holds writer queue then (
    if nat_le most queue.depth then Err (Full queue.depth)
    else Ok (queue.depth + 1, record { names = queue.names; depth = queue.depth + 1 })
    ) else Err (NotHolder (holder_of queue))

-- the next of the others holds it, if there is one
abbrev pub passed_on : List (List ℕ) → Left × SeenQueue
passed_on names =
    if length names == 0 then (left.Free, record { names = names; depth = 0 })
    else (left.Next, record { names = names; depth = 1 })

-- the holder leaves once
abbrev pub quit : List ℕ → SeenQueue → Left × SeenQueue
quit writer queue =
    if holds writer queue then (
    if nat_lt 1 queue.depth then (left.Depth (queue.depth - 1), record { names = queue.names; depth = queue.depth - 1 })
    else passed_on (rest queue.names)
    ) else (left.NotHolder, queue)

-- ---- answers

-- a fault is the form's; want of memory alone has no cause in it
abbrev pub Fails : {A : Type 0} → QueueFault → Result A QueueFault → Type 0
Fails {A} Memory form = Unit {0}
Fails {A} Queued form = form ≡ Err Queued
Fails {A} (NotHolder holder) form = form ≡ Err (NotHolder holder)
Fails {A} (Full count) form = form ≡ Err (Full count)

-- what is answered and what the queue becomes are the form's; after a fault the queue is as it was
abbrev pub Steps : {A : Type 0} → Result A QueueFault → SeenQueue → SeenQueue → Result (A × SeenQueue) QueueFault → Type 0
Steps {A} (Ok x) old new form = form ≡ Ok (x, new)
Steps {A} (Err fault) old new form = (new ≡ old) × Fails fault form
