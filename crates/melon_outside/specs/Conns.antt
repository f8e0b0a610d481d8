-- Connections: which come, which were handed back, and those in memory.
use Rattle.std.specs.Prelude.{◌≡◌, ℕ, ◌+◌, false, List, [], ◌∷◌, ◌++◌, Option, Some, None, Result, Ok, Err, MatchResult}
use Rattle.melon_outside.specs.Causes.{next_count}
use Rattle.melon_outside.specs.Memory.{Plan, SinkPlan, fails_later, after_read, after_write}

-- it tells
abbrev pub Tells : {A : Type 0} → Option A → Type 0
Tells None = ⊥
Tells (Some _) = Unit {0}

-- this one is taken from the front
abbrev pub LosesFirst : {C : Type 0} → Option (List C) → Option (List C) → C → Type 0
LosesFirst None None one = Unit {0}
LosesFirst None (Some new) one = ⊥
LosesFirst (Some old) None one = ⊥
LosesFirst (Some old) (Some new) one = old ≡ one ∷ new

-- this one is added behind the last
abbrev pub Gains : {C : Type 0} → Option (List C) → Option (List C) → C → Type 0
Gains None None one = Unit {0}
Gains None (Some new) one = ⊥
Gains (Some old) None one = ⊥
Gains (Some old) (Some new) one = new ≡ old ++ one ∷ []

-- the first of those that are to come, or none of them
abbrev pub Comes : {C E : Type 0} → Option (List C) → Option (List C) → Result C E → Type 0
Comes old new result = MatchResult result (λ one. LosesFirst old new one) (λ _. new ≡ old)

-- how many are out, after one more was taken or none
abbrev pub out_after : {C E : Type 0} → ℕ → Result C E → ℕ
out_after out (Ok _) = out + 1
out_after out (Err _) = out

-- a connection in memory: what comes in, and what goes out
pub record ConnPlan : Type 0 where
  pub source : Plan
  pub sink : SinkPlan

abbrev pub conn_faults : ConnPlan → ℕ
conn_faults conn = conn.source.faults + conn.sink.faults

-- no read of it is to fail
abbrev pub IsSoundConn : ConnPlan → Type 0
IsSoundConn conn = fails_later conn.source.fails conn.source.calls ≡ false

abbrev pub conn_after_read : ConnPlan → ℕ → ConnPlan
conn_after_read conn room = record { source = after_read conn.source room; sink = conn.sink }

abbrev pub conn_after_write : ConnPlan → List ℕ → ConnPlan
conn_after_write conn piece = record { source = conn.source; sink = after_write conn.sink piece }

-- connections in memory: those still to come, those that were handed back, how many are out, and the faults
pub record Visits : Type 0 where
  pub coming : List ConnPlan
  pub finished : List ConnPlan
  pub out : ℕ
  pub faults : ℕ

-- past the last connection, to ask for the next is a fault
abbrev pub visits_with : Visits → List ConnPlan → Visits
visits_with visits [] = record { coming = []; finished = visits.finished; out = visits.out; faults = next_count visits.faults }
visits_with visits (one ∷ more) = record { coming = more; finished = visits.finished; out = visits.out + 1; faults = visits.faults }

-- the visits after the next connection was asked for
abbrev pub after_next : Visits → Visits
after_next visits = visits_with visits visits.coming
