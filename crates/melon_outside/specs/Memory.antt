-- Sources and sinks in memory: what they have, what one call moves, which calls fail, and what was told so far.
use Rattle.std.specs.Prelude.{ℕ, ◌==◌, ◌+◌, ◌-◌, min, List, ◌++◌, Bool, ◌&&◌, ◌||◌, not, nat_lt, nat_le, length, take, drop, if◌then◌else◌, nat_eq}
use Rattle.std.specs.List.{list_any}
use Rattle.melon_outside.specs.Causes.{next_count}

-- whether the next call is to fail; calls are counted from 1
abbrev pub fails_next : List ℕ → ℕ → Bool
fails_next fails calls = list_any (λ n. nat_eq n (next_count calls)) fails

-- whether the next call or a later one is to fail
abbrev pub fails_later : List ℕ → ℕ → Bool
fails_later fails calls = list_any (λ n. nat_le (next_count calls) n) fails

-- one fault more, where this call failed
abbrev pub faults_after : Bool → ℕ → ℕ
faults_after failed faults = if failed then next_count faults else faults

pub record Plan : Type 0 where
  pub left : List ℕ
  pub most : ℕ
  pub fails : List ℕ
  pub calls : ℕ
  pub faults : ℕ

abbrev pub read_fails : Plan → Bool
read_fails plan = fails_next plan.fails plan.calls

-- how many bytes the next read moves into so much room
abbrev pub read_count : Plan → ℕ → ℕ
read_count plan room = if read_fails plan then 0 else min (min (length plan.left) plan.most) room

-- the source after the next read
abbrev pub after_read : Plan → ℕ → Plan
after_read plan room = record {
  left = drop (read_count plan room) plan.left;
  most = plan.most;
  fails = plan.fails;
  calls = next_count plan.calls;
  faults = faults_after (read_fails plan) plan.faults;
}

-- the buffer after the next read: the next bytes, and then what stood there
abbrev pub read_into : Plan → List ℕ → List ℕ
read_into plan into = take (read_count plan (length into)) plan.left ++ drop (read_count plan (length into)) into

-- room is what is left of it
pub record SinkPlan : Type 0 where
  pub written : List ℕ
  pub room : ℕ
  pub most : ℕ
  pub fails : List ℕ
  pub calls : ℕ
  pub faults : ℕ

-- a piece that isn't empty is a fault where no room is left
abbrev pub write_fails : SinkPlan → List ℕ → Bool
write_fails plan piece = fails_next plan.fails plan.calls || ((plan.room == 0) && nat_lt 0 (length piece))

-- how many bytes of a piece the next write takes
abbrev pub write_count : SinkPlan → List ℕ → ℕ
write_count plan piece = if write_fails plan piece then 0 else min (min plan.room plan.most) (length piece)

-- the sink after the next write
abbrev pub after_write : SinkPlan → List ℕ → SinkPlan
after_write plan piece = record {
  written = plan.written ++ take (write_count plan piece) piece;
  room = plan.room - write_count plan piece;
  most = plan.most;
  fails = plan.fails;
  calls = next_count plan.calls;
  faults = faults_after (write_fails plan piece) plan.faults;
}
