-- What a run reads, prints and leaves kept.
use Rattle.std.specs.Prelude.{◌≡◌, ◌≤◌, ◌⊎◌, ℕ, List, [], ◌∷◌, ◌++◌, length, take, map, codes, String, string_bytes, Option, Bool}
use Rattle.std.specs.declared.alloc.Global.{Global}
use Rattle.melon_outside.specs.Keeping.{Stores, AreSame}
use Rattle.melon_outside.specs.SeenKeeper.{SeenKeeper, Answered}
use Rattle.melon_outside.specs.Moves.{Grows, GrowsByFront, IsWhole}
use Rattle.melon_script.specs.SeenLine.{SeenLine}
use Rattle.melon_script.specs.Script.{bad_line, IsLine}
use Rattle.melon_script.specs.Printed.{answer_text}
use Rattle.melon_script.specs.declared.item.Item.{Item}
use Rattle.melon_machine.specs.Calls.{Calls, failures, RoseBy, Follows, Begins}
use Rattle.melon_machine.specs.Legal.{IsKeptAs}
use Rattle.melon_machine.specs.Sound.{IsSound}
use Rattle.melon_machine.specs.State.{Machine, KeptMachine}
use Rattle.melon_machine.specs.Outcomes.{Stepped, ends_with}
use Rattle.melon_machine.specs.Step.{step, kept_calls}
use Rattle.melon_machine.specs.Run.{run, line_calls, ComesTo}

-- the words of a run
abbrev pub IsRun : List (String Global) → Type 0
IsRun words = map string_bytes words ≡ codes "run" ∷ []

-- 16 MiB
abbrev pub longest_script : ℕ
longest_script = 16777216

-- ---- a whole run

-- There is one outcome for each call of the keeper that the run makes, and none more: outcomes behind them are left.
abbrev pub IsOfCalls : List ℕ → Stores → List Bool → Type 0
IsOfCalls script was outcomes = (later : List Bool) → (run script was (outcomes ++ later)).left ≡ later

-- The script was run to its end, or up to the first line outside the grammar: its text was written, and that is kept what the
-- machine keeps. The outcomes are those that the keeper answered, call by call, and its count rose with each that failed. Each
-- app's history is legal then, and what is kept are the encodings of its replay.
pub record Ran (script : List ℕ) (was m : Stores) (before after : Option (List ℕ)) (old new : SeenKeeper) : Type 0 where
  pub outcomes : List Bool
  pub each : IsOfCalls script was outcomes
  pub answered : Answered outcomes old new
  pub rose : RoseBy (failures outcomes) old.faults new.faults
  pub written : Grows before after (run script was outcomes).text
  pub kept : AreSame m (run script was outcomes).kept
  pub sound : IsSound (run script was outcomes).after (run script was outcomes).kept

abbrev pub RunsWhole : List ℕ → SeenKeeper → SeenKeeper → Option (List ℕ) → Option (List ℕ) → Type 0
RunsWhole script old new before after = (m : Stores) → new.holds m → (was : Stores) × old.holds was × Ran script was m before after old new

-- The source was read to its end. The script leaves the grammar at this line or nowhere, and it was run over what the keeper held.
pub record Prints (left rest before after : Option (List ℕ)) (old new : SeenKeeper) (line : Option ℕ) : Type 0 where
  pub script : List ℕ
  pub whole : IsWhole left rest longest_script script
  pub leaves : bad_line script ≡ line
  pub ran : RunsWhole script old new before after

-- ---- a run that was cut short

-- these are the outcomes of the first calls of the next line
abbrev pub IsBegun : List Bool → Machine → List SeenLine → Stores → Type 0
IsBegun begun now [] kept = begun ≡ []
IsBegun begun now (line ∷ later) kept = Begins begun (step now line) kept

-- Whatever comes later, the run prints this text first, of which a front was written. It leaves that kept what the machine keeps
-- once it has printed this text; each app's history is legal then. The keeper answered the calls of the lines that were taken,
-- and behind them, where memory ended a line, that line's first calls.
pub record RanSoFar (script : List ℕ) (was m : Stores) (old new : SeenKeeper) (rest : List SeenLine) (Shows : List ℕ → Type 0) : Type 0 where
  pub outcomes : List Bool
  pub begun : List Bool
  pub printed : List ℕ
  pub now : Machine
  pub comes : ComesTo script was outcomes printed now m rest
  pub next : IsBegun begun now rest m
  pub answered : Answered (outcomes ++ begun) old new
  pub rose : RoseBy (failures (outcomes ++ begun)) old.faults new.faults
  pub sound : IsSound now m
  pub shows : Shows printed

abbrev pub RunsTo : List ℕ → SeenKeeper → SeenKeeper → List SeenLine → (List ℕ → Type 0) → Type 0
RunsTo script old new rest Shows = (m : Stores) → new.holds m → (was : Stores) × old.holds was × RanSoFar script was m old new rest Shows

abbrev pub RunsSoFar : List ℕ → SeenKeeper → SeenKeeper → (List ℕ → Type 0) → Type 0
RunsSoFar script old new Shows = (m : Stores) → new.holds m → (was : Stores) × old.holds was × (rest : List SeenLine) × RanSoFar script was m old new rest Shows

-- The source was read to its end, its script was run some lines far, and a front of their text was written.
pub record PrintsFront (left rest before after : Option (List ℕ)) (old new : SeenKeeper) : Type 0 where
  pub script : List ℕ
  pub whole : IsWhole left rest longest_script script
  pub ran : RunsSoFar script old new (GrowsByFront before after)

-- ---- the same with text that is pending

-- some of this text was written, and the rest is pending
pub record Pends (before after : Option (List ℕ)) (pending whole : List ℕ) : Type 0 where
  pub written : List ℕ
  pub grows : Grows before after written
  pub text_is : written ++ pending ≡ whole

-- the same of a front of it
pub record PendsFront (before after : Option (List ℕ)) (pending whole : List ℕ) : Type 0 where
  pub count : ℕ
  pub pends : Pends before after pending (take count whole)

-- ---- a line

-- The items are shown so, and every machine that the code had so made these calls and is left so. What the keeper answered are
-- the outcomes of these calls.
abbrev pub Takes : (Machine → Calls (Stepped Machine)) → KeptMachine → KeptMachine → SeenKeeper → SeenKeeper → (List ℕ → Type 0) → Type 0
Takes calls was now old new Shows =
    (m : Stores) → new.holds m → (mid : Stores) × old.holds mid × (items : List Item) × Shows (answer_text items) × ((machine : Machine) → IsKeptAs machine was
    → (used : List Bool) × Follows (kept_calls (calls machine)) mid used (ends_with now items) m × RoseBy (failures used) old.faults new.faults × Answered used old new)

-- nothing was added to what is written or pending
abbrev pub IsUntouched : Option (List ℕ) → Option (List ℕ) → List ℕ → List ℕ → Type 0
IsUntouched before after was pending = (after ≡ before) × (pending ≡ was)
