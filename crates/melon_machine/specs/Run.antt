-- The run of a whole script: the forms of its lines stepped in order, over what is kept, with an outcome for each call of the keeper.
use Rattle.std.specs.Prelude.{◌≡◌, ℕ, List, [], ◌∷◌, ◌++◌, Bool, Option, Some, None, if◌then◌else◌}
use Rattle.melon_outside.specs.Keeping.{Stores}
use Rattle.melon_script.specs.SeenLine.{SeenLine}
use Rattle.melon_script.specs.Forms.{line_of, is_blank}
use Rattle.melon_script.specs.Script.{forms_in}
use Rattle.melon_script.specs.Printed.{answer_text}
use Rattle.melon_machine.specs.Calls.{Calls, Done, Followed, follow}
use Rattle.melon_machine.specs.State.{Machine, none_open}
use Rattle.melon_machine.specs.Outcomes.{Stepped, ends_with}
use Rattle.melon_machine.specs.Step.{step}

-- what the form of a line does; none does nothing
abbrev pub by_form : Machine → Option SeenLine → Calls (Stepped Machine)
by_form m None = Done (ends_with m [])
by_form m (Some line) = step m line

-- what a line of bytes does
abbrev pub line_calls : Machine → List ℕ → Calls (Stepped Machine)
line_calls m bytes = if is_blank bytes then Done (ends_with m []) else by_form m (line_of bytes)

-- what was printed, the state and what is kept at the end, and the outcomes that are left
pub record Ran : Type 0 where
  pub text : List ℕ
  pub after : Machine
  pub kept : Stores
  pub left : List Bool

-- a text before
abbrev pub prints_first : List ℕ → Ran → Ran
prints_first text later = record { text = text ++ later.text; after = later.after; kept = later.kept; left = later.left }

-- what a step printed, and then the lines after it
abbrev pub goes_on : Followed (Stepped Machine) → (Machine → Stores → List Bool → Ran) → Ran
goes_on done later = prints_first (answer_text done.value.items) (later done.value.after done.kept done.left)

-- the lines of these forms, from this state on
abbrev pub run_from : Machine → Stores → List SeenLine → List Bool → Ran
run_from m kept [] outcomes = record { text = []; after = m; kept = kept; left = outcomes }
run_from m kept (line ∷ more) outcomes = goes_on (follow (step m line) kept outcomes) (λ next now left. run_from next now more left)

-- The run of a script by a machine without open apps and without a server.
unfoldable pub run : List ℕ → Stores → List Bool → Ran
run script kept outcomes = run_from none_open kept (forms_in script) outcomes

-- Whatever comes after these outcomes, the run prints this text and then goes on from this state with these lines.
pub record ComesTo (script : List ℕ) (was : Stores) (used : List Bool) (printed : List ℕ) (now : Machine) (kept : Stores) (rest : List SeenLine) : Type 0 where
  pub goes : (later : List Bool) → run script was (used ++ later) ≡ prints_first printed (run_from now kept rest later)
