-- One step of the machine: what a line asks of the keeper, does and prints.
use Rattle.std.specs.Prelude.{List, Bool, true, false, Option}
use Rattle.melon_script.specs.SeenLine as lines
use Rattle.melon_script.specs.SeenLine.{SeenLine}
use Rattle.melon_machine.specs.Apps.{app_step, plain_app_step}
use Rattle.melon_machine.specs.Calls.{Calls, Done, with_end}
use Rattle.melon_machine.specs.Outcomes.{Stepped, stepped_as}
use Rattle.melon_machine.specs.Servers.{backend_step, server_step}
use Rattle.melon_machine.specs.State.{Machine, KeptMachine, State, kept_of, with_log, with_rows}

module _ {A S : Type 0} (m : State A S) where
  abbrev pub with_apps : List A → State A S
  with_apps apps = record { apps = apps; server = m.server }

  abbrev pub with_server : Option S → State A S
  with_server server = record { apps = m.apps; server = server }

  -- what the calls of the apps do to the machine, whose server stays as it is
  abbrev pub of_apps : Calls (Stepped (List A)) → Calls (Stepped (State A S))
  of_apps calls = with_end (stepped_as with_apps) calls

  -- what the calls of the server do to the machine, whose apps stay as they are
  abbrev pub of_server : Calls (Stepped (Option S)) → Calls (Stepped (State A S))
  of_server calls = with_end (stepped_as with_server) calls

-- ---- a line

unfoldable pub step : Machine → SeenLine → Calls (Stepped Machine)
step m (lines.Backend schema) = of_server m (backend_step with_log m.server schema)
step m (lines.Server table) = of_server m (Done (server_step with_log m.server table))
step m line = of_apps m (app_step m.apps line)

-- ---- as the code has the machine

abbrev pub kept_step : Stepped Machine → Stepped KeptMachine
kept_step s = stepped_as kept_of s

abbrev pub kept_calls : Calls (Stepped Machine) → Calls (Stepped KeptMachine)
kept_calls calls = with_end kept_step calls

abbrev pub is_turn : SeenLine → Bool
is_turn (lines.Turn name observer) = true
is_turn line = false

abbrev pub is_of_server : SeenLine → Bool
is_of_server (lines.Backend schema) = true
is_of_server (lines.Server table) = true
is_of_server line = false

-- The step over such a machine of every line but a turn, which needs the opening rows and stands here for nothing.
unfoldable pub plain_step : KeptMachine → SeenLine → Calls (Stepped KeptMachine)
plain_step m (lines.Backend schema) = of_server m (backend_step with_rows m.server schema)
plain_step m (lines.Server table) = of_server m (Done (server_step with_rows m.server table))
plain_step m line = of_apps m (plain_app_step m.apps line)
