-- The lines of the apps and those of the server as steps of the whole machine: it stays legal, and the code steps as it does.
use Rattle.std.proofs.Common.{◌≡◌, ℕ, List, false, refl, ap, sym, ◌∙◌, subst, arith}
use Rattle.std.specs.Prelude.{Option}
use Rattle.serde_json.specs.Data.{Data}
use Rattle.melon_script.specs.SeenLine as lines
use Rattle.melon_script.specs.SeenLine.{SeenLine}
use Rattle.melon_machine.specs.Apps.{app_step, kept_apps, plain_app_step}
use Rattle.melon_machine.specs.Calls.{Calls, Done, with_end}
use Rattle.melon_machine.specs.Legal.{AreLegal, IsLegalIfOpen, IsLegal}
use Rattle.melon_machine.specs.Outcomes.{Stepped, stepped_as}
use Rattle.melon_machine.specs.Servers.{backend_step, kept_server}
use Rattle.melon_machine.specs.State.{App, Server, Machine, KeptMachine, kept_of, with_log}
use Rattle.melon_machine.specs.Step.{with_apps, with_server, of_apps, of_server, step, kept_step, kept_calls, is_turn, is_of_server, plain_step}
use Rattle.melon_machine.proofs.Legality.{Always, always_end, app_step_legal}
use Rattle.melon_machine.proofs.Served.{backend_same, server_same, backend_legal}
use Rattle.melon_machine.proofs.Simulated.{end_twice, plain_app_same}

-- ---- lines

-- what holds of the lines of apps and of the two of the server holds of every line
pub by_line : (P : SeenLine → Type 0) → ((line : SeenLine) → is_of_server line ≡ false → P line) → ((json : Data) → P (lines.Backend json)) → ((table : List ℕ) → P (lines.Server table)) → (line : SeenLine) → P line
by_line P apps backend server (lines.Open name schema) = apps _ refl
by_line P apps backend server (lines.Close name) = apps _ refl
by_line P apps backend server (lines.Enter name writer) = apps _ refl
by_line P apps backend server (lines.Nest name writer) = apps _ refl
by_line P apps backend server (lines.Leave name writer) = apps _ refl
by_line P apps backend server (lines.Write name ops writer) = apps _ refl
by_line P apps backend server (lines.Fetch name table query) = apps _ refl
by_line P apps backend server (lines.Rows name table) = apps _ refl
by_line P apps backend server (lines.Observe name observer table query shape) = apps _ refl
by_line P apps backend server (lines.Watch name observer table id to) = apps _ refl
by_line P apps backend server (lines.Turn name observer) = apps _ refl
by_line P apps backend server (lines.Drop name observer) = apps _ refl
by_line P apps backend server (lines.Parent name table id to) = apps _ refl
by_line P apps backend server (lines.Children name table id to) = apps _ refl
by_line P apps backend server (lines.Backend schema) = backend schema
by_line P apps backend server (lines.Server table) = server table

pub app_line : (m : Machine) (line : SeenLine) → is_of_server line ≡ false → step m line ≡ of_apps m (app_step m.apps line)
unfolding step
app_line m (lines.Open name schema) is = refl
app_line m (lines.Close name) is = refl
app_line m (lines.Enter name writer) is = refl
app_line m (lines.Nest name writer) is = refl
app_line m (lines.Leave name writer) is = refl
app_line m (lines.Write name ops writer) is = refl
app_line m (lines.Fetch name table query) is = refl
app_line m (lines.Rows name table) is = refl
app_line m (lines.Observe name observer table query shape) is = refl
app_line m (lines.Watch name observer table id to) is = refl
app_line m (lines.Turn name observer) is = refl
app_line m (lines.Drop name observer) is = refl
app_line m (lines.Parent name table id to) is = refl
app_line m (lines.Children name table id to) is = refl
app_line m (lines.Backend schema) is = absurd (grind (arith, is))
app_line m (lines.Server table) is = absurd (grind (arith, is))

pub kept_line : (m : KeptMachine) (line : SeenLine) → is_of_server line ≡ false → plain_step m line ≡ of_apps m (plain_app_step m.apps line)
unfolding plain_step
kept_line m (lines.Open name schema) is = refl
kept_line m (lines.Close name) is = refl
kept_line m (lines.Enter name writer) is = refl
kept_line m (lines.Nest name writer) is = refl
kept_line m (lines.Leave name writer) is = refl
kept_line m (lines.Write name ops writer) is = refl
kept_line m (lines.Fetch name table query) is = refl
kept_line m (lines.Rows name table) is = refl
kept_line m (lines.Observe name observer table query shape) is = refl
kept_line m (lines.Watch name observer table id to) is = refl
kept_line m (lines.Turn name observer) is = refl
kept_line m (lines.Drop name observer) is = refl
kept_line m (lines.Parent name table id to) is = refl
kept_line m (lines.Children name table id to) is = refl
kept_line m (lines.Backend schema) is = absurd (grind (arith, is))
kept_line m (lines.Server table) is = absurd (grind (arith, is))

-- ---- as the code has the machine

pub apps_twice : (m : Machine) (calls : Calls (Stepped (List App))) → of_apps (kept_of m) (with_end kept_apps calls) ≡ kept_calls (of_apps m calls)
apps_twice m calls = end_twice (stepped_as (with_apps (kept_of m))) kept_apps calls ∙ sym (end_twice kept_step (stepped_as (with_apps m)) calls)

pub server_twice : (m : Machine) (calls : Calls (Stepped (Option Server))) → of_server (kept_of m) (with_end kept_server calls) ≡ kept_calls (of_server m calls)
server_twice m calls = end_twice (stepped_as (with_server (kept_of m))) kept_server calls ∙ sym (end_twice kept_step (stepped_as (with_server m)) calls)

pub plain_same : (m : Machine) (line : SeenLine) → IsLegal m → is_turn line ≡ false → plain_step (kept_of m) line ≡ kept_calls (step m line)
unfolding step plain_step
plain_same m line legal = by_line (λ (l : SeenLine). is_turn l ≡ false → plain_step (kept_of m) l ≡ kept_calls (step m l))
    (λ l is plain. kept_line (kept_of m) l is ∙ ap (of_apps (kept_of m)) (plain_app_same m.apps l legal.apps plain) ∙ apps_twice m (app_step m.apps l) ∙ ap kept_calls (sym (app_line m l is)))
    (λ json plain. ap (of_server (kept_of m)) (backend_same m.server json) ∙ server_twice m (backend_step with_log m.server json))
    (λ table plain. ap (λ s. of_server (kept_of m) (Done s)) (server_same m.server table)) line

-- ---- legality

abbrev pub StepsLegal : Calls (Stepped Machine) → Type 0
StepsLegal calls = Always (λ s. IsLegal s.after) calls

pub step_legal : (m : Machine) (line : SeenLine) → IsLegal m → StepsLegal (step m line)
unfolding step
step_legal m line h = by_line (λ (l : SeenLine). StepsLegal (step m l))
    (λ l is. subst StepsLegal (sym (app_line m l is)) (always_end (λ s. AreLegal s.after) (λ s. IsLegal s.after) (stepped_as (with_apps m)) (λ s k. record { apps = k; server = h.server }) (app_step m.apps l) (app_step_legal m.apps l h.apps)))
    (λ json. always_end (λ s. IsLegalIfOpen s.after) (λ s. IsLegal s.after) (stepped_as (with_server m)) (λ s k. record { apps = h.apps; server = k }) (backend_step with_log m.server json) (backend_legal m.server json h.server))
    (λ table. h) line
