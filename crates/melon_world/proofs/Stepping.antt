-- A step of every machine that the code has so.
use Rattle.std.proofs.Common.{◌≡◌, ℕ, List, [], ◌∷◌, false, refl, sym, ap, ◌∙◌, subst, arith}
use Rattle.std.specs.Prelude.{Option, Result, Ok, Err, IfOk, OnErr}
use Rattle.std.proofs.lemmas.Result.{IfOk-weaker}
use Rattle.serde_json.specs.Data.{Data}
use Rattle.melon_outside.specs.Keeping.{Stores}
use Rattle.melon_outside.specs.SeenKeeper.{SeenKeeper}
use Rattle.melon_outside.proofs.SeenKeepers.{answered_none, holds_refl, later_refl}
use Rattle.melon_backend.specs.Backends.{SeenBackend}
use Rattle.melon_script.specs.SeenLine as lines
use Rattle.melon_script.specs.SeenLine.{SeenLine}
use Rattle.melon_script.specs.declared.item.Item.{Item}
use Rattle.melon_machine.specs.Apps.{app_step, kept_apps, plain_app_step}
use Rattle.melon_machine.specs.Calls.{Calls, Done, with_end, Begins, Follows, Meets, Interrupts}
use Rattle.melon_machine.specs.Legal.{AreKeptAs, IsKeptAs}
use Rattle.melon_machine.specs.Outcomes.{Stepped, ends_with, stepped_as}
use Rattle.melon_machine.specs.Servers.{backend_step, server_shown}
use Rattle.melon_machine.specs.State.{App, KeptApp, Machine, KeptMachine, kept_of, with_rows}
use Rattle.melon_machine.specs.Step.{with_apps, with_server, of_apps, plain_step, step, is_turn, is_of_server, kept_calls, kept_step}
use Rattle.melon_machine.proofs.Followed.{rose_none, begins_end}
use Rattle.melon_machine.proofs.Whole.{app_line, kept_line, apps_twice, plain_same}
use Rattle.melon_world.specs.Handled.{MeetsAs, InterruptsAs}
use Rattle.melon_world.proofs.Meeting.{met_quietly, met_at_end, interrupted_at_end}

-- nothing was asked of the keeper
quietly_as : {E : Type 0} (calls : Machine → Calls (Stepped Machine)) (was left : KeptMachine) (k : SeenKeeper) (result : Result (List Item) E)
    → ((machine : Machine) → IsKeptAs machine was → IfOk result (λ items. kept_calls (calls machine) ≡ Done (ends_with left items))) → IfOk result (λ items. MeetsAs calls was k k (ends_with left items))
quietly_as calls was left k (Ok items) turns = λ m told. (
  m,
  told,
  λ machine h. ([], subst (λ (c : Calls (Stepped KeptMachine)). Follows c m [] (ends_with left items) m) (sym (turns machine h)) (refl, refl, λ name. refl), rose_none k.faults k.faults (omega arith), answered_none k),
)
quietly_as calls was left k (Err e) turns = tt

-- memory ran out before the keeper was asked
pub unasked_as : (calls : Machine → Calls (Stepped Machine)) (was : KeptMachine) (k : SeenKeeper) → InterruptsAs calls was k k
unasked_as calls was k m told = (m, told, λ name. refl, λ machine h. ([], tt, rose_none k.faults k.faults (omega arith), answered_none k))

pub on_err : {T E P : Type 0} (r : Result T E) → P → OnErr r P
on_err (Ok x) p = tt
on_err (Err e) p = p

module _ (apps : List KeptApp) (server : Option SeenBackend) where
  abbrev w : KeptMachine
  w = record { apps = apps; server = server }

  -- a turn
  pub turned_as : {E : Type 0} (line : SeenLine) (left : List KeptApp) (k : SeenKeeper) (result : Result (List Item) E) → is_of_server line ≡ false
      → ((machines : List App) → AreKeptAs machines apps → IfOk result (λ items. with_end kept_apps (app_step machines line) ≡ Done (ends_with left items)))
      → IfOk result (λ items. MeetsAs (λ m. step m line) w k k (ends_with (record { apps = left; server = server }) items))
  turned_as line left k result apart turns =
      quietly_as (λ m. step m line) w (record { apps = left; server = server }) k result (λ machine h.
      IfOk-weaker result _ _ (λ items is.
      ap kept_calls (app_line machine line apart)
      ∙ sym (apps_twice machine (app_step machine.apps line))
      ∙ ap (of_apps (kept_of machine)) is
      ∙ (λ i. Done (ends_with (record { apps = left; server = (h.same i).server }) items)))
      (turns machine.apps (record { same = ap (λ (k : KeptMachine). k.apps) h.same; legal = h.legal.apps })))

  -- a line that isn't a turn
  plain_as : (line : SeenLine) (before now : SeenKeeper) (end : Stepped KeptMachine) → is_turn line ≡ false → Meets (plain_step w line) before now end → MeetsAs (λ m. step m line) w before now end
  plain_as line before now end plain met m told =
      let t = met m told in (
        t.0,
        t.1,
        λ machine h. (
          t.2,
          subst (λ (c : Calls (Stepped KeptMachine)). Follows c t.0 t.2 end m) (ap (λ (k : KeptMachine). plain_step k line) (sym h.same) ∙ plain_same machine line h.legal plain) t.3,
          t.4,
          t.5,
        ),
      )

  -- memory ran out
  plain_cut : (line : SeenLine) (before now : SeenKeeper) → is_turn line ≡ false → Interrupts (plain_step w line) before now → InterruptsAs (λ m. step m line) w before now
  plain_cut line before now plain cut m told =
      let t = cut m told in (
        t.0,
        t.1,
        t.2,
        λ machine h. (
          t.3,
          begins_end kept_step t.3 (step machine line) t.0
              (subst (λ (c : Calls (Stepped KeptMachine)). Begins t.3 c t.0) (ap (λ (k : KeptMachine). plain_step k line) (sym h.same) ∙ plain_same machine line h.legal plain) t.4),
          t.5,
          t.6,
        ),
      )

  -- one of an app
  pub app_as : (line : SeenLine) (left : List KeptApp) (items : List Item) (before now : SeenKeeper) → is_turn line ≡ false → is_of_server line ≡ false
      → Meets (plain_app_step apps line) before now (ends_with left items) → MeetsAs (λ m. step m line) w before now (ends_with (record { apps = left; server = server }) items)
  app_as line left items before now plain apart met =
      plain_as line before now _ plain
      (subst (λ (c : Calls (Stepped KeptMachine)). Meets c before now (ends_with (record { apps = left; server = server }) items)) (sym (kept_line w line apart))
      (met_at_end before now (stepped_as (with_apps w)) (plain_app_step apps line) (ends_with left items) met))

  pub app_cut : (line : SeenLine) (before now : SeenKeeper) → is_turn line ≡ false → is_of_server line ≡ false → Interrupts (plain_app_step apps line) before now → InterruptsAs (λ m. step m line) w before now
  app_cut line before now plain apart cut =
      plain_cut line before now plain
      (subst (λ (c : Calls (Stepped KeptMachine)). Interrupts c before now) (sym (kept_line w line apart)) (interrupted_at_end before now (stepped_as (with_apps w)) (plain_app_step apps line) cut))

  -- the opening of the server
  pub backend_as : (json : Data) (left : Option SeenBackend) (items : List Item) (before now : SeenKeeper)
      → Meets (backend_step with_rows server json) before now (ends_with left items) → MeetsAs (λ m. step m (lines.Backend json)) w before now (ends_with (record { apps = apps; server = left }) items)
  unfolding plain_step
  backend_as json left items before now met =
      plain_as (lines.Backend json) before now _ refl (met_at_end before now (stepped_as (with_server w)) (backend_step with_rows server json) (ends_with left items) met)

  pub backend_cut : (json : Data) (before now : SeenKeeper) → Interrupts (backend_step with_rows server json) before now → InterruptsAs (λ m. step m (lines.Backend json)) w before now
  unfolding plain_step
  backend_cut json before now cut = plain_cut (lines.Backend json) before now refl (interrupted_at_end before now (stepped_as (with_server w)) (backend_step with_rows server json) cut)

  -- its rows
  pub server_as : (table : List ℕ) (item : Item) (k : SeenKeeper) → item ≡ server_shown with_rows table server → MeetsAs (λ m. step m (lines.Server table)) w k k (ends_with w (item ∷ []))
  unfolding plain_step
  server_as table item k is =
      plain_as (lines.Server table) k k _ refl
      (subst (λ (said : Item). Meets (plain_step w (lines.Server table)) k k (ends_with w (said ∷ []))) (sym is)
      (met_quietly k k (ends_with w (server_shown with_rows table server ∷ [])) (holds_refl k) (later_refl k) (answered_none k)))
