use Rattle.std.proofs.Common.{◌∷◌, [], List, sym, subst, refl}
use Rattle.std.specs.Prelude.{IfOk}
use Rattle.serde_json.specs.View.{view}
use Rattle.melon_script.specs.Seen.{seen}
use Rattle.melon_script.specs.SeenLine as lines
use Rattle.melon_script.specs.SeenLine.{SeenLine}
use Rattle.melon_script.specs.declared.item.Item.{Item}
use Rattle.melon_machine.specs.Outcomes.{ends_with}
use Rattle.melon_machine.specs.State.{KeptMachine}
use Rattle.melon_machine.specs.Step.{step}
use Rattle.melon_world.specs.Handled.{MeetsAs, InterruptsAs}
use Rattle.melon_world.proofs.Stepping.{on_err, unasked_as, turned_as, app_as, app_cut, backend_as, backend_cut, server_as}
use Rattle.melon_world.proofs.world.World.step.Goals as goal

pub returns-in-Turn-clause-met : goal.returns-in-Turn-clause-met
returns-in-Turn-clause-met g c =
    let k = g.K.Keeper.seen c.args.keeper.now in
    let apps = c.self.inside.apps.items in let server = c.self.inside.server in
    let left : KeptMachine = record { apps = c.turn.new.apps.items; server = server } in
    subst (λ (was : KeptMachine). IfOk c.turn.result (λ items. MeetsAs (λ m. step m (seen c.args.line.now)) was k k (ends_with left items))) c.self.view_is
    (subst (λ (line : SeenLine). IfOk c.turn.result (λ items. MeetsAs (λ m. step m line) (record { apps = apps; server = server }) k k (ends_with left items))) (sym c.in-Turn.ensures)
    (turned_as apps server _ c.turn.new.apps.items k c.turn.result refl c.turn.ensures.turned))

pub returns-in_ok-item-in-Backend-clause-met : goal.returns-in_ok-item-in-Backend-clause-met
returns-in_ok-item-in-Backend-clause-met g c =
    let before = g.K.Keeper.seen c.args.keeper.now in let now = g.K.Keeper.seen c.open_backend.new.keeper in
    let apps = c.self.inside.apps.items in let server = c.self.inside.server in
    let left : KeptMachine = record { apps = apps; server = c.open_backend.new.server } in
    subst (λ (was : KeptMachine). MeetsAs (λ m. step m (seen c.args.line.now)) was before now (ends_with left c.with_first.result)) c.self.view_is
    (subst (λ (line : SeenLine). MeetsAs (λ m. step m line) (record { apps = apps; server = server }) before now (ends_with left c.with_first.result)) (sym c.in-Backend.ensures)
    (subst (λ (items : List Item). MeetsAs (λ m. step m (lines.Backend (view c.in-Backend.schema.now))) (record { apps = apps; server = server }) before now (ends_with left items)) (sym c.with_first.ensures)
    (backend_as apps server _ c.open_backend.new.server (c.in_ok-item-in-Backend.item ∷ []) before now c.in_ok-item-in-Backend.ensures.met)))

pub returns-in_ok-item-in-Server-clause-met : goal.returns-in_ok-item-in-Server-clause-met
returns-in_ok-item-in-Server-clause-met g c =
    let k = g.K.Keeper.seen c.args.keeper.now in
    let apps = c.self.inside.apps.items in let server = c.self.inside.server in
    let left : KeptMachine = record { apps = apps; server = server } in
    subst (λ (was : KeptMachine). MeetsAs (λ m. step m (seen c.args.line.now)) was k k (ends_with was c.with_first-in-Server.result)) c.self.view_is
    (subst (λ (line : SeenLine). MeetsAs (λ m. step m line) left k k (ends_with left c.with_first-in-Server.result)) (sym c.in-Server.ensures)
    (subst (λ (items : List Item). MeetsAs (λ m. step m (lines.Server c.in-Server.table.now)) left k k (ends_with left items)) (sym c.with_first-in-Server.ensures)
    (server_as apps server _ c.in_ok-item-in-Server.item k c.in_ok-item-in-Server.ensures.item)))

pub returns-in_ok-item-in-App-clause-met : goal.returns-in_ok-item-in-App-clause-met
returns-in_ok-item-in-App-clause-met g c =
    let line = seen c.args.line.now in
    let before = g.K.Keeper.seen c.args.keeper.now in let now = g.K.Keeper.seen c.take.new.keeper in
    let apps = c.self.inside.apps.items in let server = c.self.inside.server in
    let left : KeptMachine = record { apps = c.take.new.apps.items; server = server } in
    subst (λ (was : KeptMachine). MeetsAs (λ m. step m line) was before now (ends_with left c.with_first-in-App.result)) c.self.view_is
    (subst (λ (items : List Item). MeetsAs (λ m. step m line) (record { apps = apps; server = server }) before now (ends_with left items)) (sym c.with_first-in-App.ensures)
    (app_as apps server line c.take.new.apps.items (c.in_ok-item-in-App.item ∷ []) before now c.in-App.ensures.0 c.in-App.ensures.1 c.in_ok-item-in-App.ensures.met))

pub returns-in-Turn-clause-interrupted : goal.returns-in-Turn-clause-interrupted
returns-in-Turn-clause-interrupted g c = on_err c.turn.result (unasked_as (λ m. step m (seen c.args.line.now)) c.args.self.now (g.K.Keeper.seen c.args.keeper.now))

pub returns-in_err-item-in-Backend-clause-interrupted : goal.returns-in_err-item-in-Backend-clause-interrupted
returns-in_err-item-in-Backend-clause-interrupted g c =
    let before = g.K.Keeper.seen c.args.keeper.now in let now = g.K.Keeper.seen c.open_backend.new.keeper in
    let apps = c.self.inside.apps.items in let server = c.self.inside.server in
    on_err _
    (subst (λ (was : KeptMachine). InterruptsAs (λ m. step m (seen c.args.line.now)) was before now) c.self.view_is
    (subst (λ (line : SeenLine). InterruptsAs (λ m. step m line) (record { apps = apps; server = server }) before now) (sym c.in-Backend.ensures)
    (backend_cut apps server _ before now c.in_err-item-in-Backend.ensures.interrupted)))

pub returns-in_err-item-in-App-clause-interrupted : goal.returns-in_err-item-in-App-clause-interrupted
returns-in_err-item-in-App-clause-interrupted g c =
    let line = seen c.args.line.now in
    let before = g.K.Keeper.seen c.args.keeper.now in let now = g.K.Keeper.seen c.take.new.keeper in
    let apps = c.self.inside.apps.items in let server = c.self.inside.server in
    on_err _
    (subst (λ (was : KeptMachine). InterruptsAs (λ m. step m line) was before now) c.self.view_is
    (app_cut apps server line before now c.in-App.ensures.0 c.in-App.ensures.1 c.in_err-item-in-App.ensures.interrupted))
