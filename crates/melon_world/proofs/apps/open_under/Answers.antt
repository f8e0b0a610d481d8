use Rattle.std.proofs.Common.{◌∙◌, subst, ap, ◌++◌, ◌∷◌, []}
use Rattle.std.specs.Prelude.{Ok, Err}
use Rattle.melon_board.specs.Carried.{Opens}
use Rattle.melon_machine.specs.Apps.{row_count}
use Rattle.melon_table.specs.Seen.{rows_of}
use Rattle.melon_world.proofs.Opened.{handled_ok, handled_err}
use Rattle.melon_world.proofs.apps.open_under.Goals as goal

pub returns-in-Ok : goal.returns-in-Ok
returns-in-Ok g c =
    handled_ok (g.K.Keeper.seen c.args.keeper.now) (g.K.Keeper.seen c.open.new.keeper) c.open.ensures.later c.args.app.now c.args.schema c.args.apps.now.items
    c.push_reserved.new.self.items c.in-Ok.store c.in_ok-name.name c.row_count-rows.result c.last-last.result c.in_ok-name.ensures
    (subst (λ n. Opens (g.K.Keeper.seen c.args.keeper.now) (g.K.Keeper.seen c.open.new.keeper) n c.args.schema (Ok c.in-Ok.store)) c.as_str.ensures c.in-Ok.ensures.opens)
    (c.push_reserved.ensures.items ∙ (λ i. c.reserve.ensures.items i ++ c.just_opened.ensures i ∷ []))
    (c.row_count-rows.ensures ∙ ap row_count (ap rows_of c.tables.ensures ∙ c.board.ensures.rows)) c.last-last.ensures

pub returns-in-Err : goal.returns-in-Err
returns-in-Err g c =
    handled_err (g.K.Keeper.seen c.args.keeper.now) (g.K.Keeper.seen c.open.new.keeper) c.open.ensures.later c.args.app.now c.args.schema c.args.apps.now.items
    c.reserve.new.self.items c.in-Err.fault c.open_refusal.result (subst (λ n. Opens (g.K.Keeper.seen c.args.keeper.now) (g.K.Keeper.seen c.open.new.keeper) n c.args.schema (Err c.in-Err.fault)) c.as_str.ensures c.in-Err.ensures.opens) c.in-Err.ensures.cause c.reserve.ensures.items c.open_refusal.ensures.item c.open_refusal.ensures.memory
