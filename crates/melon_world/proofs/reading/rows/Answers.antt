use Rattle.std.proofs.Common.{◌∙◌, refl, sym}
use Rattle.std.proofs.lemmas.Result.{IfOk-weaker}
use Rattle.melon_machine.specs.Calls.{Done}
use Rattle.melon_machine.specs.State.{as_kept}
use Rattle.melon_machine.specs.Apps.{place_of, looks, rows_shown}
use Rattle.melon_machine.specs.Outcomes.{stepped}
use Rattle.melon_world.proofs.Meeting.{app_found, put_same}
use Rattle.melon_world.proofs.reading.rows.Goals as goal

pub returns-in-Some-clause-item : goal.returns-in-Some-clause-item
returns-in-Some-clause-item c =
    let apps = c.args.apps.now in
    let store = c.index-apps-place.result in
    IfOk-weaker c.rows_shown.result _ _ (λ item is.
    app_found apps c.args.app.now (looks as_kept (rows_shown c.args.app.now c.args.table.now)) c.in-Some.place store
    (c.in-Some.ensures ∙ (λ i. place_of as_kept (c.as_str.ensures i) apps)) c.index-apps-place.is
    ∙ (λ i. Done (stepped (put_same apps c.in-Some.place store store c.index-apps-place.is refl i) (sym is i)))) c.rows_shown.ensures.item
