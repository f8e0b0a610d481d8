use Rattle.std.proofs.Common.{[], ◌∷◌, cond, filter, Some, None, ap, sym, ◌∙◌}
use Rattle.std.specs.Option.{option_copied}
use Rattle.melon_raw.specs.declared.datum.Datum.TheVariants.{Words}
use Rattle.melon_eval.specs.Seen.{rows_in}
use Rattle.melon_eval.proofs.Owning.{is_named, found_is}
use Rattle.melon_eval.proofs.sources.visible_row.Goals as goal

pub returns-then-is_visible : goal.returns-then-is_visible
returns-then-is_visible g c =
    let id = c.args.id.now in
    let row = c.in-Some-find.row.now in
    let found = c.in-Some-find.ensures in
    sym (ap (λ rows. filter (is_named (Words id)) (rows_in (option_copied rows))) c.in-Some.is
    ∙ found_is c.in-Some.table.now.rows id (Some row) found.kept.ascending (sym found.found) ∙ ap (λ b. cond b (row ∷ []) []) (sym c.if-is_visible.ensures))

pub returns-else-is_visible : goal.returns-else-is_visible
returns-else-is_visible g c =
    let id = c.args.id.now in
    let row = c.in-Some-find.row.now in
    let found = c.in-Some-find.ensures in
    sym (ap (λ rows. filter (is_named (Words id)) (rows_in (option_copied rows))) c.in-Some.is
    ∙ found_is c.in-Some.table.now.rows id (Some row) found.kept.ascending (sym found.found) ∙ ap (λ b. cond b (row ∷ []) []) (sym c.if-is_visible.ensures))

pub returns-in-None-find : goal.returns-in-None-find
returns-in-None-find g c =
    let id = c.args.id.now in
    let found = c.in-None-find.ensures in
    sym (ap (λ rows. filter (is_named (Words id)) (rows_in (option_copied rows))) c.in-Some.is ∙ found_is c.in-Some.table.now.rows id None found.kept.ascending (sym found.found))
