use Rattle.std.proofs.Common.{◌≡◌, List, ap, ap₂, sym, ◌∙◌}
use Rattle.std.proofs.lemmas.Result.{IfOk-weaker}
use Rattle.melon_outside.specs.declared.kept.Kept.{Kept}
use Rattle.melon_outside.specs.declared.kept.KeptRow.{KeptRow}
use Rattle.melon_outside.specs.declared.kept.KeptValue.{KeptValue}
use Rattle.melon_outside.specs.Shelved.{seen_kept}
use Rattle.melon_outside.proofs.Found.{first, nowhere, find-first, find-nowhere}
use Rattle.melon_outside.proofs.shelf.load_store.Goals as goal

pub returns-in-Some : goal.returns-in-Some
returns-in-Some c =
    let shelf = c.index-shelves-at.result in
    let found = find-first c.args.name.now c.args.shelves.now c.in-Some.at shelf (first c.args.name.now c.args.shelves.now c.in-Some.at shelf (sym c.place_of.ensures ∙ c.in-Some.is)) in
    IfOk-weaker c.load.result _ _ (λ kept is. is ∙ ap seen_kept c.index-shelves-at.is ∙ sym found) c.load.ensures

pub returns-in-None : goal.returns-in-None
returns-in-None c =
    ap₂ (λ (a : List KeptRow) (b : List KeptValue). let k : Kept = record { rows = a; values = b } in k) c.new.ensures c.new-in-None.ensures
    ∙ sym (find-nowhere c.args.name.now c.args.shelves.now (nowhere c.args.name.now c.args.shelves.now (sym c.place_of.ensures ∙ c.in-None.is)))
