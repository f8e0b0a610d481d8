use Rattle.std.proofs.Common.{◌≡◌, ap, sym, ◌∙◌, refl, map}
use Rattle.std.proofs.lemmas.Result.{on_ok_weaker, on_err_weaker}
use Rattle.melon_outside.specs.Kept.{batched, nothing}
use Rattle.melon_outside.specs.Keeping.{find, with_store}
use Rattle.melon_outside.specs.Shelved.{seen_kept, seen_store}
use Rattle.melon_outside.proofs.Found.{IsFirst, first, nowhere, find-first, with_store-first, find-nowhere, with_store-nowhere, same-first}
use Rattle.melon_outside.proofs.shelf.commit_store.Goals as goal

pub returns-in-Some-clause-ok : goal.returns-in-Some-clause-ok
returns-in-Some-clause-ok c =
    let name = c.args.name.now in
    let items = c.args.shelves.now.items in
    let at = c.in-Some.at in
    let was = c.index_mut.result.now in
    let found = first name items at was (rw c.as_slice.ensures.value at (sym c.place_of.ensures ∙ c.in-Some.is)) in
    on_ok_weaker c.commit.result
    (λ done. with_store-first name (batched c.args.batch.now (find (map seen_store items) name)) items at was c.commit.new.self found (c.commit.ensures.name ∙ ap (λ s. s.name) c.index_mut.ensures.value) (done ∙ ap (batched c.args.batch.now) (ap seen_kept c.index_mut.ensures.value ∙ sym (find-first name items at was found))))
    c.commit.ensures.ok

pub returns-in-Some-clause-err : goal.returns-in-Some-clause-err
returns-in-Some-clause-err c =
    let name = c.args.name.now in
    let items = c.args.shelves.now.items in
    let at = c.in-Some.at in
    let was = c.index_mut.result.now in
    let found = first name items at was (rw c.as_slice.ensures.value at (sym c.place_of.ensures ∙ c.in-Some.is)) in
    on_err_weaker c.commit.result
    (λ kept. same-first name items at was c.commit.new.self found (c.commit.ensures.name ∙ ap (λ s. s.name) c.index_mut.ensures.value) (kept ∙ ap seen_kept c.index_mut.ensures.value))
    c.commit.ensures.err

pub returns-in-None-clause-ok : goal.returns-in-None-clause-ok
returns-in-None-clause-ok c =
    let name = c.args.name.now in
    let items = c.args.shelves.now.items in
    let none = nowhere name items (rw c.as_slice.ensures.value at (sym c.place_of.ensures ∙ c.in-None.is)) in
    on_ok_weaker c.add_shelf.result
    (λ done. done ∙ with_store-nowhere name (batched c.args.batch.now nothing) items none ∙ ap (λ k. with_store name (batched c.args.batch.now k) (map seen_store items)) (sym (find-nowhere name items none)))
    c.add_shelf.ensures.ok
