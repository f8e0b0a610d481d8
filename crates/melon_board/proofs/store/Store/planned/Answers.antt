use Rattle.std.proofs.Common.{◌≡◌, ◌+◌, ◌-◌, Option, Some, Result, Ok, ap, sym, subst, ◌∙◌}
use Rattle.std.proofs.lemmas.Result.{err_from_is_err_and}
use Rattle.melon_outside.specs.declared.kept.KeptBatch.{KeptBatch}
use Rattle.melon_board.specs.declared.draft.Sizes.{Sizes}
use Rattle.melon_board.specs.declared.fault.WriteFault.{WriteFault}
use Rattle.melon_board.specs.Stores.{with_entry}
use Rattle.melon_board.specs.Plans.{Plan, entry_plan}
use Rattle.melon_board.proofs.Planned.{planned, refused}
use Rattle.melon_board.proofs.Summed.{sized, within_schema}
use Rattle.melon_board.proofs.store.Store.planned.Goals as goal

pub draft_of-requires : goal.draft_of-requires
draft_of-requires c = within_schema c.self.inside c.args.self.now c.self.view_is c.self.invariant c.args.entry.now c.requires c.as_slice.result.now c.as_slice.ensures

pub sizes_with-requires : goal.sizes_with-requires
sizes_with-requires c = (sized c.self.inside c.args.self.now c.self.view_is c.self.invariant c.args.entry.now c.requires c.as_slice.result.now c.as_slice.ensures c.in_ok-draft.draft c.in_ok-draft.ensures).enough

pub returns-in_err-sizes-clause-refused : goal.returns-in_err-sizes-clause-refused
returns-in_err-sizes-clause-refused c =
    let facts = sized c.self.inside c.args.self.now c.self.view_is c.self.invariant c.args.entry.now c.requires c.as_slice.result.now c.as_slice.ensures c.in_ok-draft.draft c.in_ok-draft.ensures in
    let p = err_from_is_err_and c.from_residual-in_err-sizes.result c.from_residual-in_err-sizes.ensures.1 in
    rw (p.1, p.2) (refused c.args.self.now c.args.entry.now (c.self.inside.stored + c.in_ok-draft.draft.after - c.in_ok-draft.draft.before) (c.self.inside.journal + (c.in_ok-draft.draft.before + c.in_ok-draft.draft.after)) facts.stored_is facts.journal_is _ c.in_err-sizes.ensures)

pub returns-clause-plan : goal.returns-clause-plan
returns-clause-plan c =
    let facts = sized c.self.inside c.args.self.now c.self.view_is c.self.invariant c.args.entry.now c.requires c.as_slice.result.now c.as_slice.ensures c.in_ok-draft.draft c.in_ok-draft.ensures in
    (planned c.args.self.now c.args.entry.now (c.self.inside.stored + c.in_ok-draft.draft.after - c.in_ok-draft.draft.before) (c.self.inside.journal + (c.in_ok-draft.draft.before + c.in_ok-draft.draft.after)) facts.stored_is facts.journal_is c.in_ok-sizes.sizes c.in_ok-sizes.ensures).0
    ∙ ap (λ (b : KeptBatch). let p : Result Plan WriteFault = Ok (record { batch = Some b; after = with_entry c.args.self.now c.args.entry.now }) in p) (sym facts.batch_is)

pub returns-clause-stored : goal.returns-clause-stored
returns-clause-stored c =
    let facts = sized c.self.inside c.args.self.now c.self.view_is c.self.invariant c.args.entry.now c.requires c.as_slice.result.now c.as_slice.ensures c.in_ok-draft.draft c.in_ok-draft.ensures in
    ap (λ (s : Sizes). s.stored) (planned c.args.self.now c.args.entry.now (c.self.inside.stored + c.in_ok-draft.draft.after - c.in_ok-draft.draft.before) (c.self.inside.journal + (c.in_ok-draft.draft.before + c.in_ok-draft.draft.after)) facts.stored_is facts.journal_is c.in_ok-sizes.sizes c.in_ok-sizes.ensures).1
    ∙ facts.stored_is

pub returns-clause-journal : goal.returns-clause-journal
returns-clause-journal c =
    let facts = sized c.self.inside c.args.self.now c.self.view_is c.self.invariant c.args.entry.now c.requires c.as_slice.result.now c.as_slice.ensures c.in_ok-draft.draft c.in_ok-draft.ensures in
    ap (λ (s : Sizes). s.journal) (planned c.args.self.now c.args.entry.now (c.self.inside.stored + c.in_ok-draft.draft.after - c.in_ok-draft.draft.before) (c.self.inside.journal + (c.in_ok-draft.draft.before + c.in_ok-draft.draft.after)) facts.stored_is facts.journal_is c.in_ok-sizes.sizes c.in_ok-sizes.ensures).1
    ∙ facts.journal_is
