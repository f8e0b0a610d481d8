use Rattle.std.proofs.lemmas.Result.{err_from_is_err_and}
use Rattle.melon_board.specs.Plans.{asked, entry_plan}
use Rattle.melon_board.specs.Stores.{store_key, with_entry}
use Rattle.melon_board.proofs.Summed.{within_board, next_of_board, keeps_history, same_store, seen_with, summed, continued_with}
use Rattle.melon_outside.proofs.SeenKeepers.{not_asked}
use Rattle.melon_board.specs.declared.fault.WriteFault.TheVariants.{KeeperFault}
use Rattle.melon_board.proofs.Written.{kept_fault, is_asked, refusal_not_keepers}
use Rattle.std.proofs.Common.{ℕ, List, Some, refl, sym, subst}
use Rattle.melon_outside.specs.Keeping.{Stores}
use Rattle.melon_outside.specs.Asking.{IsDone}
use Rattle.melon_board.specs.Stores.{SeenStore}
use Rattle.melon_board.specs.Carried.{HoldsStore}
use Rattle.melon_board.proofs.Summed.{more_store}
use Rattle.melon_board.proofs.KeptOn.{entry_kept}
use Rattle.melon_board.proofs.Holding.{formed, holds_ok}
use Rattle.melon_board.proofs.store.Store.install_entry.Goals as goal

pub commit_entry-requires-clause-within : goal.commit_entry-requires-clause-within
commit_entry-requires-clause-within g c = within_board c.self.inside c.args.self.now c.self.view_is c.self.invariant c.args.entry c.requires.1

pub commit_entry-requires-clause-next : goal.commit_entry-requires-clause-next
commit_entry-requires-clause-next g c = next_of_board c.self.inside c.args.self.now c.self.view_is c.self.invariant c.args.entry c.requires

pub returns-in_err-commit_entry-clause-written : goal.returns-in_err-commit_entry-clause-written
returns-in_err-commit_entry-clause-written g c =
    let p = err_from_is_err_and c.from_residual-in_err-commit_entry.result c.from_residual-in_err-commit_entry.ensures.1 in
    rw (p.1, p.2) (kept_fault (entry_plan c.args.self.now c.args.entry) c.args.self.now (seen_with c.self.inside c.commit_entry.new.board) _ c.in_err-commit_entry.ensures.fault
    (is_asked (entry_plan c.args.self.now c.args.entry) c.in_ok-planned.planned.batch (with_entry c.args.self.now c.args.entry) c.in_ok-planned.ensures.plan)
    (same_store c.self.inside c.args.self.now c.commit_entry.new.board c.self.view_is c.in_err-commit_entry.ensures.same_rows c.in_err-commit_entry.ensures.same_entries))

pub invariant_of-self-2 : goal.invariant_of-self-2
invariant_of-self-2 g c = summed c.self.inside c.args.self.now c.self.view_is c.self.invariant c.args.entry c.requires.1 c.commit_entry.new.board c.in_ok-planned.planned.sizes.stored c.in_ok-planned.planned.sizes.journal
    c.commit_entry.ensures.history c.commit_entry.ensures.opening (next_of_board c.self.inside c.args.self.now c.self.view_is c.self.invariant c.args.entry c.requires)
    c.commit_entry.ensures.columns c.in_ok-commit_entry.ensures.rows c.in_ok-commit_entry.ensures.entries c.in_ok-planned.ensures.stored c.in_ok-planned.ensures.journal

pub returns-clause-continues : goal.returns-clause-continues
returns-clause-continues g c = continued_with c.self.inside c.args.self.now c.commit_entry.new.board c.args.entry c.self.view_is c.in_ok-commit_entry.ensures.rows c.in_ok-commit_entry.ensures.entries c.requires

pub returns-in_err-planned-clause-keeper : goal.returns-in_err-planned-clause-keeper
returns-in_err-planned-clause-keeper g c =
    let p = err_from_is_err_and c.from_residual.result c.from_residual.ensures.1 in
    rw (p.1, p.2) (not_asked (g.K.Keeper.seen c.args.keeper.now) (g.met.K.Keeper.between c.args.keeper.now) (asked (entry_plan c.args.self.now c.args.entry)) (store_key c.args.self.now.name) KeeperFault _
    (refusal_not_keepers (entry_plan c.args.self.now c.args.entry) _ c.in_err-planned.ensures.refused))

pub returns-clause-keeps : goal.returns-clause-keeps
returns-clause-keeps g c = λ held.
    let old = g.K.Keeper.seen c.args.keeper.now in let new = g.K.Keeper.seen c.commit_entry.new.keeper in
    let store = c.args.self.now in let entry = c.args.entry in let batch = c.in_ok-planned.planned.batch in
    let well = formed c.self.inside store c.self.view_is c.self.invariant in
    let done = subst (λ (key : List ℕ). (m : Stores) → new.holds m → (was : Stores) × old.holds was × IsDone (Some batch) key was m) c.in_ok-planned.ensures.key c.in_ok-commit_entry.ensures.keeper.kept in
    subst (HoldsStore new) (sym (more_store c.self.inside store c.commit_entry.new.board entry c.self.view_is c.in_ok-commit_entry.ensures.rows c.in_ok-commit_entry.ensures.entries))
    (holds_ok old new store (with_entry store entry) (Some batch) refl (λ kept keeps. (entry_kept store kept entry well keeps c.requires.1 (record { batch = Some batch; after = with_entry store entry }) c.in_ok-planned.ensures.plan).keeps) done held)

pub returns-clause-history : goal.returns-clause-history
returns-clause-history g c = keeps_history c.self.inside _ c.args.self.now c.self.view_is c.self.invariant (invariant_of-self-2 g c) c.commit_entry.ensures.opening
