use Rattle.std.proofs.Common.{◌≡◌, ℕ, ◌-◌, List, length, map, true, ap, sym, subst, ◌∙◌, arith}
use Rattle.std.specs.List.{AllByRecursion}
use Rattle.std.proofs.lemmas.Result.{err_from_is_err_and}
use Rattle.melon_wire.specs.Keys.{are_apart}
use Rattle.melon_backend.specs.declared.put.Put.{Put}
use Rattle.melon_backend.specs.Rows.{with_puts, stored_bytes, live_rows}
use Rattle.melon_backend.specs.Backends.{SeenBackend}
use Rattle.melon_backend.specs.Pushing.{next_revision}
use Rattle.melon_backend.specs.Listing.{namings_seen}
use Rattle.melon_backend.specs.Drafts.{IsDraft, key_put, IsPutWithin}
use Rattle.melon_backend.proofs.Summed.{drafted_for}
use Rattle.melon_backend.proofs.Planning.{plan_err, plan_ok}
use Rattle.melon_backend.proofs.backend.Backend.planned.Goals as goal

pub overflow_sub-stored : goal.overflow_sub-stored
overflow_sub-stored c =
    let inside = c.self.inside in
    let ns = namings_seen c.args.named.now in
    let is = subst (λ (r : ℕ). IsDraft inside.schema.tables r ns c.in_ok-draft.draft) c.next_revision-revision.ensures c.in_ok-draft.ensures in
    let facts = drafted_for inside c.args.self.now c.self.view_is c.self.invariant ns c.requires.declared c.requires.now c.requires.apart c.in_ok-draft.draft is in
    omega (arith, facts.enough_stored, c.in_ok-stored.ensures)

pub overflow_sub-live : goal.overflow_sub-live
overflow_sub-live c =
    let inside = c.self.inside in
    let ns = namings_seen c.args.named.now in
    let is = subst (λ (r : ℕ). IsDraft inside.schema.tables r ns c.in_ok-draft.draft) c.next_revision-revision.ensures c.in_ok-draft.ensures in
    let facts = drafted_for inside c.args.self.now c.self.view_is c.self.invariant ns c.requires.declared c.requires.now c.requires.apart c.in_ok-draft.draft is in
    omega (arith, facts.enough_live, c.in_ok-live.ensures)

pub returns-in_err-within_limit-clause-plan : goal.returns-in_err-within_limit-clause-plan
returns-in_err-within_limit-clause-plan c =
    let p = err_from_is_err_and c.from_residual-in_err-within_limit.result c.from_residual-in_err-within_limit.ensures.1 in
    let inside = c.self.inside in
    let ns = namings_seen c.args.named.now in
    let is = subst (λ (r : ℕ). IsDraft inside.schema.tables r ns c.in_ok-draft.draft) c.next_revision-revision.ensures c.in_ok-draft.ensures in
    let facts = drafted_for inside c.args.self.now c.self.view_is c.self.invariant ns c.requires.declared c.requires.now c.requires.apart c.in_ok-draft.draft is in
    let bytes = ap (λ (n : ℕ). n - c.in_ok-draft.draft.stored_before) c.in_ok-stored.ensures ∙ facts.stored_is in
    rw (p.1, p.2) (plan_err c.args.self.now ns _ c.in_err-within_limit.field-0.0 bytes c.in_err-within_limit.ensures)

pub returns-clause-plan : goal.returns-clause-plan
returns-clause-plan c =
    let inside = c.self.inside in
    let ns = namings_seen c.args.named.now in
    let is = subst (λ (r : ℕ). IsDraft inside.schema.tables r ns c.in_ok-draft.draft) c.next_revision-revision.ensures c.in_ok-draft.ensures in
    let facts = drafted_for inside c.args.self.now c.self.view_is c.self.invariant ns c.requires.declared c.requires.now c.requires.apart c.in_ok-draft.draft is in
    let bytes = ap (λ (n : ℕ). n - c.in_ok-draft.draft.stored_before) c.in_ok-stored.ensures ∙ facts.stored_is in
    plan_ok c.args.self.now ns _ bytes c.in_ok-within_limit.ensures c.next_revision-revision.result (c.next_revision-revision.ensures ∙ ap (λ (b : SeenBackend). next_revision b.revision) c.self.view_is)
    c.in_ok-draft.draft.rows facts.rows_is c.in_ok-draft.draft.puts.items facts.puts_is c.in_ok-push_batch.field-0 c.in_ok-push_batch.ensures

pub returns-clause-ready : goal.returns-clause-ready
returns-clause-ready c =
    let inside = c.self.inside in
    let ns = namings_seen c.args.named.now in
    let is = subst (λ (r : ℕ). IsDraft inside.schema.tables r ns c.in_ok-draft.draft) c.next_revision-revision.ensures c.in_ok-draft.ensures in
    let facts = drafted_for inside c.args.self.now c.self.view_is c.self.invariant ns c.requires.declared c.requires.now c.requires.apart c.in_ok-draft.draft is in
    let bytes = ap (λ (n : ℕ). n - c.in_ok-draft.draft.stored_before) c.in_ok-stored.ensures ∙ facts.stored_is in
    let live = ap (λ (n : ℕ). n - c.in_ok-draft.draft.live_before) c.in_ok-live.ensures ∙ facts.live_is in
    let b = c.args.self.now in
    record {
      within = subst (λ (ps : List Put). AllByRecursion (IsPutWithin (length b.schema.tables)) ps) (sym facts.puts_is) facts.within;
      apart = subst (λ (ps : List Put). are_apart (map key_put ps) ≡ true) (sym facts.puts_is) facts.apart;
      stored = bytes ∙ ap (λ (ps : List Put). stored_bytes b.schema.tables (with_puts b.rows ps)) (sym facts.puts_is);
      live = live ∙ ap (λ (ps : List Put). live_rows (with_puts b.rows ps)) (sym facts.puts_is);
    }
