use Rattle.std.proofs.Common.{◌≡◌, ℕ, List, true, not, map, length, sym, ap, subst, ◌∙◌}
use Rattle.std.specs.List.{AllByRecursion}
use Rattle.std.specs.Vec.Iter.{into_iter_items}
use Rattle.std.proofs.lemmas.Bool.{and_parts}
use Rattle.melon_wire.specs.Keys.{is_in, are_apart}
use Rattle.melon_log.specs.ServerRows.{ServerRows}
use Rattle.melon_backend.specs.declared.put.Put.{Put}
use Rattle.melon_backend.specs.Rows.{with_puts}
use Rattle.melon_backend.specs.Inside.{tables_rows}
use Rattle.melon_backend.specs.Drafts.{key_put, is_ready_at, are_ready, IsPutWithin}
use Rattle.melon_backend.proofs.Committing.{ready_later, not_true}
use Rattle.melon_backend.proofs.commit.put_all.Goals as goal

pub loop-put-preserved : goal.loop-put-preserved
loop-put-preserved c =
    let put = c.in-Some.put in
    let rest = into_iter_items c.next.new.self in
    let old = c.loop-put.tables.items in
    let new = c.put_at.new.tables.items in
    let next = c.in-Some.ensures.steps.0 in
    let within = subst (λ (ps : List Put). AllByRecursion (IsPutWithin (length old)) ps) next c.loop-put.invariant.within in
    let ready = and_parts (is_ready_at old put) (are_ready old rest) (subst (λ (ps : List Put). are_ready old ps ≡ true) next c.loop-put.invariant.ready) in
    let apart = and_parts (not (is_in (key_put put) (map key_put rest))) (are_apart (map key_put rest)) (subst (λ (ps : List Put). are_apart (map key_put ps) ≡ true) next c.loop-put.invariant.apart) in
    record {
      kept = c.put_at.ensures.kept;
      long = c.put_at.ensures.long ∙ c.loop-put.invariant.long;
      within = subst (λ (n : ℕ). AllByRecursion (IsPutWithin n) rest) (sym c.put_at.ensures.long) within.1;
      ready = ready_later put rest old new c.put_at.ensures.keeps (not_true (is_in (key_put put) (map key_put rest)) apart.0) ready.1;
      apart = apart.1;
      rows = ap (λ (rows : ServerRows). with_puts rows rest) c.put_at.ensures.rows ∙ (ap (with_puts (tables_rows old)) (sym next) ∙ c.loop-put.invariant.rows);
    }
