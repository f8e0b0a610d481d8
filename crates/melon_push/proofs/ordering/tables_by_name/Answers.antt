use Rattle.std.proofs.Common.{List, [], ◌∷◌, ◌++◌, sym, ap, ◌∙◌, append-nil, append_assoc}
use Rattle.melon_wire.specs.declared.changes.TableChanges.{TableChanges}
use Rattle.melon_wire.specs.Sent.{put_by_name, by_name}
use Rattle.melon_push.proofs.ordering.tables_by_name.Goals as goal

pub loop-sent-init : goal.loop-sent-init
loop-sent-init c = ([], sym (append-nil _), c.in_ok-sorted.ensures.items)

pub loop-sent-preserved : goal.loop-sent-preserved
loop-sent-preserved c =
    let done : List TableChanges = c.loop-sent.invariant.0 in
    let sent : TableChanges = c.in-Some.sent in (
      sent ∷ done,
      c.loop-sent.invariant.1 ∙ (ap (λ front. front ++ done) c.in-Some.ensures.items ∙ append_assoc c.pop.new.self.items (sent ∷ []) done),
      c.in_ok-put_table.ensures ∙ ap (put_by_name (λ t. t.table) sent) c.loop-sent.invariant.2,
    )
