use Rattle.std.proofs.Common.{List, ℕ, ap, ◌∙◌, arith}
use Rattle.std.specs.List.{insert, prefix_len}
use Rattle.std.proofs.lemmas.List.Sums.{prefix_len-le-length}
use Rattle.melon_raw.specs.Order.{is_below}
use Rattle.melon_wire.specs.declared.changes.TableChanges.{TableChanges}
use Rattle.melon_push.proofs.Named.{insert-put}
use Rattle.melon_push.proofs.ordering.put_table.Goals as goal

pub insert-requires : goal.insert-requires
insert-requires c = omega (arith, c.tables_before-at.ensures, prefix_len-le-length (λ t. is_below t.table c.as_str.result.now) c.as_slice.result.now, c.as_slice.ensures.len)

pub returns : goal.returns
returns c =
    let tables = c.args.tables.now.items in
    let name = λ (t : TableChanges). t.table in
    let at = c.tables_before-at.ensures
    ∙ (ap (λ (ts : List TableChanges). prefix_len (λ t. is_below t.table c.as_str.result.now) ts) c.as_slice.ensures.value ∙ ap (λ (n : List ℕ). prefix_len (λ t. is_below t.table n) tables) c.as_str.ensures) in
    c.in_ok-insert.ensures.items ∙ (ap (λ (n : ℕ). insert tables n c.args.sent) at ∙ insert-put name c.args.sent tables)
