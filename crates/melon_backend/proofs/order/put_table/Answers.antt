use Rattle.std.proofs.Common.{List, ℕ, ap, ◌∙◌, arith}
use Rattle.std.specs.List.{insert, prefix_len}
use Rattle.std.proofs.lemmas.List.Sums.{prefix_len-le-length}
use Rattle.melon_raw.specs.Order.{is_below}
use Rattle.melon_raw.specs.Rows.{table_at}
use Rattle.melon_backend.proofs.ByName.{insert-put}
use Rattle.melon_backend.proofs.order.put_table.Goals as goal

pub insert-requires : goal.insert-requires
insert-requires c = omega (arith, c.tables_before-at.ensures, prefix_len-le-length (λ d. is_below (table_at c.args.schema.now.tables d).name (table_at c.args.schema.now.tables c.args.table).name) c.as_slice.result.now, c.as_slice.ensures.len)

pub returns : goal.returns
returns c =
    let places = c.args.places.now.items in
    let name = λ (d : ℕ). (table_at c.args.schema.now.tables d).name in
    let at = c.tables_before-at.ensures ∙ ap (λ (ds : List ℕ). prefix_len (λ d. is_below (name d) (name c.args.table)) ds) c.as_slice.ensures.value in
    c.in_ok-insert.ensures.items ∙ (ap (λ (n : ℕ). insert places n c.args.table) at ∙ insert-put name c.args.table places)
