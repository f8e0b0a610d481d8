use Rattle.std.proofs.Common.{List, ℕ, ap, ◌∙◌, arith}
use Rattle.std.specs.List.{insert, prefix_len}
use Rattle.std.proofs.lemmas.List.Sums.{prefix_len-le-length}
use Rattle.melon_raw.specs.Order.{is_below}
use Rattle.melon_raw.specs.Rows.{column_at}
use Rattle.melon_backend.proofs.ByName.{insert-put}
use Rattle.melon_backend.proofs.order.put_column.Goals as goal

pub insert-requires : goal.insert-requires
insert-requires c = omega (arith, c.columns_before-at.ensures, prefix_len-le-length (λ d. is_below (column_at c.args.columns.now d).name (column_at c.args.columns.now c.args.c).name) c.as_slice.result.now, c.as_slice.ensures.len)

pub returns : goal.returns
returns c =
    let places = c.args.places.now.items in
    let name = λ (d : ℕ). (column_at c.args.columns.now d).name in
    let at = c.columns_before-at.ensures ∙ ap (λ (ds : List ℕ). prefix_len (λ d. is_below (name d) (name c.args.c)) ds) c.as_slice.ensures.value in
    c.in_ok-insert.ensures.items ∙ (ap (λ (n : ℕ). insert places n c.args.c) at ∙ insert-put name c.args.c places)
