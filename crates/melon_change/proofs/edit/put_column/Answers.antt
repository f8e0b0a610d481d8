use Rattle.std.proofs.Common.{◌≡◌, ◌≤◌, List, ℕ, length, sym, ap, ◌∙◌, arith}
use Rattle.std.specs.List.{insert, prefix_len}
use Rattle.melon_raw.specs.Order.{is_below}
use Rattle.melon_change.specs.Edited.{name_at, put_column}
use Rattle.melon_change.proofs.ByName.{prefix_len-le, insert-put_column}
use Rattle.melon_change.proofs.edit.put_column.Goals as goal

pub insert-requires : goal.insert-requires
insert-requires c = omega (arith, c.count_before-at.ensures, prefix_len-le (λ d. is_below (name_at c.args.columns.now d) (name_at c.args.columns.now c.args.c)) c.as_slice.result.now, c.as_slice.ensures.len)

pub returns : goal.returns
returns c =
    let places = c.args.places.now.items in
    let at = c.count_before-at.ensures ∙ ap (λ (ds : List ℕ). prefix_len (λ d. is_below (name_at c.args.columns.now d) (name_at c.args.columns.now c.args.c)) ds) c.as_slice.ensures.value in
    c.in_ok-insert.ensures.items ∙ (ap (λ (n : ℕ). insert places n c.args.c) at ∙ insert-put_column c.args.columns.now c.args.c places)
