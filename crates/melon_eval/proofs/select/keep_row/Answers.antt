use Rattle.std.proofs.Common.{Bor, List, take, ap, sym, ◌∙◌}
use Rattle.std.specs.List.{insert}
use Rattle.melon_raw.specs.declared.raw.Raw.{Raw}
use Rattle.melon_eval.specs.Seen.{rows_at}
use Rattle.melon_eval.proofs.Selecting.{behind, sorted_so, kept_with}
use Rattle.melon_eval.proofs.select.keep_row.Goals as goal

pub returns-then-is_behind : goal.returns-then-is_behind
returns-then-is_behind c = λ later is.
    let same = ap rows_at c.as_slice.ensures.value in
    sym same ∙ behind c.args.keys.now c.args.most c.as_slice.result.now c.args.row later (same ∙ is) (sym c.if-is_behind.ensures)

pub returns : goal.returns
returns c = λ later is.
    let kept = c.as_slice-2.result.now in
    let place = c.place_of-place.result in
    let is_now = ap rows_at c.as_slice-2.ensures.value ∙ is in
    let point = c.place_of-place.ensures.place (sorted_so c.args.keys.now c.args.most kept c.args.row later is_now) in
    ap rows_at (c.truncate.ensures.items ∙ ap (take c.args.most) (c.in_ok-insert.ensures.items ∙ ap (λ (l : List (Bor Raw)). insert l place c.args.row) (sym c.as_slice-2.ensures.value)))
    ∙ kept_with c.args.keys.now c.args.most kept c.args.row later is_now place c.place_of-place.ensures.within point
