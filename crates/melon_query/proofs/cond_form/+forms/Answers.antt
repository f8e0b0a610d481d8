use Rattle.std.proofs.Common.{◌≡◌, ◌+◌, ◌≤◌, map, sym, ap, ◌∙◌, Some, option_map, arith}
use Rattle.std.proofs.lemmas.Result.{err_from_is_err_and}
use Rattle.serde_json.specs.Data.{depth}
use Rattle.serde_json.specs.View.{view}
use Rattle.melon_schema.proofs.Each.{each_refused, each_done}
use Rattle.melon_query.specs.QueryForm.{cond_form}
use Rattle.melon_query.proofs.Forms.{list_depth, under_depth, item_depth}
use Rattle.melon_query.proofs.cond_form.+forms.Goals as goal

pub conds_at-conds_of-requires : goal.conds_at-conds_of-requires
conds_at-conds_of-requires t c =
    let below : 2 + list_depth (map view c.in-Some-items_of.items.now) ≤ depth (view c.args.json.now) = under_depth (view c.args.json.now) (view c.in-Some.value.now) c.args.key.now (map view c.in-Some-items_of.items.now) (sym c.in-Some.ensures) (sym c.in-Some-items_of.ensures) in
    (omega (arith, below), tt)

pub conds_of-cond_form-requires : goal.conds_of-cond_form-requires
conds_of-cond_form-requires t c =
    let below : depth (view c.item-item.result) ≤ list_depth (map view c.args.items.now) = item_depth c.args.items.now c.loop-item.item-index c.item-item.result (omega arith) c.item-item.is in
    (omega (arith, below), tt)

pub conds_of-returns-in_err-cond_form : goal.conds_of-returns-in_err-cond_form
conds_of-returns-in_err-cond_form t c =
    let p = err_from_is_err_and c.from_residual.result c.from_residual.ensures.1 in
    rw (p.1, p.2) (each_refused (λ d. cond_form d c.args.may) view _ c.args.items.now c.loop-item.item-index c.item-item.result c.loop-item.conds (omega arith) c.item-item.is c.in_err-cond_form.ensures c.loop-item.invariant)

pub conds_of-returns : goal.conds_of-returns
conds_of-returns t c = each_done (λ d. cond_form d c.args.may) view c.args.items.now c.loop-item.item-index c.loop-item.conds (omega arith) c.loop-item.invariant
