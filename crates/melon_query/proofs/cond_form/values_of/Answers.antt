use Rattle.std.proofs.Common.{arith}
use Rattle.std.proofs.lemmas.Result.{err_from_is_err_and}
use Rattle.serde_json.specs.View.{view}
use Rattle.melon_schema.proofs.Each.{each_refused, each_done}
use Rattle.melon_raw.specs.Datum.{datum_of}
use Rattle.melon_query.proofs.cond_form.values_of.Goals as goal

pub returns-in_err-datum_of : goal.returns-in_err-datum_of
returns-in_err-datum_of c =
    let p = err_from_is_err_and c.from_residual.result c.from_residual.ensures.1 in
    rw (p.1, p.2) (each_refused datum_of view _ c.args.items.now c.loop-item.item-index c.item-item.result c.loop-item.values (omega arith) c.item-item.is c.in_err-datum_of.ensures c.loop-item.invariant)

pub returns : goal.returns
returns c = each_done datum_of view c.args.items.now c.loop-item.item-index c.loop-item.values (omega arith) c.loop-item.invariant
