use Rattle.std.proofs.Common.{arith}
use Rattle.serde_json.specs.View.{view}
use Rattle.std.proofs.lemmas.Result.{err_from_is_err_and}
use Rattle.melon_schema.proofs.Each.{each_refused, each_done}
use Rattle.melon_schema.proofs.reader.read_each.Goals as goal

pub returns-in_err-from_json : goal.returns-in_err-from_json
returns-in_err-from_json g c =
    let p = err_from_is_err_and c.from_residual.result c.from_residual.ensures.1 in
    rw (p.1, p.2) (each_refused g.T.FromJson.form view _ c.args.items.now c.loop-item.item-index c.item-item.result c.loop-item.read (omega arith) c.item-item.is c.in_err-from_json.ensures c.loop-item.invariant)

pub returns : goal.returns
returns g c = each_done g.T.FromJson.form view c.args.items.now c.loop-item.item-index c.loop-item.read (omega arith) c.loop-item.invariant
