use Rattle.std.proofs.Common.{◌∙◌}
use Rattle.melon_raw.specs.Encoding.{encoding}
use Rattle.melon_world.proofs.Dropped.{map_more}
use Rattle.melon_world.proofs.reading.encodings_counted.Goals as goal

pub loop-place-preserved : goal.loop-place-preserved
loop-place-preserved g c =
    map_more (encoding c.args.declared.now) c.args.table.now.rows c.loop-place.place c.row-row.result.now c.loop-place.bodies c.push.new.self c.from_vec.result _ c.row-row.ensures.row (c.from_vec.ensures ∙ c.in_ok-encode.ensures.bytes) c.in_ok-push.ensures.ok c.loop-place.invariant
