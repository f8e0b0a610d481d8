use Rattle.std.proofs.Common.{refl, ap, ◌∙◌}
use Rattle.melon_backend.specs.Rows.{put_row}
use Rattle.melon_backend.proofs.Lent.{put_rows}
use Rattle.melon_backend.proofs.opening.put_now.Goals as goal

pub returns-clause-rows : goal.returns-clause-rows
returns-clause-rows c = put_rows c.args.tables.now.items c.args.put.table c.index_mut-place.result.now c.put.new.self c.requires.within c.index_mut-place.ensures.value c.args.put refl (c.put.ensures.shown ∙ ap (put_row c.args.put.row) c.ready.ensures.shown)
