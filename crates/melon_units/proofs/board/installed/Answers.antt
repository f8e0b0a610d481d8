use Rattle.melon_board.proofs.KeptOn.{legal_over}
use Rattle.melon_units.proofs.board.installed.Goals as goal

pub install-requires : goal.install-requires
install-requires g c =
    legal_over c.args.store.now c.board.result.now.tables c.tables.result.now c.schema.result.now c.args.ops c.in_ok-set.set c.board.ensures.rows c.board.ensures.columns c.board.ensures.kept c.tables.ensures c.schema.ensures c.in_ok-set.ensures.batch
