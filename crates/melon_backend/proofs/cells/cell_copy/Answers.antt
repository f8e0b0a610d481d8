use Rattle.std.proofs.Common.{sym}
use Rattle.std.proofs.lemmas.List.{get_or_past}
use Rattle.melon_raw.specs.declared.datum.Datum.TheVariants.{Null}
use Rattle.melon_backend.proofs.Lists.{past_end}
use Rattle.melon_backend.proofs.cells.cell_copy.Goals as goal

pub returns-in-None : goal.returns-in-None
returns-in-None c = sym (get_or_past c.args.row.now.cells c.args.c Null (past_end c.args.row.now.cells c.args.c (sym c.in-None.ensures.value)))
