use Rattle.std.proofs.Common.{sym, ◌∙◌}
use Rattle.sqlite.specs.Held.{state}
use Rattle.melon_sqlite.proofs.Opened.{renewed_idle}
use Rattle.melon_sqlite.proofs.opening.tested.Goals as goal

pub returns-in-Ok-clause-knows : goal.returns-in-Ok-clause-knows
returns-in-Ok-clause-knows g c tells =
    renewed_idle (state g.S.Store c.args.connection) (state g.S.Store c.in-Ok.conn) (c.in-Ok.ensures.renewed tells.clean) (sym c.schema.ensures.value ∙ c.is_kept-fits.ensures.0 tells.fits_now)
