use Rattle.std.proofs.Common.{List, sym, subst}
use Rattle.std.specs.Option.{option_copied}
use Rattle.std.proofs.lemmas.Result.{IfOk-weaker}
use Rattle.melon_schema.specs.declared.schema.ColumnSchema.{ColumnSchema}
use Rattle.melon_change.specs.History.{FitsIfAny}
use Rattle.melon_change.proofs.Founded.{columns_declared}
use Rattle.melon_wire.specs.Keys.{key_at}
use Rattle.melon_pull.specs.Listing.{row_after}
use Rattle.melon_pull.proofs.Seen.{before_fits, fits_copied}
use Rattle.melon_pull.proofs.applying.change_told.Goals as goal

pub returns-clause-fits : goal.returns-clause-fits
returns-clause-fits c =
    let one = c.args.one.now in
    let schema = c.args.schema.now.tables in
    let before = option_copied c.row_at-before.result in
    let fits = fits_copied _ c.row_at-before.result c.row_at-before.ensures.fits in
    let same = columns_declared c.args.tables.now schema one.table c.requires.declared c.requires.within in
    IfOk-weaker c.change_between.result _ _ (λ change is. before_fits schema (key_at one.table one.id.now) before (row_after c.in_ok-fate.fate before) change is (subst (λ (ks : List ColumnSchema). FitsIfAny ks before) same fits)) c.change_between.ensures
