use Rattle.std.proofs.Common.{◌<◌, length, ap, ◌∙◌, sym, arith}
use Rattle.std.proofs.lemmas.Result.{IfOk-weaker}
use Rattle.melon_raw.proofs.Fitted.{length-cells}
use Rattle.melon_wire.specs.Resolution.{value_in}
use Rattle.melon_pull.proofs.Resolving.{marked_cell, lacking_cell}
use Rattle.melon_pull.proofs.resolution.resolved_cell.Goals as goal

pub bounds-as_slice-c : goal.bounds-as_slice-c
bounds-as_slice-c c = omega (arith, ap length c.as_slice.ensures, length-cells c.args.columns.now c.args.local.now c.requires.fits, c.requires.within)

pub returns-then-has : goal.returns-then-has
returns-then-has c =
    let within : c.args.c < length c.as_slice.result.now = omega (arith, ap length c.as_slice.ensures, length-cells c.args.columns.now c.args.local.now c.requires.fits, c.requires.within) in
    IfOk-weaker c.copy.result _ _ (λ d e. e ∙ marked_cell c.args.columns.now c.args.local.now c.args.fields.now c.args.c c.as_slice.result.now c.index-as_slice-c.result c.as_slice.ensures within c.index-as_slice-c.is (sym c.has.ensures ∙ c.if-has.true)) c.copy.ensures

pub returns-in-None : goal.returns-in-None
returns-in-None c =
    let within : c.args.c < length c.as_slice.result.now = omega (arith, ap length c.as_slice.ensures, length-cells c.args.columns.now c.args.local.now c.requires.fits, c.requires.within) in
    IfOk-weaker c.copy-in-None.result _ _
    (λ d e. e ∙ lacking_cell c.args.columns.now c.args.local.now c.args.fields.now c.args.c c.as_slice.result.now c.index-as_slice-c.result c.index-columns-c.result c.as_slice.ensures within c.index-as_slice-c.is (sym c.has.ensures ∙ c.if-has.false) c.index-columns-c.is c.requires.within
    (ap (value_in c.args.fields.now) (sym c.as_str.ensures) ∙ sym c.in-None.ensures)) c.copy-in-None.ensures
