use Rattle.std.proofs.Common.{◌∷◌, [], ◌++◌, ap, ◌∙◌, arith}
use Rattle.melon_observe.specs.Patches.{patches_of}
use Rattle.melon_observe.proofs.Patched.{patches_more}
use Rattle.melon_observe.proofs.patching.collect_patches.Goals as goal

pub loop-change-preserved : goal.loop-change-preserved
loop-change-preserved c =
    let q = c.args.query.now in
    let columns = c.args.columns.now in
    let change = c.change-item.result in
    c.in_ok-add_patch.ensures
    ∙ (ap (λ ps. ps ++ patches_of q columns (change ∷ [])) c.loop-change.invariant
    ∙ patches_more q columns c.args.changes.now c.loop-change.change-index change (omega arith) c.change-item.is)
