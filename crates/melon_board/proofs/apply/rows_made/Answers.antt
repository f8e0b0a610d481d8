use Rattle.std.proofs.Common.{◌≡◌, ◌+◌, List, ◌∷◌, [], ◌++◌, take, sym, ap, ◌∙◌, arith}
use Rattle.std.proofs.lemmas.List.{take_more}
use Rattle.melon_change.specs.declared.change.Change.{Change}
use Rattle.melon_board.specs.Boards.{rows_made}
use Rattle.melon_board.proofs.Roomed.{made_more}
use Rattle.melon_board.proofs.apply.rows_made.Goals as goal

pub loop-change-preserved : goal.loop-change-preserved
loop-change-preserved c =
    let t = c.args.table in
    let cs = c.args.changes.now in
    let i = c.loop-change.change-index in
    let change = c.change-item.result in
    let front : take (i + 1) cs ≡ take i cs ++ change ∷ [] = take_more cs i change c.loop-change-test.true ∙ ap (λ (d : Change). take i cs ++ d ∷ []) (sym c.change-item.is) in
    let more = made_more t (take i cs) change in
    let whole = ap (rows_made t) front in
    (omega (arith, c.loop-change.invariant.0, c.used_in-made.ensures.used, more, whole), omega (arith, c.loop-change.invariant.1, c.used_in-made.ensures.one))
