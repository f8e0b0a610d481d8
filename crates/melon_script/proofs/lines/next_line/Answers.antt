use Rattle.std.proofs.Common.{◌∙◌, ◌∷◌, suc, drop, List, ℕ, ap, sym}
use Rattle.melon_script.specs.Lines.{lines_of}
use Rattle.melon_script.proofs.Splitting.{lines_at, lines_last, rest_after}
use Rattle.melon_script.proofs.lines.next_line.Goals as goal

pub returns-in-Some-clause-line : goal.returns-in-Some-clause-line
returns-in-Some-clause-line c =
    lines_at c.args.bytes.now c.in-Some.at c.in-Some.ensures.0 c.in-Some.ensures.1 c.in-Some.ensures.2
    ∙ ap (λ (line : List ℕ). line ∷ lines_of (drop (suc c.in-Some.at) c.args.bytes.now)) (sym c.without_return.ensures)
    ∙ ap (λ (rest : List ℕ). c.without_return.result.now ∷ lines_of rest) (sym (rest_after c.args.bytes.now c.in-Some.at))

pub returns-in-None-clause-line : goal.returns-in-None-clause-line
returns-in-None-clause-line c = lines_last c.args.bytes.now c.requires c.in-None.ensures
