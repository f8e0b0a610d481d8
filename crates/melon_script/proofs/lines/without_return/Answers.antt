use Rattle.std.proofs.Common.{◌≡◌, ◌∷◌, ◌++◌, ◌∙◌, [], true, false, cond, nat_eq, sym, ap, arith}
use Rattle.std.proofs.lemmas.Grind.{common_steps}
use Rattle.melon_script.specs.Lines.{without_return}
use Rattle.melon_script.proofs.Splitting.{without_return-last}
use Rattle.melon_script.proofs.lines.without_return.Goals as goal

pub returns-then-last-eq13 : goal.returns-then-last-eq13
returns-then-last-eq13 c =
    let is : nat_eq c.in-Some.last.now 13 ≡ true = grind (arith, common_steps) in
    sym (ap without_return c.in-Some.ensures.cases.0 ∙ without_return-last c.in-Some.front.now c.in-Some.last.now ∙ ap (λ b. cond b c.in-Some.front.now (c.in-Some.front.now ++ c.in-Some.last.now ∷ [])) is)

pub returns-else-last-eq13 : goal.returns-else-last-eq13
returns-else-last-eq13 c =
    let is : nat_eq c.in-Some.last.now 13 ≡ false = grind (arith, common_steps) in
    c.in-Some.ensures.cases.0 ∙ sym (ap without_return c.in-Some.ensures.cases.0 ∙ without_return-last c.in-Some.front.now c.in-Some.last.now ∙ ap (λ b. cond b c.in-Some.front.now (c.in-Some.front.now ++ c.in-Some.last.now ∷ [])) is)
