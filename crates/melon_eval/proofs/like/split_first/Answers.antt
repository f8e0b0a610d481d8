use Rattle.std.proofs.Common.{◌∷◌, ap, sym, ◌∙◌}
use Rattle.std.specs.Str.{chars}
use Rattle.std.proofs.lemmas.Str.{chars_past_char}
use Rattle.melon_eval.proofs.Texts.{no_chars}
use Rattle.melon_eval.proofs.like.split_first.Goals as goal

pub returns-in-Some : goal.returns-in-Some
returns-in-Some c =
    chars_past_char c.args.text.now c.next.new.self.rest.now c.in-Some.first c.utf8.text (sym c.chars-rest.ensures.rest ∙ c.in-Some.ensures.steps.0)
    ∙ ap (λ l. c.in-Some.first ∷ chars l) (sym c.as_str.ensures)

pub returns-in-None : goal.returns-in-None
returns-in-None c = ap chars (sym c.chars-rest.ensures.rest) ∙ no_chars c.chars-rest.result.rest.now c.in-None.ensures.steps.0.0
