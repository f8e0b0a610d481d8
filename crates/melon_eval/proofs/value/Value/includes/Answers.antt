use Rattle.std.proofs.Common.{◌∙◌, ap, sym}
use Rattle.melon_query.specs.Truth.{includes}
use Rattle.melon_eval.specs.Seen.{datum_of}
use Rattle.melon_eval.specs.declared.value.Value.TheVariants.{Words}
use Rattle.melon_eval.proofs.Substrings.{contains_is}
use Rattle.melon_eval.proofs.value.Value.includes.Goals as goal

pub returns-in-Words-Words : goal.returns-in-Words-Words
returns-in-Words-Words c =
    contains_is c.contains.result c.in-Words-Words.part.now c.in-Words-Words.text.now c.contains.ensures.cases
    ∙ sym (ap (λ l. includes (datum_of l) (datum_of c.args.part)) c.in-Words-Words.is-0 ∙ ap (λ r. includes (datum_of (Words c.in-Words-Words.text)) (datum_of r)) c.in-Words-Words.is-1)
