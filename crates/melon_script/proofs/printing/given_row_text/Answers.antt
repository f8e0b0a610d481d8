use Rattle.std.proofs.Common.{ap, ◌∙◌}
use Rattle.std.proofs.lemmas.Result.{IfOk-weaker}
use Rattle.serde_json.specs.Written.{has_float, compact_text}
use Rattle.melon_script.proofs.Texts.{no_float-row}
use Rattle.melon_script.proofs.printing.given_row_text.Goals as goal

pub returns : goal.returns
returns c = IfOk-weaker c.to_string.result _ _ (λ s h. h (ap has_float c.in_ok-json.ensures ∙ no_float-row c.args.row.now) ∙ ap compact_text c.in_ok-json.ensures) c.to_string.ensures.text
