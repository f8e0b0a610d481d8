use Rattle.std.proofs.Common.{◌≡◌, ◌∙◌, ap, map, arith}
use Rattle.std.proofs.lemmas.List.{take_all}
use Rattle.std.proofs.lemmas.Result.{IfOk-weaker}
use Rattle.serde_json.specs.Data.{array, string}
use Rattle.serde_json.specs.View.{view, items_of}
use Rattle.serde_json.specs.Written.{has_float, compact_text}
use Rattle.serde_json.specs.declared.value.Value.{Array}
use Rattle.serde_json.proofs.Views.{view-Array}
use Rattle.melon_script.proofs.Texts.{no_float}
use Rattle.melon_script.proofs.printing.list_text.Goals as goal

pub returns : goal.returns
returns c =
    let shape : view (Array c.loop-id.items) ≡ array (items_of (map string c.args.ids.now)) =
    view-Array c.loop-id.items ∙ ap (λ ds. array (items_of ds)) (c.loop-id.invariant ∙ ap (map string) (take_all c.loop-id.id-index c.args.ids.now (omega arith))) in
    IfOk-weaker c.to_string.result _ _ (λ s h. h (ap has_float shape ∙ no_float c.args.ids.now) ∙ ap compact_text shape) c.to_string.ensures.text
