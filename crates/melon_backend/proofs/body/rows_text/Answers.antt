use Rattle.std.proofs.Common.{◌≡◌, ap, ◌∙◌, string_bytes}
use Rattle.serde_json.specs.Written.{compact_text, has_float}
use Rattle.melon_backend.specs.Bodies.{rows_text}
use Rattle.melon_backend.specs.Inside.{rows_in}
use Rattle.melon_backend.proofs.Back.{rows_float}
use Rattle.melon_backend.proofs.body.rows_text.Goals as goal

pub returns : goal.returns
unfolding rows_text
returns c =
    let e = c.in_ok-json.ensures in
    let text : string_bytes c.in_ok-text.text ≡ rows_text c.args.table.now (rows_in c.args.rows.now) = c.in_ok-text.ensures.text (ap has_float e ∙ rows_float c.args.table.now.columns (rows_in c.args.rows.now)) ∙ ap compact_text e in
    rw c.into_bytes.ensures.value text
