use Rattle.std.proofs.Common.{◌≡◌, ap, ◌∙◌, string_bytes}
use Rattle.serde_json.specs.Written.{compact_text, has_float}
use Rattle.melon_backend.specs.Bodies.{body}
use Rattle.melon_backend.proofs.Back.{body_float}
use Rattle.melon_backend.proofs.body.body_of.Goals as goal

pub returns : goal.returns
unfolding body
returns c =
    let e = c.in_ok-json.ensures in
    let text : string_bytes c.in_ok-text.text ≡ body c.args.table.now c.args.row.now = c.in_ok-text.ensures.text (ap has_float e ∙ body_float c.args.table.now.columns c.args.row.now) ∙ ap compact_text e in
    rw c.into_bytes.ensures.value text
