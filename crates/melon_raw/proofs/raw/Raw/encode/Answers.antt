use Rattle.std.proofs.Common.{◌≡◌, ap, ◌∙◌, string_bytes}
use Rattle.serde_json.specs.Written.{compact_text, has_float}
use Rattle.melon_raw.specs.Encoding.{encoding}
use Rattle.melon_raw.proofs.Encoded.{no_float-row}
use Rattle.melon_raw.proofs.raw.Raw.encode.Goals as goal

pub returns-clause-bytes : goal.returns-clause-bytes
unfolding encoding
returns-clause-bytes c =
    let e = c.in_ok-json.ensures in
    let text : string_bytes c.in_ok-text.text ≡ encoding c.args.table.now c.args.self.now =
    c.in_ok-text.ensures.text (ap has_float e ∙ no_float-row c.args.table.now.columns c.args.self.now) ∙ ap compact_text e in
    rw c.into_bytes.ensures.value text
