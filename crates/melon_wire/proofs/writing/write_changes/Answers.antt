use Rattle.std.proofs.Common.{◌≡◌, ap, subst, ◌∙◌, string_bytes}
use Rattle.std.specs.Str.{IsUtf8}
use Rattle.serde_json.specs.Written.{compact_text, has_float}
use Rattle.melon_wire.specs.Writing.{changes_text}
use Rattle.melon_wire.proofs.WireBack.{changes_float, changes_read}
use Rattle.melon_wire.proofs.writing.write_changes.Goals as goal

pub returns-clause-text : goal.returns-clause-text
unfolding changes_text
returns-clause-text c =
    let e = c.in_ok-json.ensures in
    let text : string_bytes c.in_ok-text.text ≡ changes_text c.args.changes.now =
    c.in_ok-text.ensures.text (ap has_float e ∙ changes_float c.args.changes.now) ∙ ap compact_text e in
    rw c.into_bytes.ensures.value text

pub returns-clause-reads_back : goal.returns-clause-reads_back
returns-clause-reads_back c =
    let utf8 : IsUtf8 c.into_bytes.result.items = rw c.into_bytes.ensures.value (subst IsUtf8 c.as_str-utf8.ensures.value c.as_str-utf8.utf8) in
    changes_read c.args.changes.now c.into_bytes.result.items utf8 (returns-clause-text c)
