use Rattle.std.proofs.Common.{◌∙◌, ap, sym, refl}
use Rattle.std.proofs.lemmas.Str.{is_utf8-from_IsUtf8}
use Rattle.serde_json.specs.Read.{read}
use Rattle.melon_schema.specs.Bytes.{json_of}
use Rattle.melon_schema.proofs.Utf8.{not_utf8}
use Rattle.melon_schema.proofs.reader.json_of.Goals as goal

pub returns-in-Err : goal.returns-in-Err
unfolding json_of
returns-in-Err c = rw (not_utf8 c.args.bytes.now c.in-Err.ensures.cases.0) refl

pub returns-in-Ok-from_str : goal.returns-in-Ok-from_str
unfolding json_of
returns-in-Ok-from_str c = rw (is_utf8-from_IsUtf8 c.args.bytes.now c.in-Ok.ensures.cases.1) (ap read (sym c.in-Ok.ensures.cases.0) ∙ c.in-Ok-from_str.ensures.ok)
