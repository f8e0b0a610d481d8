use Rattle.std.proofs.Common.{◌≡◌, ◌++◌, drop, string_bytes}
use Rattle.melon_raw.specs.Encoding.{after_commas, mark_names, marks_text}
use Rattle.melon_raw.proofs.encoding.marks_text.Given as goal

-- the names that are left complete the text
abbrev pub invariant-loop-place : goal.invariant-loop-place
invariant-loop-place l = string_bytes l.text ++ after_commas (mark_names l.columns (drop l.place-index l.more)) ≡ marks_text l.columns l.marks
