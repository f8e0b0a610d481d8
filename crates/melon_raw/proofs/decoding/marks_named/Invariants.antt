use denote.Shadow.{shadow}
use denote.Text.{Utf8}
use Rattle.std.proofs.Common.{◌≡◌, [], length}
use Rattle.melon_raw.specs.Decoding.{pieces, marks_named}
use Rattle.melon_raw.proofs.decoding.marks_named.Given as goal

-- the pieces that are left complete the marks
abbrev pub invariant-loop-name : goal.invariant-loop-name
invariant-loop-name l = (marks_named l.table.columns l.marks (pieces l.left) ≡ marks_named l.table.columns [] (pieces l.text)) × shadow (Utf8 l.left)

abbrev pub decreases-loop-name : goal.decreases-loop-name
decreases-loop-name l = length l.left
