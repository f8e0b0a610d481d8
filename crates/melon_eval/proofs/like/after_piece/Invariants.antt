use denote.Text.{Utf8}
use denote.Shadow.{shadow}
use Rattle.std.proofs.Common.{◌≡◌, length}
use Rattle.std.specs.Str.{chars}
use Rattle.melon_eval.specs.Pieces.{after_piece}
use Rattle.melon_eval.proofs.like.after_piece.Given as goal

abbrev pub invariant-loop-wanted : goal.invariant-loop-wanted
invariant-loop-wanted l = shadow (Utf8 l.piece) × shadow (Utf8 l.text) × (after_piece (chars l.piece) (chars l.text) ≡ after_piece (chars l.fn.piece) (chars l.fn.text))

abbrev pub decreases-loop-wanted : goal.decreases-loop-wanted
decreases-loop-wanted l = length (chars l.piece)
