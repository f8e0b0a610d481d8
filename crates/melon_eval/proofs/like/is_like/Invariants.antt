use denote.Text.{Utf8}
use denote.Shadow.{shadow}
use Rattle.std.proofs.Common.{◌≡◌, length}
use Rattle.std.specs.Str.{chars}
use Rattle.melon_query.specs.Like.{meets, some_end}
use Rattle.melon_eval.proofs.like.is_like.Given as goal

abbrev pub invariant-loop-piece : goal.invariant-loop-piece
invariant-loop-piece l = shadow (Utf8 l.left) × shadow (Utf8 l.rest) × (some_end (meets (chars l.left)) (chars l.rest) ≡ meets (chars l.fn.pattern) (chars l.fn.text))

abbrev pub decreases-loop-piece : goal.decreases-loop-piece
decreases-loop-piece l = length (chars l.left)
