use Rattle.std.proofs.Common.{◌≡◌, length, true}
use Rattle.melon_board.specs.Boards.{are_within}
use Rattle.melon_board.specs.Drafts.{no_draft, drafted}
use Rattle.melon_board.proofs.draft.draft_of.Given as goal

abbrev pub invariant-loop-change : goal.invariant-loop-change
invariant-loop-change l = record {
  within : are_within (length l.schema.tables) l.left ≡ true;
  done : drafted l.schema.tables l.draft l.left ≡ drafted l.schema.tables no_draft l.fn.changes;
}

abbrev pub decreases-loop-change : goal.decreases-loop-change
decreases-loop-change l = length l.left
