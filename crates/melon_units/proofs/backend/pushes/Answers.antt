use Rattle.melon_units.proofs.backend.pushes.Goals as goal

pub push-answer-requires : goal.push-answer-requires
push-answer-requires c = c.read_changes_can_be_pushed.ensures _ _ c.in_ok-changes.ensures.changes
