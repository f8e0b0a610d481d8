use Rattle.std.proofs.Common.{reverse, ap, ◌∙◌}
use Rattle.melon_observe.specs.Members.{is_ascending, below, above}
use Rattle.melon_observe.proofs.Gap.{ascending_behind, parted_below, parted_above}
use Rattle.melon_observe.proofs.members.part_at.Goals as goal

pub drop_same-requires-clause-ascending : goal.drop_same-requires-clause-ascending
drop_same-requires-clause-ascending c =
    ascending_behind c.move_up.new.before.items (reverse c.move_up.new.behind.items) (ap is_ascending (c.move_up.ensures.whole ∙ c.move_down.ensures.whole) ∙ c.requires.ascending)

pub returns-clause-below : goal.returns-clause-below
returns-clause-below c =
    parted_below c.args.id.now c.move_up.new.before.items (reverse c.move_up.new.behind.items) c.move_up.ensures.below c.move_up.ensures.not_below ∙ ap (below c.args.id.now) (c.move_up.ensures.whole ∙ c.move_down.ensures.whole)

pub returns-clause-above : goal.returns-clause-above
returns-clause-above c =
    c.drop_same.ensures.above
    ∙ (parted_above c.args.id.now c.move_up.new.before.items (reverse c.move_up.new.behind.items) c.move_up.ensures.below ∙ ap (above c.args.id.now) (c.move_up.ensures.whole ∙ c.move_down.ensures.whole))
