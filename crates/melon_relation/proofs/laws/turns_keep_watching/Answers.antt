use Rattle.melon_relation.proofs.Histories.{turns_are_given, second_turns, turns_keep}
use Rattle.melon_relation.proofs.laws.turns_keep_watching.Goals as goal

pub returns-clause-given : goal.returns-clause-given
returns-clause-given c = turns_are_given

pub returns-clause-second : goal.returns-clause-second
returns-clause-second c = second_turns

pub returns-clause-standing : goal.returns-clause-standing
returns-clause-standing c = turns_keep
