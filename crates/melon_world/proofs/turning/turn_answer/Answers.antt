use Rattle.std.proofs.Common.{ap, ◌∙◌}
use Rattle.std.proofs.lemmas.Result.{IfOk-weaker}
use Rattle.std.specs.List.{list_any}
use Rattle.melon_machine.specs.Refusals.{is_of_keeper}
use Rattle.melon_world.proofs.Turns.{quiet_turns}
use Rattle.melon_world.proofs.turning.turn_answer.Goals as goal

pub returns-clause-quiet : goal.returns-clause-quiet
returns-clause-quiet g c = IfOk-weaker c.answer_turns.result _ _ (λ items is. ap (list_any is_of_keeper) is ∙ quiet_turns c.schema.result.now.tables c.args.app.now c.args.name.now c.turn_until_still.new.observer.query c.turn_until_still.new.observer.shape c.in_ok-turns.turns.items) c.answer_turns.ensures
