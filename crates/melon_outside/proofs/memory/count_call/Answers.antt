use Rattle.std.proofs.Common.{nat_eq, ap, ◌∙◌}
use Rattle.std.specs.List.{list_any}
use Rattle.melon_outside.specs.Memory.{fails_later}
use Rattle.melon_outside.proofs.Keepers.{none_now, none_then}
use Rattle.melon_outside.proofs.memory.count_call.Goals as goal

pub returns-clause-never : goal.returns-clause-never
returns-clause-never c = λ h. c.contains.ensures.value ∙ ap (λ n. list_any (λ y. nat_eq y n) c.args.fails.now) c.saturating_add.ensures ∙ none_now c.args.fails.now c.args.call.now h

pub returns-clause-none_later : goal.returns-clause-none_later
returns-clause-none_later c = λ h. ap (fails_later c.args.fails.now) c.saturating_add.ensures ∙ none_then c.args.fails.now c.args.call.now h
