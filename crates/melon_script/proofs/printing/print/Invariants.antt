use Rattle.std.proofs.Common.{◌≡◌, ◌++◌, drop}
use Rattle.melon_script.specs.Printed.{answer_text}
use Rattle.melon_script.proofs.printing.print.Given as goal

abbrev pub invariant-loop-item : goal.invariant-loop-item
invariant-loop-item l = l.out.items ++ answer_text (drop l.item-index l.answer) ≡ answer_text l.answer
