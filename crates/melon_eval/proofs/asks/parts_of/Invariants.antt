use Rattle.std.proofs.Common.{take}
use Rattle.melon_eval.specs.Parts.{AreParts}
use Rattle.melon_eval.proofs.asks.parts_of.Given as goal

abbrev pub invariant-loop-cond : goal.invariant-loop-cond
invariant-loop-cond l = AreParts (take l.cond-index l.conds) l.parts
