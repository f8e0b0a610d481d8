use Rattle.std.proofs.Common.{◌≡◌, drop}
use Rattle.melon_pull.specs.Incoming.{declared_column}
use Rattle.melon_pull.proofs.refusal.declared_column.Given as goal

abbrev pub invariant-loop-column : goal.invariant-loop-column
invariant-loop-column l = declared_column (drop l.column-index l.columns) l.name ≡ declared_column l.columns l.name
