use Rattle.std.proofs.Common.{◌≡◌, ◌++◌, drop}
use Rattle.melon_script.specs.Printed.{with_commas}
use Rattle.melon_script.proofs.printing.put_with_commas.Given as goal

abbrev pub invariant-loop-row : goal.invariant-loop-row
invariant-loop-row l = l.out.items ++ with_commas (drop l.row-index l.rows) ≡ l.fn.out.items ++ with_commas l.rows
