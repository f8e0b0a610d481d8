use Rattle.std.proofs.Common.{◌≡◌, ◌++◌, drop, map}
use Rattle.melon_script.specs.Printed.{with_commas, given_row_text}
use Rattle.melon_script.proofs.printing.put_rows_with_commas.Given as goal

abbrev pub invariant-loop-row : goal.invariant-loop-row
invariant-loop-row l = l.out.items ++ with_commas (map given_row_text (drop l.row-index l.rows)) ≡ l.fn.out.items ++ with_commas (map given_row_text l.rows)
