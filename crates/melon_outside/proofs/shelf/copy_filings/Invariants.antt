use Rattle.std.proofs.Common.{◌≡◌, map, take}
use Rattle.melon_outside.specs.Shelved.{row_of}
use Rattle.melon_outside.proofs.shelf.copy_filings.Given as goal

abbrev pub invariant-loop-row : goal.invariant-loop-row
invariant-loop-row l = map row_of l.filings.items ≡ take l.row-index l.rows
