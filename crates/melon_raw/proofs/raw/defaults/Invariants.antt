use Rattle.std.proofs.Common.{◌≡◌, map, take}
use Rattle.melon_raw.specs.declared.datum.Datum.TheVariants.{Null}
use Rattle.melon_raw.specs.Datum.{fit}
use Rattle.melon_raw.proofs.raw.defaults.Given as goal

abbrev pub invariant-loop-column : goal.invariant-loop-column
invariant-loop-column l = l.cells.items ≡ map (λ column. fit column Null) (take l.column-index l.columns)
