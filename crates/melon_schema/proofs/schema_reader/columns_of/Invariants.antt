use Rattle.std.proofs.Common.{◌≡◌, []}
use Rattle.std.specs.Vec.Iter.{into_iter_items}
use Rattle.melon_schema.specs.Faults.{in_turn}
use Rattle.melon_schema.specs.Schema.{with_column}
use Rattle.melon_schema.proofs.schema_reader.columns_of.Given as goal

-- what is left is still to be added
abbrev pub invariant-loop-form : goal.invariant-loop-form
invariant-loop-form l = in_turn with_column l.columns (into_iter_items l.form-iterator) ≡ in_turn with_column [] l.fn.forms
