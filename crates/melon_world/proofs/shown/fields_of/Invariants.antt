use Rattle.std.proofs.Common.{◌≡◌, ◌++◌}
use Rattle.melon_machine.specs.Showing.{fields_of}
use Rattle.melon_world.proofs.shown.fields_of.Given as goal

-- the fields that are left complete the list
abbrev pub invariant-loop-place : goal.invariant-loop-place
invariant-loop-place l = l.fields ++ fields_of l.columns l.place-iterator.a.rest.now l.place-iterator.b.rest.now ≡ fields_of l.columns l.places l.cells
