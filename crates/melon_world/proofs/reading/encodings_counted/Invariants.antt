use Rattle.std.proofs.Common.{◌≡◌, ◌++◌, drop, map}
use Rattle.melon_raw.specs.Encoding.{encoding}
use Rattle.melon_world.proofs.reading.encodings_counted.Given as goal

abbrev pub invariant-loop-place : goal.invariant-loop-place
invariant-loop-place g l = l.bodies ++ map (encoding l.declared) (drop l.place l.table.rows) ≡ map (encoding l.declared) l.table.rows
