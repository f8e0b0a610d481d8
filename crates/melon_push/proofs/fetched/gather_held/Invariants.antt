use Rattle.std.proofs.Common.{◌≡◌, ◌++◌, map, drop}
use Rattle.melon_push.specs.Fetching.{all_seen, held_collected}
use Rattle.melon_push.proofs.fetched.gather_held.Given as goal

abbrev pub invariant-loop-one : goal.invariant-loop-one
invariant-loop-one l = all_seen l.all.items ++ map held_collected (drop l.one-index l.held) ≡ all_seen l.fn.all.items ++ map held_collected l.fn.held
