use Rattle.std.proofs.Common.{◌≡◌, ◌++◌, map, drop}
use Rattle.melon_push.specs.Fetching.{all_seen, gone_collected}
use Rattle.melon_push.proofs.fetched.gather_gone.Given as goal

abbrev pub invariant-loop-one : goal.invariant-loop-one
invariant-loop-one l = all_seen l.all.items ++ map gone_collected (drop l.one-index l.gone) ≡ all_seen l.fn.all.items ++ map gone_collected l.fn.gone
