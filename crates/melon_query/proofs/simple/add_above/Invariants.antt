use Rattle.std.proofs.Common.{◌≡◌, ◌++◌, drop, filter, nat_lt}
use Rattle.melon_query.proofs.simple.add_above.Given as goal

abbrev pub invariant-loop-one : goal.invariant-loop-one
invariant-loop-one l = l.all ++ filter (λ p. nat_lt l.place p) (drop l.one-index l.places) ≡ l.fn.all ++ filter (λ p. nat_lt l.place p) l.places
