use Rattle.std.proofs.Common.{◌≡◌, map, take}
use Rattle.melon_push.proofs.sending.ids_sent.Given as goal

abbrev pub invariant-loop-one : goal.invariant-loop-one
invariant-loop-one l = l.ids ≡ map (λ g. g.id) (take l.one-index l.gone)
