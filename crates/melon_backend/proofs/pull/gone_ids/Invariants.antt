use Rattle.std.proofs.Common.{◌≡◌, ◌++◌, map, filter, drop}
use Rattle.melon_log.specs.Pulled.{is_gone}
use Rattle.melon_backend.specs.Pulling.{touched_row}
use Rattle.melon_backend.proofs.pull.gone_ids.Given as goal

abbrev pub invariant-loop-one : goal.invariant-loop-one
invariant-loop-one l = l.ids ++ map (λ r. r.id) (filter (is_gone l.t) (map touched_row (drop l.one-index l.found))) ≡ map (λ r. r.id) (filter (is_gone l.t) (map touched_row l.found))
