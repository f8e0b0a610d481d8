use Rattle.std.proofs.Common.{◌≡◌, drop}
use Rattle.melon_log.specs.Verdict.{unless_one, unknown}
use Rattle.melon_backend.proofs.refusal.refuse_unknown.Given as goal

abbrev pub invariant-loop-told : goal.invariant-loop-told
invariant-loop-told l = unless_one (unknown l.schema.tables) (drop l.told-index l.changes.tables) ≡ unless_one (unknown l.schema.tables) l.changes.tables
