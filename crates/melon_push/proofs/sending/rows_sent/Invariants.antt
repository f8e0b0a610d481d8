use Rattle.std.proofs.Common.{◌≡◌, map, take}
use Rattle.melon_push.specs.Fetching.{remote_by}
use Rattle.melon_push.proofs.sending.rows_sent.Given as goal

abbrev pub invariant-loop-one : goal.invariant-loop-one
invariant-loop-one l = l.rows ≡ map (λ h. remote_by l.columns l.order h.row) (take l.one-index l.held)
