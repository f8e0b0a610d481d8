use Rattle.std.proofs.Common.{◌==◌, arith}
use Rattle.std.proofs.lemmas.List.Sums.{prefix_len-le-length}
use Rattle.melon_push.proofs.runs.split_run.Goals as goal

pub split_at-requires : goal.split_at-requires
split_at-requires c = omega (arith, c.held_run.ensures, prefix_len-le-length (λ h. h.table == c.args.table) c.args.runs.created.now)

pub split_at-requires-2 : goal.split_at-requires-2
split_at-requires-2 c = omega (arith, c.held_run-2.ensures, prefix_len-le-length (λ h. h.table == c.args.table) c.args.runs.updated.now)

pub split_at-requires-3 : goal.split_at-requires-3
split_at-requires-3 c = omega (arith, c.gone_run.ensures, prefix_len-le-length (λ g. g.table == c.args.table) c.args.runs.deleted.now)
