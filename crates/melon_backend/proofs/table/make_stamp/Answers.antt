use Rattle.std.proofs.Common.{◌∙◌}
use Rattle.std.specs.BTreeMap.{is_at}
use Rattle.melon_backend.specs.Inside.{stamp_cmp, stamp_of, has_stamp}
use Rattle.melon_backend.proofs.Stamps.{either_true}
use Rattle.melon_backend.proofs.table.make_stamp.Goals as goal

pub returns-clause-keeps : goal.returns-clause-keeps
returns-clause-keeps c = λ q has. c.in_ok-insert.ensures.updates.0 (stamp_of q) ∙ either_true (is_at (stamp_cmp c.in_ok-stamp_of.field-0) (stamp_of q)) (has_stamp q c.args.stamps.now) has
