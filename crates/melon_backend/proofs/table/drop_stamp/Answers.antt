use Rattle.std.proofs.Common.{eqb, ◌∙◌, arith}
use Rattle.std.proofs.lemmas.Bool.{false_from_ne_true}
use Rattle.std.proofs.lemmas.Bool.Decides.{Decides-eqb}
use Rattle.melon_log.specs.ServerRows.{greatest}
use Rattle.melon_backend.specs.Inside.{stamp_of}
use Rattle.melon_backend.proofs.Stamps.{other_id, other_revision}
use Rattle.melon_backend.proofs.table.drop_stamp.Goals as goal

pub returns-then-last-revision-clause-keeps : goal.returns-then-last-revision-clause-keeps
returns-then-last-revision-clause-keeps c = λ q apart has. c.remove.ensures.updates.2 (stamp_of q) (other_id (record { revision = c.greatest-last.result; id = c.args.was.id }) (stamp_of q) apart) ∙ has

pub returns-then-last-revision-clause-later : goal.returns-then-last-revision-clause-later
returns-then-last-revision-clause-later c = λ q last has.
    c.remove.ensures.updates.2 (stamp_of q) (other_revision (record { revision = c.greatest-last.result; id = c.args.was.id }) (stamp_of q)
    (false_from_ne_true (eqb (greatest q) c.greatest-last.result) (λ t. omega (arith, c.if-last-revision.true, last, (Decides-eqb (greatest q) c.greatest-last.result).0 t)))) ∙ has
