use Rattle.std.proofs.Common.{◌≡◌, drop}
use Rattle.melon_query.specs.Tuples.{member_of}
use Rattle.melon_eval.specs.Chosen.{seen_members}
use Rattle.melon_eval.proofs.matching.member_of.Given as goal

abbrev pub invariant-loop-member : goal.invariant-loop-member
invariant-loop-member l = member_of l.table (seen_members (drop l.member-index l.members)) ≡ member_of l.table (seen_members l.members)
