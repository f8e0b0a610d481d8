use Rattle.melon_relation.proofs.Compared.{compares_exactly}
use Rattle.melon_relation.proofs.laws.parents_compare_exactly.Goals as goal

pub returns : goal.returns
returns c = compares_exactly
