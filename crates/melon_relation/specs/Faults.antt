-- The number under which a relation's fault is told; want of memory is told by none.
use Rattle.std.specs.Prelude.{ℕ}
use Rattle.melon_relation.specs.declared.fault.RelationFault.{RelationFault}
use Rattle.melon_relation.specs.declared.fault.RelationFault.TheVariants.{NoRow, NoAssociation, Memory}

abbrev pub fault_number : RelationFault → ℕ
fault_number NoRow = 1
fault_number NoAssociation = 2
fault_number Memory = 0
