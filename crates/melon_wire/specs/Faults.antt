-- How the faults of texts on the wire are told.
use Rattle.std.specs.Prelude.{ℕ}
use Rattle.melon_raw.specs.declared.id.IdFault.{IdFault}
use Rattle.melon_raw.specs.declared.id.IdFault.TheVariants as id
use Rattle.melon_wire.specs.declared.wire_fault.WireFault.{WireFault}
use Rattle.melon_wire.specs.declared.wire_fault.WireFault.TheVariants.{NotJson, Form, Number, Name, BadId, Memory}

abbrev pub fault_of_id : IdFault → WireFault
fault_of_id id.Bad = BadId
fault_of_id id.Memory = Memory

-- the number under which a fault is told; want of memory is told by none
abbrev pub fault_number : WireFault → ℕ
fault_number NotJson = 1
fault_number Form = 2
fault_number Number = 3
fault_number Name = 4
fault_number BadId = 5
fault_number Memory = 0
