-- How the faults of keepers and of batches are told by a write.
use Rattle.melon_outside.specs.declared.keeper.KeeperError.{KeeperError}
use Rattle.melon_outside.specs.declared.keeper.KeeperError.TheVariants as keeper
use Rattle.melon_change.specs.declared.rule.BatchFault.{BatchFault}
use Rattle.melon_change.specs.declared.rule.BatchFault.TheVariants as batch
use Rattle.melon_board.specs.declared.fault.WriteFault.{WriteFault}
use Rattle.melon_board.specs.declared.fault.WriteFault.TheVariants.{Batch, KeeperFault, Memory}

abbrev pub fault_of_keeper : KeeperError → WriteFault
fault_of_keeper keeper.Memory = Memory
fault_of_keeper keeper.Failed = KeeperFault

-- want of memory is told as such, and no broken rule
abbrev pub fault_of_batch : BatchFault → WriteFault
fault_of_batch batch.Memory = Memory
fault_of_batch fault = Batch fault
