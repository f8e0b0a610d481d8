-- The numbers with which the program ends.
use Rattle.std.specs.Prelude.{ℕ}
use Rattle.melon_cli.specs.declared.status.Status.{Status}
use Rattle.melon_cli.specs.declared.status.Status.TheVariants.{Done, BadWords, BadScript, ReadFault, WriteFault, Memory, TooLong}

abbrev pub code_of : Status → ℕ
code_of Done = 0
code_of BadWords = 2
code_of (BadScript line) = 3
code_of ReadFault = 4
code_of WriteFault = 5
code_of Memory = 6
code_of TooLong = 7
