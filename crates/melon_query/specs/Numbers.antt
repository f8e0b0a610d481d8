-- The number under which a query's fault is told; want of memory is told by none.
use Rattle.std.specs.Prelude.{ℕ}
use Rattle.melon_query.specs.declared.query_fault.QueryFault.{QueryFault}
use Rattle.melon_query.specs.declared.query_fault.QueryFault.TheVariants.{Form, UnknownTable, UnknownColumn, WrongKind, NullInList, NoAssociation, UndeclaredJoin, SkipWithoutTake, Limit, Memory}

abbrev pub fault_number : QueryFault → ℕ
fault_number Form = 1
fault_number UnknownTable = 2
fault_number UnknownColumn = 3
fault_number WrongKind = 4
fault_number NullInList = 5
fault_number NoAssociation = 6
fault_number UndeclaredJoin = 7
fault_number SkipWithoutTake = 8
fault_number Limit = 9
fault_number Memory = 0
