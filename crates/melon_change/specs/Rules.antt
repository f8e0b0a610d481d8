-- The rules that an operation may break, and the fault that a broken one is told as.
use Rattle.std.specs.Prelude.{ℕ, List, Option, Some, None, Result, Ok, Err, ⊤}
use Rattle.melon_change.specs.declared.op.Op.{Op}
use Rattle.melon_change.specs.declared.op.Op.TheVariants.{Create, Update, MarkDeleted, Destroy}
use Rattle.melon_change.specs.declared.rule.Rule.{Rule}
use Rattle.melon_change.specs.declared.rule.Rule.TheVariants as rule
use Rattle.melon_change.specs.declared.rule.BatchFault.{BatchFault}
use Rattle.melon_change.specs.declared.rule.BatchFault.TheVariants.{UnknownTable, UnknownColumn, BadId, Twice, Taken, NoRow, LongText, TooMany, Memory}

-- it is broken by the column, where there is one
abbrev pub unless_column : Option (List ℕ) → (List ℕ → Rule) → Result ⊤ Rule
unless_column None broken = Ok tt
unless_column (Some column) broken = Err (broken column)

abbrev pub table_in : Op → List ℕ
table_in (Create table id set) = table
table_in (Update table id set) = table
table_in (MarkDeleted table id) = table
table_in (Destroy table id) = table

abbrev pub id_in : Op → List ℕ
id_in (Create table id set) = id
id_in (Update table id set) = id
id_in (MarkDeleted table id) = id
id_in (Destroy table id) = id

-- the fault of the operation of this number, by the rule that it breaks
abbrev pub fault_of : ℕ → List ℕ → List ℕ → Rule → BatchFault
fault_of n table id rule.UnknownTable = UnknownTable n table id
fault_of n table id (rule.UnknownColumn column) = UnknownColumn n table id column
fault_of n table id rule.BadId = BadId n table id
fault_of n table id rule.Twice = Twice n table id
fault_of n table id rule.Taken = Taken n table id
fault_of n table id rule.NoRow = NoRow n table id
fault_of n table id (rule.LongText column) = LongText n table id column
fault_of n table id rule.Memory = Memory

abbrev pub told_as : {A : Type 0} → ℕ → Op → Result A Rule → Result A BatchFault
told_as n op (Ok x) = Ok x
told_as n op (Err broken) = Err (fault_of n (table_in op) (id_in op) broken)
