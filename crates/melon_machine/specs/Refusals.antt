-- The printed refusals: the group, the number and the details of each fault. Want of memory, which has number 0 here, is never printed.
use Rattle.std.specs.Prelude.{ℕ, List, [], ◌∷◌, Bool, true, false, Option, Some, None}
use Rattle.melon_schema.specs.declared.schema_fault.SchemaFault.{SchemaFault}
use Rattle.melon_schema.specs.Schema.{fault_number}
use Rattle.melon_query.specs.declared.query_fault.QueryFault.{QueryFault}
use Rattle.melon_query.specs.Numbers as query
use Rattle.melon_relation.specs.declared.fault.RelationFault.{RelationFault}
use Rattle.melon_relation.specs.Faults as relation
use Rattle.melon_queue.specs.declared.queue.QueueFault.{QueueFault}
use Rattle.melon_queue.specs.declared.queue.QueueFault.TheVariants as faults
use Rattle.melon_outside.specs.declared.kept.OpenFault.{OpenFault}
use Rattle.melon_outside.specs.declared.kept.OpenFault.TheVariants as opens
use Rattle.melon_change.specs.declared.op.OpsFault.{OpsFault}
use Rattle.melon_change.specs.declared.op.OpsFault.TheVariants as ops
use Rattle.melon_change.specs.declared.rule.BatchFault.{BatchFault}
use Rattle.melon_change.specs.declared.rule.BatchFault.TheVariants as rules
use Rattle.melon_board.specs.declared.fault.WriteFault.{WriteFault}
use Rattle.melon_board.specs.declared.fault.WriteFault.TheVariants as writes
use Rattle.melon_script.specs.declared.item.Item.{Item}
use Rattle.melon_script.specs.declared.item.Item.TheVariants as items
use Rattle.melon_script.specs.declared.item.Group.{Group}
use Rattle.melon_script.specs.declared.item.Group.TheVariants as groups
use Rattle.melon_script.specs.declared.item.Detail.{Detail}
use Rattle.melon_script.specs.declared.item.Detail.TheVariants.{Number, Words, Absent}

abbrev pub refused : Group → ℕ → List Detail → Item
refused group number details = items.Refused group number details

-- 1 already open, 2 not open, 3 four are open, 4 a bad name
abbrev pub app_refusal : ℕ → List ℕ → Item
app_refusal number app = refused groups.App number (Words app ∷ [])

abbrev pub schema_refusal : SchemaFault → Item
schema_refusal fault = refused groups.Schema (fault_number fault) []

abbrev pub table_refusal : List ℕ → Item
table_refusal table = refused groups.Table 1 (Words table ∷ [])

-- 1 already open, 2 not open
abbrev pub backend_refusal : ℕ → Item
backend_refusal number = refused groups.Backend number []

abbrev pub keeper_refusal : Item
keeper_refusal = refused groups.Keeper 1 []

abbrev pub query_refusal : QueryFault → Item
query_refusal fault = refused groups.Query (query.fault_number fault) []

-- a column that the table doesn't have, as in a query
abbrev pub shape_refusal : Item
shape_refusal = refused groups.Query 3 []

-- 1 a taken name, 2 no such observer, 3 so many are open, 4 a bad name
abbrev pub observer_refusal : ℕ → List ℕ → Item
observer_refusal number observer = refused groups.Observer number (Words observer ∷ [])

-- 1 no visible row, 2 no association
abbrev pub relation_refusal : RelationFault → Item
relation_refusal fault = refused groups.Relation (relation.fault_number fault) []

-- an id outside the form of ids has no row
abbrev pub id_refusal : Item
id_refusal = refused groups.Relation 1 []

-- a name, or nobody
abbrev pub holder_detail : Option (List ℕ) → Detail
holder_detail None = Absent
holder_detail (Some holder) = Words holder

-- 1 already queued, 2 not the holder, 3 full
abbrev pub queue_refusal : List ℕ → QueueFault → Item
queue_refusal writer faults.Queued = refused groups.Queue 1 (Words writer ∷ [])
queue_refusal writer (faults.NotHolder holder) = refused groups.Queue 2 (holder_detail holder ∷ [])
queue_refusal writer (faults.Full count) = refused groups.Queue 3 (Number count ∷ [])
queue_refusal writer faults.Memory = refused groups.Queue 0 []

-- 4 a name outside the form of ids
abbrev pub writer_refusal : List ℕ → Item
writer_refusal writer = refused groups.Queue 4 (Words writer ∷ [])

-- 1 a stored row, 2 the stored version, 3 so many bytes
abbrev pub open_refusal : OpenFault → Item
open_refusal (opens.BadRow table id) = refused groups.Open 1 (Words table ∷ Words id ∷ [])
open_refusal (opens.Version stored) = refused groups.Open 2 (Number stored ∷ [])
open_refusal (opens.Full bytes) = refused groups.Open 3 (Number bytes ∷ [])
open_refusal opens.KeeperFault = keeper_refusal
open_refusal opens.Memory = refused groups.Open 0 []

-- 1 the form, 2 a number
abbrev pub ops_refusal : OpsFault → Item
ops_refusal (ops.Form op) = refused groups.Ops 1 (Number op ∷ [])
ops_refusal (ops.Number op) = refused groups.Ops 2 (Number op ∷ [])
ops_refusal ops.Memory = refused groups.Ops 0 []

abbrev pub record_refusal : ℕ → ℕ → List ℕ → List ℕ → Item
record_refusal number op table id = refused groups.Batch number (Number op ∷ Words table ∷ Words id ∷ [])

abbrev pub column_refusal : ℕ → ℕ → List ℕ → List ℕ → List ℕ → Item
column_refusal number op table id column = refused groups.Batch number (Number op ∷ Words table ∷ Words id ∷ Words column ∷ [])

abbrev pub batch_refusal : BatchFault → Item
batch_refusal (rules.UnknownTable op table id) = record_refusal 1 op table id
batch_refusal (rules.UnknownColumn op table id column) = column_refusal 2 op table id column
batch_refusal (rules.BadId op table id) = record_refusal 3 op table id
batch_refusal (rules.Twice op table id) = record_refusal 4 op table id
batch_refusal (rules.Taken op table id) = record_refusal 5 op table id
batch_refusal (rules.NoRow op table id) = record_refusal 6 op table id
batch_refusal (rules.LongText op table id column) = column_refusal 7 op table id column
batch_refusal (rules.TooMany count) = refused groups.Batch 8 (Number count ∷ [])
batch_refusal rules.Memory = refused groups.Batch 0 []

-- the batch's own fault; 1 the store is full, 2 the session
abbrev pub write_refusal : WriteFault → Item
write_refusal (writes.Batch fault) = batch_refusal fault
write_refusal (writes.StoreFull bytes) = refused groups.Full 1 (Number bytes ∷ [])
write_refusal (writes.SessionFull bytes) = refused groups.Full 2 (Number bytes ∷ [])
write_refusal writes.KeeperFault = keeper_refusal
write_refusal writes.Memory = refused groups.Full 0 []

-- whether it tells that the keeper failed
abbrev pub is_of_keeper : Item → Bool
is_of_keeper (items.Refused groups.Keeper number details) = true
is_of_keeper item = false
