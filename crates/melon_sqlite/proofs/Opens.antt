-- What holds of a statement whatever it is.
use Rattle.std.proofs.Common.{inl, inr, ℕ, false, List, Ok, Err, Result, Option}
use Rattle.sqlite_value.specs.Order.{Row}
use Rattle.sqlite_schema.specs.declared.command.Command.{Command}
use Rattle.sqlite_schema.specs.declared.command.Command.TheVariants.{Select, Insert, InsertOr, Update, Delete, CreateTable, CreateIndex, DropTable, DropIndex, Begin, Commit, Rollback, Savepoint as Save, Release, RollbackTo, Nothing, CreateView, DropView, Rows}
use Rattle.sqlite_schema.specs.declared.command.Returning.{Returning}
use Rattle.std.proofs.lemmas.Bool.{cases_Bool}
use Rattle.sqlite.specs.State.{State, Executes, ExecutesIn, IsNotRun, Runs, shows_rows, text_of}
use Rattle.sqlite.specs.Clock.{timed}
use Rattle.sqlite.specs.declared.error.Error.{Error}
use Rattle.melon_sqlite.specs.Statements.{Undone, StaysShut}

-- a statement that was refused changed nothing, or undid the transaction
pub failed : (sql : List ℕ) (given : Row) (old new : State) (e : Error) → Executes sql given old new (Err e) → Undone old new
unfolding ExecutesIn IsNotRun
failed sql given old new e (inl (inl h)) = inl h.1
failed sql given old new e (inl (inr h)) = inr h.3
failed sql given old new e (inr h) = elim (cases_Bool (shows_rows false h.0)) [
  | inl shows ↦ inl (rw shows at h.2).1
  | inr runs ↦ elim (rw runs at h.2) [ inl refused ↦ inl refused.1 | inr broke ↦ inr broke.3 ]
]

undone_open : (old new : State) → Undone old new → StaysShut old new
undone_open old new (inl u) = λ _. u.0.was_open
undone_open old new (inr rb) = rb.was_open

ran_open : (old new : State) (r : Option Returning) (command : Command) (text : List ℕ) (given : Row) (count : ℕ) → Runs old new r command text given count → StaysShut old new
ran_open old new r (Select q names) text given count h = absurd h
ran_open old new r (Insert at from) text given count h = λ _. h.shown.was_open
ran_open old new r (InsertOr at how from clauses) text given count h = λ _. h.shown.was_open
ran_open old new r (Update at q) text given count h = λ _. h.shown.was_open
ran_open old new r (Delete at q) text given count h = λ _. h.shown.was_open
ran_open old new r CreateTable text given count h = λ _. h.shown.was_open
ran_open old new r (CreateIndex at) text given count h = λ _. h.shown.was_open
ran_open old new r (DropTable at) text given count h = λ _. h.shown.was_open
ran_open old new r (DropIndex at) text given count h = λ _. h.shown.was_open
ran_open old new r Begin text given count h = λ _. h.1.was_open
ran_open old new r Commit text given count h = λ _. h.1.was_open
ran_open old new r Rollback text given count h = h.1.was_open
ran_open old new r (Save name) text given count h = λ _. h.0.0.was_open
ran_open old new r (Release name) text given count h = elim h.2 [ inl e ↦ λ _. e.1.0.was_open | inr d ↦ λ _. d.1.0.was_open ]
ran_open old new r (RollbackTo name) text given count h = λ _. h.2.2.was_open
ran_open old new r (Rows values width names) text given count h = λ _. h.0.0.was_open
ran_open old new r Nothing text given count h = λ _. h.0.0.was_open
ran_open old new r CreateView text given count h = λ _. h.shown.was_open
ran_open old new r (DropView at) text given count h = λ _. h.shown.was_open

-- a statement does not open what was shut
pub executes_open : (sql : List ℕ) (given : Row) (old new : State) (r : Result ℕ Error) → Executes sql given old new r → StaysShut old new
unfolding ExecutesIn
executes_open sql given old new (Err e) h = undone_open old new (failed sql given old new e h)
executes_open sql given old new (Ok count) h = elim (cases_Bool (shows_rows false h.0)) [
  | inl shows ↦ λ _. (rw shows at h.2).1.0.was_open
  | inr runs ↦ ran_open old new h.0.returning h.0.command (text_of sql h.0) (timed given h.0.formats h.1.now) count (rw runs at h.2)
]
