-- What a keeper finds in a database as it opens it.
use Rattle.std.specs.Prelude.{◌≡◌, ◌⊎◌, false, [], IsTrue}
use Rattle.sqlite_rules.specs.Lists.{Has}
use Rattle.sqlite_trees.specs.View.{IsShaped}
use Rattle.sqlite_trees.specs.declared.store.Shape.TheVariants as shape
use Rattle.sqlite.specs.Table.{Table}
use Rattle.sqlite.specs.Effect.{Database}
use Rattle.sqlite.specs.State.{State, IsLive, Opens}
use Rattle.melon_outside.specs.Kept.{nothing}
use Rattle.melon_outside.specs.Keeping.{AreSame, Stores}
use Rattle.melon_sqlite.specs.Contents.{rows_in, rows_tree, stores_in}
use Rattle.melon_sqlite.specs.Tables.{kept_schema, no_schema, rows_schema}

abbrev pub KeepsNothing : Database → Stores → Type 0
KeepsNothing db m = (db.schema ≡ no_schema) × AreSame m (λ _. nothing)

abbrev pub KeepsRows : Database → Stores → Type 0
KeepsRows db m = (db.schema ≡ rows_schema) × AreSame m (λ store. record { rows = rows_in (db.trees rows_tree) store; values = [] })

abbrev pub KeepsBoth : Database → Stores → Type 0
KeepsBoth db m = (db.schema ≡ kept_schema) × AreSame m (stores_in db.trees)

-- what a database keeps that has no table, the first of the two alone, or exactly the two
abbrev pub Keeps : Database → Stores → Type 0
Keeps db m = KeepsNothing db m ⊎ (KeepsRows db m ⊎ KeepsBoth db m)

-- all that was written is committed
pub record IsSettled (s : State) : Type 0 where
  pub outside : s.in_transaction ≡ false
  pub committed : s.committed ≡ s.now

-- the rows of each table are in the order of their rowids
abbrev pub IsOrderly : Database → Type 0
IsOrderly db = (t : Table) → Has db.schema.tables t → IsShaped shape.Table (db.trees t.tree)

-- another connection over what this one had committed
pub record IsRenewed (old new : State) : Type 0 where
  pub was_open : IsTrue old.is_open
  pub opens : Opens new
  pub live : IsLive new
  pub found : new.now ≡ old.committed
  pub ordered : IsOrderly new.now
