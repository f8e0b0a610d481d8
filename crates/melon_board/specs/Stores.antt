-- What contracts see of a store, and the store after an entry.
use Rattle.std.specs.Prelude.{◌≡◌, ℕ, List, [], ◌∷◌, ◌++◌, codes}
use Rattle.melon_schema.specs.Seen.{SeenSchema}
use Rattle.melon_raw.specs.Rows.{Rows}
use Rattle.melon_change.specs.declared.history.Entry.{Entry}
use Rattle.melon_change.specs.Changes.{after_set}
use Rattle.melon_change.specs.History.{replay, IsLegal}
use Rattle.melon_board.specs.Boards.{rewound}

-- a name, a schema, the rows now, the journal of this opening, and lastPulledAt
pub record SeenStore : Type 0 where
  pub name : List ℕ
  pub schema : SeenSchema
  pub rows : Rows
  pub entries : List Entry
  pub last : ℕ

-- the name under which a keeper keeps an app's store
abbrev pub store_key : List ℕ → List ℕ
store_key name = codes "app:" ++ name

-- the entry done, and put at the end of the journal
abbrev pub with_entry : SeenStore → Entry → SeenStore
with_entry store e = record {
  name = store.name;
  schema = store.schema;
  rows = after_set store.rows e.set;
  entries = store.entries ++ e ∷ [];
  last = store.last;
}

abbrev pub with_last : ℕ → SeenStore → SeenStore
with_last last store = record { name = store.name; schema = store.schema; rows = store.rows; entries = store.entries; last = last }

-- The journal is a legal history from these opening rows, and the rows now are its replay.
pub record Continues (opening : Rows) (store : SeenStore) : Type 0 where
  pub legal : IsLegal store.schema.tables opening store.entries
  pub replayed : replay opening store.entries ≡ store.rows

-- the rows of its opening: the rows now, with every entry undone
abbrev pub opening_of : SeenStore → Rows
opening_of store = rewound store.rows store.entries

-- One legal history, from the rows of one opening, before and after.
pub record KeepsHistory (was now : SeenStore) : Type 0 where
  pub opening : opening_of now ≡ opening_of was
  pub history : Continues (opening_of now) now
