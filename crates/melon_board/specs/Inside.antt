-- What the fields of boards and stores stand for.
use Rattle.std.specs.Prelude.{◌≡◌, ◌<◌, IsSome}
use Rattle.std.specs.Vec.{vec_len, vec_capacity}
use Rattle.melon_schema.specs.Sound.{IsSoundSchema}
use Rattle.melon_table.specs.Seen.{rows_of, columns_of, declared_columns}
use Rattle.melon_board.specs.declared.board.Board.TheInside as board
use Rattle.melon_board.specs.declared.store.Store.TheInside as store
use Rattle.melon_board.specs.Boards.{SeenBoard, AreKept, rewound, IsOneHistory}
use Rattle.melon_board.specs.Stores.{SeenStore, opening_of}
use Rattle.melon_board.specs.Sizes.{stored_bytes, journal_bytes}

-- the opening rows are not kept: they are the rows now, with every entry undone
abbrev pub board_in : board.Inside → SeenBoard
board_in b = record { opening = rewound (rows_of b.tables) b.entries.items; tables = b.tables; entries = b.entries.items; ready = b.ready }

-- Its journal is one legal history. Where a set is ready there is room for its entry.
pub record HoldsHistory (b : board.Inside) : Type 0 where
  pub history : IsOneHistory (board_in b)
  pub place : IsSome b.ready → vec_len b.entries < vec_capacity b.entries

abbrev pub store_in : store.Inside → SeenStore
store_in s = record { name = s.name; schema = s.schema; rows = rows_of s.board.tables; entries = s.board.entries; last = s.last }

-- The schema is sound, the tables are those of the schema, and their rows are kept in order. The board's journal is one legal
-- history. The two sums are those of the rows and the journal.
pub record IsSummed (s : store.Inside) : Type 0 where
  pub sound : IsSoundSchema s.schema
  pub columns : columns_of s.board.tables ≡ declared_columns s.schema.tables
  pub kept : AreKept s.schema.tables (rows_of s.board.tables)
  pub history : IsOneHistory s.board
  pub opening : s.board.opening ≡ opening_of (store_in s)
  pub stored : s.stored ≡ stored_bytes s.schema.tables (rows_of s.board.tables)
  pub journal : s.journal ≡ journal_bytes s.schema.tables s.board.entries
