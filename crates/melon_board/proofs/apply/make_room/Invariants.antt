use Rattle.std.proofs.Common.{◌≡◌, length}
use Rattle.melon_table.specs.Seen.{rows_of, columns_of}
use Rattle.melon_board.proofs.Roomed.{RoomUpTo}
use Rattle.melon_board.proofs.apply.make_room.Given as goal

abbrev pub invariant-loop-table : goal.invariant-loop-table
invariant-loop-table l = record {
  long : length l.tables ≡ length l.fn.tables;
  rows : rows_of l.tables ≡ rows_of l.fn.tables;
  columns : columns_of l.tables ≡ columns_of l.fn.tables;
  made : RoomUpTo l.table l.tables l.changes;
}
