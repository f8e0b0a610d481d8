use Rattle.std.proofs.Common.{◌≡◌, ◌<◌, ℕ, length, true, sym, ◌∙◌, subst, arith, length-set}
use Rattle.std.proofs.lemmas.Option.{slice_get_within}
use Rattle.melon_board.specs.Boards.{are_within}
use Rattle.melon_board.proofs.Rowed.{rows_same, columns_same}
use Rattle.melon_board.proofs.Roomed.{room_more, room_all}
use Rattle.melon_board.proofs.apply.make_room.Goals as goal

pub returns-in_err-room-clause-rows : goal.returns-in_err-room-clause-rows
returns-in_err-room-clause-rows c = rows_same c.loop-table.tables c.loop-table.table c.of_mut.result.now c.room.new.self c.of_mut.ensures.value c.room.ensures.rows ∙ c.loop-table.invariant.rows

pub returns-in_err-room-clause-columns : goal.returns-in_err-room-clause-columns
returns-in_err-room-clause-columns c = columns_same c.loop-table.tables c.loop-table.table c.of_mut.result.now c.room.new.self c.of_mut.ensures.value c.room.ensures.columns ∙ c.loop-table.invariant.columns

pub loop-table-preserved : goal.loop-table-preserved
loop-table-preserved c =
    let tables = c.loop-table.tables in
    let t = c.loop-table.table in
    let kept = c.loop-table.invariant in
    let within : t < length tables = slice_get_within tables t c.of_mut.result.now c.of_mut.ensures.value in
    let made = c.rows_made-made.ensures in
    record {
      long = length-set tables t c.room.new.self ∙ kept.long;
      rows = rows_same tables t c.of_mut.result.now c.room.new.self c.of_mut.ensures.value c.room.ensures.rows ∙ kept.rows;
      columns = columns_same tables t c.of_mut.result.now c.room.new.self c.of_mut.ensures.value c.room.ensures.columns ∙ kept.columns;
      made = room_more t tables c.room.new.self c.args.changes.now within (omega (arith, made, c.in_ok-room.ensures.ok)) kept.made;
    }

pub returns-clause-ok : goal.returns-clause-ok
returns-clause-ok c =
    let kept = c.loop-table.invariant in
    room_all c.loop-table.table c.loop-table.tables c.args.changes.now (omega (arith, kept.long, c.len-table-end.ensures, c.loop-table-test.false, c.loop-table.auto.table-end))
    (subst (λ (n : ℕ). are_within n c.args.changes.now ≡ true) (sym kept.long) c.requires) kept.made
