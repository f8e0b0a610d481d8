use Rattle.std.proofs.Common.{◌≡◌, ◌+◌, ℕ, List, Bool, Option, Some, None, subst, sym, ap, ◌∙◌, arith}
use Rattle.melon_raw.specs.declared.raw.Raw.{Raw}
use Rattle.melon_raw.specs.Rows.{at, at_id}
use Rattle.melon_table.specs.Seen.{rows_of}
use Rattle.melon_change.specs.Changes.{key}
use Rattle.melon_change.specs.History.{KeepsId}
use Rattle.melon_board.specs.Boards.{is_new, one_if}
use Rattle.melon_board.proofs.Rowed.{rows_here, columns_same, put_done, spare_used, spare_put}
use Rattle.melon_board.proofs.apply.put_after.Goals as goal

pub returns-in-Some-clause-rows : goal.returns-in-Some-clause-rows
returns-in-Some-clause-rows c = put_done c.args.tables.now c.args.table c.of_mut.result.now c.put.new.self c.of_mut.ensures.value c.args.id.now c.args.row (Some c.in-Some.row) c.in-Some.is c.put.ensures.rows

pub returns-in-Some-clause-columns : goal.returns-in-Some-clause-columns
returns-in-Some-clause-columns c = columns_same c.args.tables.now c.args.table c.of_mut.result.now c.put.new.self c.of_mut.ensures.value c.put.ensures.columns

pub returns-in-Some-clause-spare : goal.returns-in-Some-clause-spare
returns-in-Some-clause-spare c =
    let ts = c.args.tables.now in
    let t = c.args.table in
    let x = c.of_mut.result.now in
    let new = is_new (at (rows_of ts) (key t c.args.id.now)) c.args.row in
    let same_id : c.in-Some.row.id ≡ c.args.id.now = subst (λ (o : Option Raw). KeepsId c.args.id.now o) c.in-Some.is c.requires.keeps_id in
    let was : c.put.result ≡ at (rows_of ts) (key t c.args.id.now) =
    c.put.ensures.was ∙ (ap (λ (i : List ℕ). at_id i x.rows) same_id ∙ ap (at_id c.args.id.now) (sym (rows_here ts t x c.put.new.self c.of_mut.ensures.value))) in
    let is : is_new c.put.result (Some c.in-Some.row) ≡ new = ap (λ (o : Option Raw). is_new o (Some c.in-Some.row)) was ∙ ap (is_new (at (rows_of ts) (key t c.args.id.now))) (sym c.in-Some.is) in
    let fewer = spare_put c.put.result c.in-Some.row c.put.new.self.spare x.spare c.put.ensures.spare in
    let count = ap one_if is in
    spare_used ts t x c.put.new.self c.of_mut.ensures.value new (omega (arith, fewer, count))

pub returns-in-None-clause-rows : goal.returns-in-None-clause-rows
returns-in-None-clause-rows c = put_done c.args.tables.now c.args.table c.of_mut-in-None.result.now c.remove.new.self c.of_mut-in-None.ensures.value c.args.id.now c.args.row None c.in-None.is c.remove.ensures.rows

pub returns-in-None-clause-columns : goal.returns-in-None-clause-columns
returns-in-None-clause-columns c = columns_same c.args.tables.now c.args.table c.of_mut-in-None.result.now c.remove.new.self c.of_mut-in-None.ensures.value c.remove.ensures.columns

pub returns-in-None-clause-spare : goal.returns-in-None-clause-spare
returns-in-None-clause-spare c =
    spare_used c.args.tables.now c.args.table c.of_mut-in-None.result.now c.remove.new.self c.of_mut-in-None.ensures.value (is_new (at (rows_of c.args.tables.now) (key c.args.table c.args.id.now)) c.args.row) (omega (arith, c.remove.ensures.spare))
