use Rattle.std.proofs.Common.{◌≡◌, ◌-◌, ◌+◌, ◌<◌, ℕ, length, sym, ap, ◌∙◌, subst, arith}
use Rattle.std.specs.List.{range_with_len}
use Rattle.melon_raw.specs.Rows.{table_at}
use Rattle.melon_wire.specs.Sent.{put_by_name, by_name}
use Rattle.melon_backend.proofs.ByName.{by_name-front}
use Rattle.melon_backend.proofs.order.tables_by_name.Goals as goal

pub loop-table-preserved : goal.loop-table-preserved
loop-table-preserved c =
    let name = λ (d : ℕ). (table_at c.args.schema.now.tables d).name in
    let n = length c.args.schema.now.tables in
    let m = c.loop-table.table - 1 in
    let below : m < n = omega (arith, c.loop-table.auto.table, c.loop-table-test.true) in
    let next : m + 1 ≡ c.loop-table.table = omega (arith, c.loop-table-test.true) in
    let rest = subst (λ (k : ℕ). c.loop-table.places.items ≡ by_name name (range_with_len k (n - k))) (sym next) c.loop-table.invariant in
    c.in_ok-put_table.ensures ∙ (ap (put_by_name name m) rest ∙ sym (by_name-front name n m below))
