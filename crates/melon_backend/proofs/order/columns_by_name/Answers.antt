use Rattle.std.proofs.Common.{◌≡◌, ◌-◌, ◌+◌, ◌<◌, ℕ, length, sym, ap, ◌∙◌, subst, arith}
use Rattle.std.specs.List.{range_with_len}
use Rattle.melon_raw.specs.Rows.{column_at}
use Rattle.melon_wire.specs.Sent.{put_by_name, by_name}
use Rattle.melon_backend.proofs.ByName.{by_name-front}
use Rattle.melon_backend.proofs.order.columns_by_name.Goals as goal

pub loop-c-preserved : goal.loop-c-preserved
loop-c-preserved c =
    let name = λ (d : ℕ). (column_at c.args.columns.now d).name in
    let n = length c.args.columns.now in
    let m = c.loop-c.c - 1 in
    let below : m < n = omega (arith, c.loop-c.auto.c, c.loop-c-test.true) in
    let next : m + 1 ≡ c.loop-c.c = omega (arith, c.loop-c-test.true) in
    let rest = subst (λ (k : ℕ). c.loop-c.places.items ≡ by_name name (range_with_len k (n - k))) (sym next) c.loop-c.invariant in
    c.in_ok-put_column.ensures ∙ (ap (put_by_name name m) rest ∙ sym (by_name-front name n m below))
