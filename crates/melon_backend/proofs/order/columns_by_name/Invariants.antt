use Rattle.std.proofs.Common.{◌≡◌, ◌-◌, length}
use Rattle.std.specs.List.{range_with_len}
use Rattle.melon_raw.specs.Rows.{column_at}
use Rattle.melon_wire.specs.Sent.{by_name}
use Rattle.melon_backend.proofs.order.columns_by_name.Given as goal

abbrev pub invariant-loop-c : goal.invariant-loop-c
invariant-loop-c l = l.places.items ≡ by_name (λ d. (column_at l.columns d).name) (range_with_len l.c (length l.columns - l.c))
