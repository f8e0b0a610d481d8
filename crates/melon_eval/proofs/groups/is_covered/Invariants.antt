use Rattle.std.proofs.Common.{◌≡◌, drop, Some}
use Rattle.std.specs.List.{list_any}
use Rattle.melon_eval.specs.Asking.{is_below}
use Rattle.melon_eval.specs.Seen.{seen_asks, rows_at}
use Rattle.melon_eval.specs.Grouped.{group_rows}
use Rattle.melon_eval.proofs.groups.is_covered.Given as goal

abbrev pub invariant-loop-other : goal.invariant-loop-other
invariant-loop-other l =
    list_any (λ other. is_below (seen_asks l.asks) l.table (Some l.row) (Some other)) (rows_at (drop l.other-index l.other-items))
    ≡ list_any (λ other. is_below (seen_asks l.asks) l.table (Some l.row) (Some other)) (group_rows l.group)
