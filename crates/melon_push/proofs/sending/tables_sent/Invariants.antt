use Rattle.std.proofs.Common.{◌≡◌, ◌++◌}
use Rattle.melon_push.specs.Fetching.{fetch_seen, fetch_from, sent_from}
use Rattle.melon_push.proofs.sending.tables_sent.Given as goal

abbrev pub invariant-loop-table : goal.invariant-loop-table
invariant-loop-table l =
    (fetch_seen l.left ≡ fetch_from l.table l.fn.fetch)
    × (l.sent.items ++ sent_from l.schema.tables l.fn.fetch l.table ≡ sent_from l.schema.tables l.fn.fetch 0)
