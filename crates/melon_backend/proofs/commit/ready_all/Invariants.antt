use Rattle.std.proofs.Common.{◌≡◌, take, length, true}
use Rattle.melon_backend.specs.Inside.{tables_rows, AreKept}
use Rattle.melon_backend.specs.Drafts.{are_ready}
use Rattle.melon_backend.proofs.commit.ready_all.Given as goal

abbrev pub invariant-loop-put : goal.invariant-loop-put
invariant-loop-put l = record {
  kept : AreKept l.tables.items;
  long : length l.tables.items ≡ length l.fn.tables.items;
  rows : tables_rows l.tables.items ≡ tables_rows l.fn.tables.items;
  ready : are_ready l.tables.items (take l.put-index l.puts) ≡ true;
}
