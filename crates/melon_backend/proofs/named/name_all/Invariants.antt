use Rattle.std.proofs.Common.{◌≡◌, ◌++◌, length, Ok}
use Rattle.melon_log.specs.Verdict.{unless_one, unknown, repeated}
use Rattle.melon_backend.specs.Inside.{tables_rows}
use Rattle.melon_backend.specs.Listing.{namings_seen, all_namings}
use Rattle.melon_backend.proofs.named.name_all.Given as goal

abbrev pub invariant-loop-told : goal.invariant-loop-told
invariant-loop-told l = record {
  known : unless_one (unknown l.schema.tables) l.left ≡ Ok tt;
  once : unless_one repeated l.left ≡ unless_one repeated l.fn.changes.tables;
  named : namings_seen l.named.items ++ all_namings l.schema.tables (tables_rows l.tables) l.left ≡ all_namings l.schema.tables (tables_rows l.tables) l.fn.changes.tables;
}

abbrev pub decreases-loop-told : goal.decreases-loop-told
decreases-loop-told l = length l.left
