use Rattle.std.proofs.Common.{ℕ, List, Some, ap, sym, ◌∙◌}
use Rattle.std.specs.BTreeMap.{is_at}
use Rattle.std.specs.Map.{lookup}
use Rattle.melon_outside.proofs.Places.{set_value-absent}
use Rattle.melon_backend.specs.Inside.{id_order}
use Rattle.melon_backend.proofs.table.set_row.Goals as goal

pub returns-in-None-clause-entries : goal.returns-in-None-clause-entries
returns-in-None-clause-entries c =
    rw c.get_mut.follows.holds-at-none (sym (set_value-absent (is_at (id_order c.args.row.id)) c.args.places.now.entries (Some c.args.row)
    (ap (λ (i : List ℕ). lookup (is_at (id_order i)) c.args.places.now.entries) (sym c.as_str.ensures) ∙ sym c.in-None.ensures.value)))
