use Rattle.serde_json.specs.View.{view}
use Rattle.melon_wire.proofs.HaveIds.{changes_taken}
use Rattle.melon_wire.proofs.reading.read_changes.Goals as goal

pub returns-clause-ids : goal.returns-clause-ids
returns-clause-ids c = changes_taken c.take_changes.result (view c.in_ok-json.json) c.take_changes.ensures
