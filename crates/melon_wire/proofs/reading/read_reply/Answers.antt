use Rattle.serde_json.specs.View.{view}
use Rattle.melon_wire.proofs.HaveIds.{reply_taken}
use Rattle.melon_wire.proofs.reading.read_reply.Goals as goal

pub returns-clause-ids : goal.returns-clause-ids
returns-clause-ids c = reply_taken c.take_reply.result (view c.in_ok-json.json) c.take_reply.ensures
