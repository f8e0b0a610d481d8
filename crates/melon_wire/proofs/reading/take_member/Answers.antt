use Rattle.std.proofs.Common.{ap, ◌∙◌, option_map}
use Rattle.serde_json.specs.View.{view}
use Rattle.serde_json.proofs.Views.{view-lookup}
use Rattle.melon_wire.proofs.Members.{others_stay}
use Rattle.melon_wire.proofs.reading.take_member.Goals as goal

pub returns-clause-member : goal.returns-clause-member
returns-clause-member c = ap (option_map view) c.remove.ensures.value ∙ view-lookup c.args.key.now c.args.members.now.entries

pub returns-clause-others : goal.returns-clause-others
returns-clause-others c = λ name other. rw c.remove.ensures.entries (others_stay name c.args.key.now c.args.members.now.entries other)
