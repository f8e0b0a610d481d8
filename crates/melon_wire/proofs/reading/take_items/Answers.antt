use Rattle.std.proofs.Common.{Some, map, ap, ◌∙◌}
use Rattle.serde_json.specs.View.{view}
use Rattle.serde_json.specs.declared.value.Value.{Value}
use Rattle.serde_json.proofs.Views.{view-Array}
use Rattle.melon_schema.specs.Json.{list_of}
use Rattle.melon_schema.proofs.Each.{listed-items_of}
use Rattle.melon_wire.proofs.reading.take_items.Goals as goal

pub returns-in-Array : goal.returns-in-Array
returns-in-Array c = ap (λ (v : Value). list_of (view v)) c.in-Array.is ∙ ap list_of (view-Array c.in-Array.items) ∙ ap Some (listed-items_of (map view c.in-Array.items.items))
