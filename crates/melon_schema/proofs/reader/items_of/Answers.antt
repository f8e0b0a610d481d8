use Rattle.std.proofs.Common.{◌∙◌, sym, ap, map, Some, option_map}
use Rattle.serde_json.specs.View.{view}
use Rattle.melon_schema.specs.Json.{listed}
use Rattle.melon_schema.proofs.Each.{listed-items_of}
use Rattle.melon_schema.proofs.reader.items_of.Goals as goal

pub returns-in-Some : goal.returns-in-Some
returns-in-Some c = ap Some (ap (map view) c.as_slice.ensures.value ∙ sym (listed-items_of (map view c.in-Some.items.now.items))) ∙ ap (option_map listed) c.in-Some.ensures
