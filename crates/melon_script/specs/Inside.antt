-- What the fields of an answer stand for.
use Rattle.std.specs.Prelude.{◌≡◌, ◌<◌, List, []}
use Rattle.std.specs.Vec.{vec_len, vec_capacity}
use Rattle.melon_script.specs.declared.answer.Answer.TheInside.{Inside}
use Rattle.melon_script.specs.declared.item.Item.{Item}

abbrev pub items_in : Inside → List Item
items_in a = a.items.items

-- without items there is room for the first
abbrev pub HasRoom : Inside → Type 0
HasRoom a = a.items.items ≡ [] → vec_len a.items < vec_capacity a.items
