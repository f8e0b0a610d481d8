-- What a step leaves, and what it prints.
use Rattle.std.specs.Prelude.{ℕ, List, [], ◌∷◌, Option, Some, None}
use Rattle.melon_script.specs.declared.item.Item.{Item}
use Rattle.melon_machine.specs.Refusals.{table_refusal}

-- what is there afterwards, and what is printed
pub record Stepped (X : Type 0) : Type 0 where
  pub after : X
  pub items : List Item

abbrev pub ends_with : {X : Type 0} → X → List Item → Stepped X
ends_with after items = record { after = after; items = items }

-- one item is printed
abbrev pub stepped : {X : Type 0} → X → Item → Stepped X
stepped after item = ends_with after (item ∷ [])

-- the same of what it is a part of, or stands for
abbrev pub stepped_as : {X Y : Type 0} → (X → Y) → Stepped X → Stepped Y
stepped_as f s = ends_with (f s.after) s.items

-- what is shown of a table, or the refusal that there is no such table
abbrev pub on_table : List ℕ → (ℕ → Item) → Option ℕ → Item
on_table table shows None = table_refusal table
on_table table shows (Some t) = shows t
