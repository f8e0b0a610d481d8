-- How many keys there are, and for how many there is memory.
use Rattle.std.proofs.Common.{◌≡◌, ◌+◌, length, sym, ap, ◌∙◌}
use Rattle.melon_table.specs.declared.keys.Keys.TheInside.{Inside}
use Rattle.melon_table.specs.Late.{SeenKeys}
use Rattle.melon_table.specs.Keyed.{keys_in}
use Rattle.melon_table.proofs.Joined.{joined-long}

module _ (o : Inside) (seen : SeenKeys) (is : keys_in o ≡ seen) where
  pub count : length o.settled.items + length o.late.items ≡ length seen.keys
  count = sym (joined-long 0 o.settled.items o.late.items) ∙ ap (λ k. length k.keys) is

  pub most_is : o.most ≡ seen.most
  most_is = ap (λ k. k.most) is
