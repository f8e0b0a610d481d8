-- What the fields of an order stand for.
use Rattle.std.specs.Prelude.{◌≡◌, ◌≤◌, [], length, min}
use Rattle.std.specs.Vec.{vec_len, vec_capacity}
use Rattle.melon_table.specs.declared.keys.Keys.TheInside.{Inside}
use Rattle.melon_table.specs.Late.{SeenKeys, joined, AreLate}

abbrev pub keys_in : Inside → SeenKeys
keys_in o = record { keys = joined 0 o.settled.items o.late.items; most = o.most }

-- The late keys stand among the settled ones and are few, and there is memory for as many keys as are told.
pub record KeepsKeys (o : Inside) : Type 0 where
  pub late : AreLate 0 (length o.settled.items) o.late.items
  pub few : vec_len o.late ≤ 2048
  pub settled_fit : o.most ≤ vec_capacity o.settled
  pub scratch_fit : o.most ≤ vec_capacity o.scratch
  pub late_fit : min o.most 2048 ≤ vec_capacity o.late
  pub empty : o.scratch.items ≡ []
