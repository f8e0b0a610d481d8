-- When rows can be put: of declared tables, no record twice, and their sums are those of the rows with them.
use Rattle.std.specs.Prelude.{◌≡◌, length, map, true, Option, Some, None, Result, Ok}
use Rattle.std.specs.List.{AllByRecursion}
use Rattle.melon_wire.specs.Keys.{are_apart}
use Rattle.melon_backend.specs.declared.backend.Planned.{Planned}
use Rattle.melon_backend.specs.Rows.{with_puts, stored_bytes, live_rows}
use Rattle.melon_log.specs.declared.fault.PushFault.{PushFault}
use Rattle.melon_backend.specs.Backends.{SeenBackend, Plan}
use Rattle.melon_backend.specs.Pushing.{with_push}
use Rattle.melon_backend.specs.Drafts.{key_put, IsPutWithin}

pub record CanBePut (b : SeenBackend) (p : Planned) : Type 0 where
  pub within : AllByRecursion (IsPutWithin (length b.schema.tables)) p.puts.items
  pub apart : are_apart (map key_put p.puts.items) ≡ true
  pub stored : p.stored ≡ stored_bytes b.schema.tables (with_puts b.rows p.puts.items)
  pub live : p.live ≡ live_rows (with_puts b.rows p.puts.items)

abbrev pub CanBePutIfAny : SeenBackend → Option Planned → Type 0
CanBePutIfAny b None = Unit {0}
CanBePutIfAny b (Some p) = CanBePut b p

-- what is to be committed, if anything, is what the plan says
abbrev pub IsPlanOf : SeenBackend → Result Plan PushFault → Option Planned → Type 0
IsPlanOf b plan None = plan ≡ Ok (record { batch = None; after = b })
IsPlanOf b plan (Some p) = plan ≡ Ok (record { batch = Some p.batch; after = with_push b p.revision p.puts.items })
