-- What the fields of a backend stand for.
use Rattle.melon_backend.specs.declared.backend.Backend.TheInside as backend
use Rattle.melon_backend.specs.Inside.{tables_rows}
use Rattle.melon_backend.specs.Backends.{SeenBackend}
use Rattle.melon_backend.specs.Opened.{IsLaidOut}

abbrev pub backend_in : backend.Inside → SeenBackend
backend_in b = record { name = b.name; schema = b.schema; rows = tables_rows b.tables.items; revision = b.revision }

abbrev pub IsSummed : backend.Inside → Type 0
IsSummed b = IsLaidOut b.schema.tables b.tables.items b.stored b.live
