-- What is borrowed or read where it stands, as definitions see it.
use Rattle.std.specs.Prelude.{ℕ, List, [], ◌∷◌, map, filter, Option, Some, None}
use Rattle.std.specs.Option.{option_copied}
use Rattle.std.specs.Borrow.{Bor}
use Rattle.std.specs.HashMap.{get_by}
use Rattle.std.specs.Str.{bytes_eq}
use Rattle.melon_raw.specs.declared.raw.Raw.{Raw}
use Rattle.melon_raw.specs.declared.datum.Datum.{Datum}
use Rattle.melon_raw.specs.declared.datum.Datum.TheVariants as datum
use Rattle.melon_table.specs.Seen.{SeenTable}
use Rattle.melon_query.specs.declared.query.Cond.{Cond}
use Rattle.melon_query.specs.Meaning.{holds}
use Rattle.melon_eval.specs.Asking.{Asked}
use Rattle.melon_eval.specs.declared.asks.Ask.{Ask}
use Rattle.melon_eval.specs.declared.value.Value.{Value}
use Rattle.melon_eval.specs.declared.value.Value.TheVariants.{Null, Words, Whole, Truth}

abbrev pub datum_of : Value → Datum
datum_of Null = datum.Null
datum_of (Words text) = datum.Words text.now
datum_of (Whole z) = datum.Whole z
datum_of (Truth b) = datum.Truth b

abbrev pub rows_at : List (Bor Raw) → List Raw
rows_at rows = map (λ r. r.now) rows

abbrev pub conds_at : List (Bor Cond) → List Cond
conds_at conds = map (λ c. c.now) conds

abbrev pub seen_ask : Ask → Asked
seen_ask ask = record { table = ask.table; parts = map holds ask.conds.now }

abbrev pub seen_asks : List Ask → List Asked
seen_asks asks = map seen_ask asks

-- the rows of a table, where there is one
abbrev pub rows_in : Option SeenTable → List Raw
rows_in None = []
rows_in (Some table) = table.rows
