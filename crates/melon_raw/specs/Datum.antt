-- What a cell may be, and what a column keeps.
use Rattle.std.specs.Prelude.{ℤ, pos, negsuc, int_le, [], Bool, true, false, not, ◌&&◌, Option, Some, None, option_and_then, unwrap_or, if◌then◌else◌, bytes_eq}
use Rattle.std.specs.Ordering.{int_eq}
use Rattle.serde_json.specs.Data as json
use Rattle.serde_json.specs.Data.{Data, Num}
use Rattle.serde_json.specs.Find.{as_i64}
use Rattle.melon_schema.specs.declared.schema.Kind.{Kind}
use Rattle.melon_schema.specs.declared.schema.Kind.TheVariants as kinds
use Rattle.melon_schema.specs.declared.schema.ColumnSchema.{ColumnSchema}
use Rattle.melon_raw.specs.declared.datum.Datum.{Datum}
use Rattle.melon_raw.specs.declared.datum.Datum.TheVariants.{Null, Words, Whole, Truth}

-- a whole number from -9007199254740991 to 9007199254740991
abbrev pub in_profile : ℤ → Bool
in_profile z = int_le (negsuc 9007199254740990) z && int_le z (pos 9007199254740991)

abbrev pub whole_in_profile : ℤ → Option Datum
whole_in_profile z = if in_profile z then Some (Whole z) else None

abbrev pub whole_of : Num → Option Datum
whole_of n = option_and_then whole_in_profile (as_i64 n)

-- null, a truth value, a whole number of the profile or a text
abbrev pub datum_of : Data → Option Datum
datum_of json.null = Some Null
datum_of (json.boolean b) = Some (Truth b)
datum_of (json.number n) = whole_of n
datum_of (json.string s) = Some (Words s)
datum_of (json.array ds) = None
datum_of (json.object ms) = None

-- 1 is true and 0 is false
abbrev pub truth_of : ℤ → Option Datum
truth_of z = if int_eq z (pos 1) then Some (Truth true) else (if int_eq z (pos 0) then Some (Truth false) else None)

-- the value itself where a column of this kind keeps it
abbrev pub kept : Kind → Datum → Option Datum
kept kinds.Words (Words text) = Some (Words text)
kept kinds.Whole (Whole z) = whole_in_profile z
kept kinds.Truth (Truth b) = Some (Truth b)
kept kinds.Truth (Whole z) = truth_of z
kept kind other = None

-- what stands in the place of every other value
abbrev pub otherwise : Kind → Bool → Datum
otherwise kind true = Null
otherwise kinds.Words false = Words []
otherwise kinds.Whole false = Whole (pos 0)
otherwise kinds.Truth false = Truth false

-- what a column keeps of a value
abbrev pub fit : ColumnSchema → Datum → Datum
fit column value = unwrap_or (kept column.kind value) (otherwise column.kind column.optional)

abbrev pub truth_eq : Bool → Bool → Bool
truth_eq true b = b
truth_eq false b = not b

-- null equals null alone
abbrev pub datum_eq : Datum → Datum → Bool
datum_eq Null Null = true
datum_eq (Words a) (Words b) = bytes_eq a b
datum_eq (Whole a) (Whole b) = int_eq a b
datum_eq (Truth a) (Truth b) = truth_eq a b
datum_eq a b = false
