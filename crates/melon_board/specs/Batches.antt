-- What a keeper is to do for a change set, and for values.
use Rattle.std.specs.Prelude.{ℕ, List, [], ◌∷◌, ◌++◌, filter_map, Bool, true, false, Option, Some, None, option_to_list, codes}
use Rattle.melon_schema.specs.declared.schema.TableSchema.{TableSchema}
use Rattle.melon_raw.specs.declared.raw.Raw.{Raw}
use Rattle.melon_raw.specs.Rows.{table_at}
use Rattle.melon_raw.specs.Encoding.{encoding}
use Rattle.melon_change.specs.declared.change.Change.{Change}
use Rattle.melon_outside.specs.declared.kept.KeptKey.{KeptKey}
use Rattle.melon_outside.specs.declared.kept.KeptRow.{KeptRow}
use Rattle.melon_outside.specs.declared.kept.KeptValue.{KeptValue}
use Rattle.melon_outside.specs.declared.kept.KeptBatch.{KeptBatch}

-- a record whose row is gone
abbrev pub removal_of : TableSchema → List ℕ → Option Raw → Option KeptKey
removal_of table id None = Some (record { table = table.name; id = id })
removal_of table id (Some row) = None

-- a record's row, as it is kept
abbrev pub filing_of : TableSchema → List ℕ → Option Raw → Option KeptRow
filing_of table id None = None
filing_of table id (Some row) = Some (record { table = table.name; id = id; body = encoding table row })

abbrev pub removal : List TableSchema → Change → Option KeptKey
removal schema c = removal_of (table_at schema c.table) c.id c.after

abbrev pub filing : List TableSchema → Change → Option KeptRow
filing schema c = filing_of (table_at schema c.table) c.id c.after

-- the records without a row after are removed, and the encodings of the rows after are put
abbrev pub kept_batch : List TableSchema → List Change → KeptBatch
kept_batch schema set = record {
  clear = false;
  removes = filter_map (removal schema) set;
  puts = filter_map (filing schema) set;
  values = [];
}

-- values alone
abbrev pub values_batch : List KeptValue → KeptBatch
values_batch values = record { clear = false; removes = []; puts = []; values = values }

abbrev pub value : List ℕ → ℕ → KeptValue
value name number = record { name = name; number = number }

abbrev pub last_name : List ℕ
last_name = codes "last_pulled_at"

abbrev pub version_name : List ℕ
version_name = codes "schema_version"

abbrev pub last_batch : ℕ → KeptBatch
last_batch at = values_batch (value last_name at ∷ [])

-- a record's row after is asked for as well
abbrev pub asked_also : KeptBatch → TableSchema → List ℕ → Option Raw → KeptBatch
asked_also batch table id after = record {
  clear = batch.clear;
  removes = batch.removes ++ option_to_list (removal_of table id after);
  puts = batch.puts ++ option_to_list (filing_of table id after);
  values = batch.values;
}
