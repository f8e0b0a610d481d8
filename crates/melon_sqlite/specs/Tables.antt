-- The two tables, and the statements on them.
use Rattle.sqlite.specs.Collation.TheVariants.{Binary}
use Rattle.std.specs.Prelude.{true, false, [], ◌∷◌, None, codes, List, ℕ}
use Rattle.sqlite.specs.declared.types.Value.TheVariants.{Null}
use Rattle.sqlite.specs.Table.{Table}
use Rattle.sqlite.specs.Schema.{Schema}
use Rattle.sqlite_schema.specs.declared.schema.Index.{Index}
use Rattle.sqlite_value.specs.Keys.{plain}
use Rattle.sqlite.specs.Change.{created}
use Rattle.sqlite.specs.Kind.TheVariants.{Integer, Text, Blob}

-- the schema of an empty database
abbrev pub no_schema : Schema
no_schema = record { tables = []; indexes = []; views = [] }

abbrev pub rows_text : List ℕ
rows_text = codes "CREATE TABLE kept_rows (store TEXT NOT NULL, tbl TEXT NOT NULL, id TEXT NOT NULL, body BLOB NOT NULL, PRIMARY KEY (store, tbl, id)) STRICT"

abbrev pub values_text : List ℕ
values_text = codes "CREATE TABLE kept_values (store TEXT NOT NULL, name TEXT NOT NULL, value INTEGER NOT NULL, PRIMARY KEY (store, name)) STRICT"

abbrev pub kept_rows : Table
kept_rows = record {
  name = codes "kept_rows";
  tree = 0;
  columns = (record { name = codes "store"; kind = Text; is_strict = true; not_null = true; default = Null; collation = Binary })
      ∷ (record { name = codes "tbl"; kind = Text; is_strict = true; not_null = true; default = Null; collation = Binary })
      ∷ (record { name = codes "id"; kind = Text; is_strict = true; not_null = true; default = Null; collation = Binary })
      ∷ (record { name = codes "body"; kind = Blob; is_strict = true; not_null = true; default = Null; collation = Binary }) ∷ [];
  key = None;
  primary = 1 ∷ 2 ∷ 3 ∷ [];
  uniques = (1 ∷ 2 ∷ 3 ∷ []) ∷ [];
  orders = plain ∷ [];
  checks = [];
  references = [];
  computed = [];
  stamps = record { places = []; terms = []; formats = [] };
  is_counted = false;
}

abbrev pub kept_values : Table
kept_values = record {
  name = codes "kept_values";
  tree = 0;
  columns = (record { name = codes "store"; kind = Text; is_strict = true; not_null = true; default = Null; collation = Binary })
      ∷ (record { name = codes "name"; kind = Text; is_strict = true; not_null = true; default = Null; collation = Binary })
      ∷ (record { name = codes "value"; kind = Integer; is_strict = true; not_null = true; default = Null; collation = Binary }) ∷ [];
  key = None;
  primary = 1 ∷ 2 ∷ [];
  uniques = (1 ∷ 2 ∷ []) ∷ [];
  orders = plain ∷ [];
  checks = [];
  references = [];
  computed = [];
  stamps = record { places = []; terms = []; formats = [] };
  is_counted = false;
}

-- the schema with the first table alone
abbrev pub rows_schema : Schema
rows_schema = created no_schema kept_rows

-- the schema with exactly the two tables
abbrev pub kept_schema : Schema
kept_schema = created rows_schema kept_values

abbrev pub read_rows_text : List ℕ
read_rows_text = codes "SELECT tbl, id, body FROM kept_rows WHERE store = ?1 ORDER BY tbl, id"

abbrev pub clear_text : List ℕ
clear_text = codes "DELETE FROM kept_rows WHERE store = ?1"

abbrev pub remove_text : List ℕ
remove_text = codes "DELETE FROM kept_rows WHERE store = ?1 AND tbl = ?2 AND id = ?3"

abbrev pub put_text : List ℕ
put_text = codes "INSERT INTO kept_rows (store, tbl, id, body) VALUES (?1, ?2, ?3, ?4) ON CONFLICT (store, tbl, id) DO UPDATE SET body = excluded.body"

abbrev pub read_values_text : List ℕ
read_values_text = codes "SELECT name, value FROM kept_values WHERE store = ?1 ORDER BY name"

abbrev pub put_value_text : List ℕ
put_value_text = codes "INSERT INTO kept_values (store, name, value) VALUES (?1, ?2, ?3) ON CONFLICT (store, name) DO UPDATE SET value = excluded.value"

-- the tables as the schema has them
abbrev pub rows_table : Table
rows_table = record kept_rows { tree = 0 }

abbrev pub values_table : Table
values_table = record kept_values { tree = 2 }

-- the indexes of their keys
abbrev pub rows_index : Index
rows_index = record { name = codes "sqlite_autoindex_kept_rows_1"; tree = 1; table = 0; columns = 1 ∷ 2 ∷ 3 ∷ []; order = plain; is_unique = true }

abbrev pub values_index : Index
values_index = record { name = codes "sqlite_autoindex_kept_values_1"; tree = 3; table = 2; columns = 1 ∷ 2 ∷ []; order = plain; is_unique = true }
