-- The columns of schemas that are read.
use Rattle.std.proofs.Common.{◌≡◌, ℕ, List, [], ◌∷◌, ◌++◌, Bool, true, false, not, Ok, bytes_eq, refl, sym, ap, subst}
use Rattle.std.specs.List.{list_any, AllByRecursion}
use Rattle.std.specs.Prelude.{is_none}
use Rattle.serde_json.specs.Data.{Data}
use Rattle.melon_schema.specs.Faults.{◌>>=◌, unless, or_fault, in_turn}
use Rattle.melon_schema.specs.Names.{is_name, is_reserved_column, is_reserved_table, are_distinct}
use Rattle.melon_schema.specs.Places.{table_named}
use Rattle.melon_schema.specs.Seen.{SeenSchema}
use Rattle.melon_schema.specs.SchemaForm.{schema_form}
use Rattle.melon_schema.specs.Schema.{is_within_limits, kind_named, with_column, with_table, are_associations, schema_of}
use Rattle.melon_schema.specs.Sound.{is_well_named, AreSound}
use Rattle.melon_schema.specs.declared.schema.TableSchema.{TableSchema}
use Rattle.melon_schema.specs.declared.schema.ColumnSchema.{ColumnSchema}
use Rattle.melon_schema.specs.declared.schema_form.ColumnForm.{ColumnForm}
use Rattle.melon_schema.specs.declared.schema_form.TableForm.{TableForm}
use Rattle.melon_schema.specs.declared.schema_fault.SchemaFault.TheVariants.{Form, BadName, Reserved, Repeated, UnknownKind, NoAssociation, Limit}
use Rattle.melon_table.proofs.Order.{and_left, and_right, both, all_append, bytes_apart, apart_bytes}
use Rattle.melon_change.proofs.Legal.{bind_ok}
use Rattle.melon_board.proofs.Answered.{same_ok, unless_ok}
use Rattle.melon_board.proofs.Distinct.{not_false, not_true, or_left, or_right}
use Rattle.melon_board.specs.Lasting.{HasSoundColumns, ReadSchemasAreSound}

-- ---- one more

module _ {X : Type 0} (name : X → List ℕ) where
  none_more : (word : List ℕ) (xs : List X) (new : X) → list_any (λ x. bytes_eq (name x) word) xs ≡ false → bytes_eq (name new) word ≡ false → list_any (λ x. bytes_eq (name x) word) (xs ++ new ∷ []) ≡ false
  none_more word [] new none off = rw off refl
  none_more word (x ∷ xs) new none off =
      rw (or_left (bytes_eq (name x) word) _ none) (none_more word xs new (or_right (bytes_eq (name x) word) _ none) off)

  distinct_more : (xs : List X) (new : X) → are_distinct name xs ≡ true → list_any (λ x. bytes_eq (name x) (name new)) xs ≡ false → are_distinct name (xs ++ new ∷ []) ≡ true
  distinct_more [] new apart none = refl
  distinct_more (x ∷ xs) new apart none =
      let others = list_any (λ y. bytes_eq (name y) (name x)) xs in
      let off : bytes_eq (name new) (name x) ≡ false = bytes_apart (name new) (name x) (λ e. apart_bytes (name x) (name new) (or_left (bytes_eq (name x) (name new)) _ none) (sym e)) in
      both _ _
      (not_true _ (none_more (name x) xs new (not_false others (and_left (not others) _ apart)) off))
      (distinct_more xs new (and_right (not others) _ apart) (or_right (bytes_eq (name x) (name new)) _ none))

each_more : {X : Type 0} (P : X → Type 0) (xs : List X) (x : X) → AllByRecursion P xs → P x → AllByRecursion P (xs ++ x ∷ [])
each_more P [] x all here = (here, tt)
each_more P (y ∷ ys) x all here = (all.0, each_more P ys x all.1 here)

-- ---- columns

with_column-sound : (earlier columns : List ColumnSchema) (form : ColumnForm) → with_column earlier form ≡ Ok columns → AreSound earlier → AreSound columns
unfolding with_column
with_column-sound earlier columns form h sound =
    let repeated = list_any (λ (c : ColumnSchema). bytes_eq c.name form.name) earlier in
    let a = bind_ok (unless (is_name form.name) BadName) _ columns h in
    let b = bind_ok (unless (not (is_reserved_column form.name)) Reserved) _ columns a.2 in
    let c = bind_ok (unless (not repeated) Repeated) _ columns b.2 in
    let d = bind_ok (or_fault (kind_named form.word) UnknownKind) _ columns c.2 in
    let new : ColumnSchema = record { name = form.name; kind = d.0; optional = form.optional; indexed = form.indexed } in
    let made : List ColumnSchema = earlier ++ new ∷ [] in
    let is : made ≡ columns = same_ok (Ok made) made columns refl d.2 in
    let named = both _ _ (unless_ok (is_name form.name) BadName a.0 a.1) (unless_ok (not (is_reserved_column form.name)) Reserved b.0 b.1) in
    subst (λ (cs : List ColumnSchema). AreSound cs) is (record {
      named = all_append is_well_named earlier (new ∷ []) sound.named (both _ _ named refl);
      distinct = distinct_more (λ (x : ColumnSchema). x.name) earlier new sound.distinct (not_false repeated (unless_ok (not repeated) Repeated c.0 c.1));
    })

columns-sound : (forms : List ColumnForm) (earlier columns : List ColumnSchema) → in_turn with_column earlier forms ≡ Ok columns → AreSound earlier → AreSound columns
columns-sound [] earlier columns h sound = subst (λ (cs : List ColumnSchema). AreSound cs) (same_ok (Ok earlier) earlier columns refl h) sound
columns-sound (f ∷ forms) earlier columns h sound =
    let a = bind_ok (with_column earlier f) _ columns h in
    columns-sound forms a.0 columns a.2 (with_column-sound earlier a.0 f a.1 sound)

-- ---- tables

with_table-sound : (earlier schema : SeenSchema) (form : TableForm) → with_table earlier form ≡ Ok schema → AllByRecursion HasSoundColumns earlier.tables → AllByRecursion HasSoundColumns schema.tables
unfolding with_table
with_table-sound earlier schema form h sound =
    let a = bind_ok (unless (is_name form.name) BadName) _ schema h in
    let b = bind_ok (unless (not (is_reserved_table form.name)) Reserved) _ schema a.2 in
    let c = bind_ok (unless (is_none (table_named form.name earlier.tables)) Repeated) _ schema b.2 in
    let d = bind_ok (in_turn with_column [] form.columns) _ schema c.2 in
    let new : TableSchema = record { name = form.name; columns = d.0; associations = form.associations } in
    let made : SeenSchema = record { version = earlier.version; tables = earlier.tables ++ new ∷ [] } in
    let is : made ≡ schema = same_ok (Ok made) made schema refl d.2 in
    subst (λ (s : SeenSchema). AllByRecursion HasSoundColumns s.tables) is (each_more HasSoundColumns earlier.tables new sound (columns-sound form.columns [] d.0 d.1 (record { named = refl; distinct = refl })))

tables-sound : (forms : List TableForm) (earlier schema : SeenSchema) → in_turn with_table earlier forms ≡ Ok schema → AllByRecursion HasSoundColumns earlier.tables → AllByRecursion HasSoundColumns schema.tables
tables-sound [] earlier schema h sound = subst (λ (s : SeenSchema). AllByRecursion HasSoundColumns s.tables) (same_ok (Ok earlier) earlier schema refl h) sound
tables-sound (f ∷ forms) earlier schema h sound =
    let a = bind_ok (with_table earlier f) _ schema h in
    tables-sound forms a.0 schema a.2 (with_table-sound earlier a.0 f a.1 sound)

pub read_sound : ReadSchemasAreSound
unfolding schema_of
read_sound d schema h =
    let a = bind_ok (or_fault (schema_form d) Form) _ schema h in
    let b = bind_ok (unless (is_within_limits a.0) Limit) _ schema a.2 in
    let c = bind_ok (in_turn with_table (record { version = a.0.version; tables = [] }) a.0.tables) _ schema b.2 in
    let e = bind_ok (unless (are_associations c.0.tables) NoAssociation) _ schema c.2 in
    subst (λ (s : SeenSchema). AllByRecursion HasSoundColumns s.tables) (same_ok (Ok c.0) c.0 schema refl e.2) (tables-sound a.0.tables (record { version = a.0.version; tables = [] }) c.0 c.1 tt)
