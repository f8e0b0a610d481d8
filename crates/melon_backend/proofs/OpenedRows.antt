-- The rows of an opening: they are put one after the other, each under its own id, and the deleted ones have no cells.
use Rattle.std.proofs.Common.{◌≡◌, ℕ, zero, suc, ◌<◌, List, [], ◌∷◌, ◌++◌, length, map, get_or, set, filter, Bool, Option, Some, None, option_map, Result, Ok, Err, bytes_eq, refl, sym, ap, ◌∙◌, subst}
use Rattle.std.specs.Bool.{⊤}
use Rattle.std.specs.Prelude.{option_and_then}
use Rattle.std.specs.Option.{unwrap_or}
use Rattle.std.specs.List.{AllByRecursion}
use Rattle.std.proofs.lemmas.List.{length-map}
use Rattle.std.proofs.Math.ListN.{get_or-map}
use Rattle.melon_schema.specs.Faults.{◌>>=◌, or_fault, in_turn}
use Rattle.melon_schema.specs.Seen.{SeenSchema}
use Rattle.melon_schema.specs.Places.{table_named}
use Rattle.melon_schema.specs.declared.schema.TableSchema.{TableSchema}
use Rattle.melon_raw.specs.Order.{is_below}
use Rattle.melon_raw.specs.Rows.{table_at, no_table}
use Rattle.melon_outside.specs.declared.kept.Kept.{Kept}
use Rattle.melon_outside.specs.declared.kept.KeptRow.{KeptRow}
use Rattle.melon_outside.specs.declared.kept.OpenFault.TheVariants.{BadRow}
use Rattle.melon_wire.specs.Forms.{names_ascend}
use Rattle.melon_wire.proofs.KeyOrder.{split, same_bytes}
use Rattle.melon_log.specs.declared.server_row.ServerRow.{ServerRow}
use Rattle.melon_log.specs.ServerRows.{ServerRows, id_of}
use Rattle.melon_log.specs.Laws.{NamesApart}
use Rattle.melon_log.proofs.ById.{some_same, none_some}
use Rattle.melon_backend.specs.declared.put.Put.{Put}
use Rattle.melon_backend.specs.Bodies.{kept_row}
use Rattle.melon_backend.specs.Rows.{below, above, put_row, with_put, with_puts}
use Rattle.melon_backend.specs.Backends.{Plan, put_at, with_id, row_in_table, row_kept, row_opened, no_rows, rows_opened, revision_name, version_name, value_in, same_version, missing_values, batch_if_any, open_plan}
use Rattle.melon_backend.specs.Pushing.{row_filed}
use Rattle.melon_backend.specs.Drafts.{IsPutWithin}
use Rattle.melon_backend.specs.Standing.{IsBareIfDeleted}
use Rattle.melon_backend.proofs.Back.{kept_row-is}
use Rattle.melon_backend.proofs.Bare.{kept_row-bare}
use Rattle.melon_backend.proofs.Puts.{Ascends, ascends-puts, length-puts}
use Rattle.melon_backend.proofs.KeptBodies.{named_at}

-- ---- answers without a fault

pub bind_ok : {X Y E : Type 0} (r : Result X E) (f : X → Result Y E) (y : Y) → (r >>= f) ≡ Ok y → (x : X) × (r ≡ Ok x) × (f x ≡ Ok y)
bind_ok (Ok x) f y h = (x, refl, h)
bind_ok (Err e) f y h = cc

pub ok_same : {X E : Type 0} (x y : X) → (let r : Result X E = Ok x in r ≡ Ok y) → x ≡ y
ok_same x y h = cc

fault_ok : {X E : Type 0} (o : Option X) (e : E) (x : X) → or_fault o e ≡ Ok x → o ≡ Some x
fault_ok None e x h = cc
fault_ok (Some y) e x h = let same : y ≡ x = cc in ap Some same

then_some : {X Y : Type 0} (f : X → Option Y) (o : Option X) (y : Y) → option_and_then f o ≡ Some y → (x : X) × (o ≡ Some x) × (f x ≡ Some y)
then_some f None y h = cc
then_some f (Some x) y h = (x, refl, h)

map_some : {X Y : Type 0} (f : X → Y) (o : Option X) (y : Y) → option_map f o ≡ Some y → (x : X) × (o ≡ Some x) × (f x ≡ y)
map_some f None y h = cc
map_some f (Some x) y h = let same : f x ≡ y = cc in (x, refl, same)

-- ---- one kept row

with_id-is : (id : List ℕ) (made row : ServerRow) → with_id id made ≡ Some row → (made ≡ row) × (made.id ≡ id)
with_id-is id made row h = split (bytes_eq made.id id)
    (λ e. (some_same made row (rw e at h), same_bytes made.id id e))
    (λ e. absurd (none_some row (rw e at h)))

-- A put files the kept row.
record IsFound (schema : List TableSchema) (kept : KeptRow) (p : Put) : Type 0 where
  within : p.table < length schema
  filed : row_filed schema p ≡ kept
  bare : IsBareIfDeleted p.row

filed_path : (a b : KeptRow) → a.table ≡ b.table → a.id ≡ b.id → a.body ≡ b.body → a ≡ b
filed_path a b t i k = λ n. record { table = t n; id = i n; body = k n }

module _ (schema : List TableSchema) (apart : NamesApart schema) where
  found_is : (kept : KeptRow) (p : Put) → row_kept schema kept ≡ Some p → IsFound schema kept p
  found_is kept p h =
      let place = then_some (row_in_table schema kept) (table_named kept.table schema) p h in
      let row = map_some (put_at place.0) (option_and_then (with_id kept.id) (kept_row (table_at schema place.0) kept.body)) p place.2 in
      let made = then_some (with_id kept.id) (kept_row (table_at schema place.0) kept.body) row.0 row.1 in
      let own = with_id-is kept.id made.0 row.0 made.2 in
      let read : kept_row (table_at schema place.0) kept.body ≡ Some row.0 = made.1 ∙ ap Some own.0 in
      let there = named_at schema apart kept.table place.0 place.1 in
      let here : IsFound schema kept (put_at place.0 row.0) = record {
        within = there.0;
        filed =
            filed_path (row_filed schema (put_at place.0 row.0)) kept (sym there.1) (ap (λ (r : ServerRow). r.id) (sym own.0) ∙ own.1) (kept_row-is (table_at schema place.0) kept.body row.0 read);
        bare = kept_row-bare (table_at schema place.0) kept.body row.0 read;
      } in
      subst (IsFound schema kept) row.2 here

  -- ---- all kept rows

  -- The puts by which rows are read, one after the other.
  pub record IsRead (left : List KeptRow) (rows final : ServerRows) : Type 0 where
    pub ps : List Put
    pub filed : map (row_filed schema) ps ≡ left
    pub rows_are : with_puts rows ps ≡ final
    pub within : AllByRecursion (IsPutWithin (length schema)) ps
    pub bare : AllByRecursion (λ p. IsBareIfDeleted p.row) ps

  row_ok : (rows new : ServerRows) (kept : KeptRow) → row_opened schema rows kept ≡ Ok new → (p : Put) × IsFound schema kept p × (with_put rows p ≡ new)
  row_ok rows new kept h =
      let a = bind_ok (or_fault (row_kept schema kept) (BadRow kept.table kept.id)) (λ p. Ok (with_put rows p)) new h in
      (a.0, found_is kept a.0 (fault_ok (row_kept schema kept) (BadRow kept.table kept.id) a.0 a.1), ok_same (with_put rows a.0) new a.2)

  pub all_read : (left : List KeptRow) (rows final : ServerRows) → in_turn (row_opened schema) rows left ≡ Ok final → IsRead left rows final
  all_read [] rows final h = record { ps = []; filed = refl; rows_are = ok_same rows final h; within = tt; bare = tt }
  all_read (k ∷ left) rows final h =
      let a = bind_ok (row_opened schema rows k) _ final h in
      let one = row_ok rows a.0 k a.1 in
      let later = all_read left a.0 final a.2 in
      record {
        ps = one.0 ∷ later.ps;
        filed = (λ i. one.1.filed i ∷ later.filed i);
        rows_are = ap (λ (q : ServerRows). with_puts q later.ps) one.2 ∙ later.rows_are;
        within = (one.1.within, later.within);
        bare = (one.1.bare, later.bare);
      }

-- ---- rows that have no cells where they are deleted

all-filter : (P : ServerRow → Type 0) (q : ServerRow → Bool) (rows : List ServerRow) → AllByRecursion P rows → AllByRecursion P (filter q rows)
all-filter P q [] all = tt
all-filter P q (r ∷ rs) all =
    let ih : AllByRecursion P (filter q rs) = all-filter P q rs all.1 in
    split (q r) (λ e. rw e (all.0, ih)) (λ e. rw e ih)

all-append : (P : ServerRow → Type 0) (xs ys : List ServerRow) → AllByRecursion P xs → AllByRecursion P ys → AllByRecursion P (xs ++ ys)
all-append P [] ys all more = more
all-append P (x ∷ xs) ys all more = (all.0, all-append P xs ys all.1 more)

set_each : (P : List ServerRow → Type 0) (rows : ServerRows) (t : ℕ) (new : List ServerRow) → P new → ((u : ℕ) → P (get_or rows u [])) → (u : ℕ) → P (get_or (set rows t new) u [])
set_each P [] t new here all u = all u
set_each P (rs ∷ rows) zero new here all zero = here
set_each P (rs ∷ rows) zero new here all (suc u) = all (suc u)
set_each P (rs ∷ rows) (suc t) new here all zero = all zero
set_each P (rs ∷ rows) (suc t) new here all (suc u) = set_each P rows t new here (λ n. all (suc n)) u

abbrev pub AreBare : ServerRows → Type 0
AreBare rows = (i : ℕ) → AllByRecursion IsBareIfDeleted (get_or rows i [])

bare-put : (rows : ServerRows) (p : Put) → IsBareIfDeleted p.row → AreBare rows → AreBare (with_put rows p)
bare-put rows p is bare =
    let old = get_or rows p.table [] in
    let first : AllByRecursion IsBareIfDeleted (below p.row.id old) = all-filter IsBareIfDeleted (λ r. is_below r.id p.row.id) old (bare p.table) in
    let last : AllByRecursion IsBareIfDeleted (above p.row.id old) = all-filter IsBareIfDeleted (λ r. is_below p.row.id r.id) old (bare p.table) in
    set_each (AllByRecursion IsBareIfDeleted) rows p.table (put_row p.row old) (all-append IsBareIfDeleted (below p.row.id old) (p.row ∷ above p.row.id old) first (is, last)) bare

bare-puts : (ps : List Put) (rows : ServerRows) → AllByRecursion (λ (p : Put). IsBareIfDeleted p.row) ps → AreBare rows → AreBare (with_puts rows ps)
bare-puts [] rows all bare = bare
bare-puts (p ∷ ps) rows all bare = bare-puts ps (with_put rows p) all.1 (bare-put rows p all.0 bare)

-- ---- no rows

pub none_long : (schema : List TableSchema) → length (no_rows schema) ≡ length schema
none_long schema = length-map schema (λ (s : TableSchema). let rs : List ServerRow = [] in rs)

pub none_there : (schema : List TableSchema) (t : ℕ) → get_or (no_rows schema) t [] ≡ []
none_there schema t = get_or-map (λ (s : TableSchema). let rs : List ServerRow = [] in rs) schema t no_table

pub none_ascend : (schema : List TableSchema) → Ascends (no_rows schema)
none_ascend schema i = ap (names_ascend id_of) (none_there schema i)

none_bare : (schema : List TableSchema) → AreBare (no_rows schema)
none_bare schema i = subst (AllByRecursion IsBareIfDeleted) (sym (none_there schema i)) tt

-- ---- rows that were read

module _ (schema : List TableSchema) (apart : NamesApart schema) (left : List KeptRow) (final : ServerRows) (read : IsRead schema apart left (no_rows schema) final) where
  abbrev within_none : AllByRecursion (IsPutWithin (length (no_rows schema))) read.ps
  within_none = subst (λ (n : ℕ). AllByRecursion (IsPutWithin n) read.ps) (sym (none_long schema)) read.within

  pub read_long : length final ≡ length schema
  read_long = ap length (sym read.rows_are) ∙ (length-puts read.ps (no_rows schema) ∙ none_long schema)

  pub read_ascends : Ascends final
  read_ascends = subst Ascends read.rows_are (ascends-puts read.ps (no_rows schema) within_none (none_ascend schema))

  pub read_bare : AreBare final
  read_bare = subst AreBare read.rows_are (bare-puts read.ps (no_rows schema) read.bare (none_bare schema))

-- ---- the plan of an opening

abbrev pub opened_plan : List ℕ → SeenSchema → Kept → ServerRows → Plan
opened_plan name schema kept rows = record {
  batch = batch_if_any (missing_values schema.version kept.values);
  after = record { name = name; schema = schema; rows = rows; revision = unwrap_or (value_in revision_name kept.values) 1 };
}

pub record IsOpened (name : List ℕ) (schema : SeenSchema) (kept : Kept) (plan : Plan) : Type 0 where
  pub rows : ServerRows
  pub read : rows_opened schema.tables kept.rows ≡ Ok rows
  pub done : ⊤
  pub version : same_version (value_in version_name kept.values) schema.version ≡ Ok done
  pub is : opened_plan name schema kept rows ≡ plan

pub open_plan-is : (name : List ℕ) (schema : SeenSchema) (kept : Kept) (plan : Plan) → open_plan name schema kept ≡ Ok plan → IsOpened name schema kept plan
unfolding open_plan
open_plan-is name schema kept plan h =
    let a = bind_ok (rows_opened schema.tables kept.rows) _ plan h in
    let b = bind_ok (same_version (value_in version_name kept.values) schema.version) _ plan a.2 in
    record {
      rows = a.0;
      read = a.1;
      done = b.0;
      version = b.1;
      is = ok_same (opened_plan name schema kept a.0) plan b.2;
    }
