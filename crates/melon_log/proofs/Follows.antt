-- The row after one more push.
use Rattle.std.proofs.Common.{◌≡◌, ℕ, zero, suc, ◌+◌, ◌<◌, ◌≤◌, List, [], ◌∷◌, length, get_or, map, Bool, true, false, ◌||◌, Option, Some, None, refl, sym, ap, ◌∙◌, subst, arith, cond}
use Rattle.std.specs.Bool.{MatchBool}
use Rattle.std.specs.Option.{option_or, is_some, unwrap_or, option_map}
use Rattle.std.specs.List.{range_with_len}
use Rattle.std.proofs.lemmas.List.FromFn.{get_or-map-range_with_len}
use Rattle.melon_schema.specs.declared.schema.ColumnSchema.{ColumnSchema}
use Rattle.melon_raw.specs.declared.datum.Datum.{Datum}
use Rattle.melon_raw.specs.declared.datum.Datum.TheVariants.{Null}
use Rattle.melon_raw.specs.declared.datum.OpField.{OpField}
use Rattle.melon_raw.specs.Datum.{fit}
use Rattle.melon_raw.specs.Rows.{no_column, column_at}
use Rattle.melon_wire.specs.Resolution.{value_in, remote_or, born_cell}
use Rattle.melon_wire.specs.Standing.{Standing, as_created, as_updated, as_deleted, in_no_list}
use Rattle.melon_log.specs.declared.server_row.ServerRow.{ServerRow}
use Rattle.melon_log.specs.ServerRows.{is_live, made, overwritten, sent_to, if_live, next_row}
use Rattle.melon_log.specs.Log.{Said, Sending, Life, with_later, last_sending, earliest, since_deletion, has_deletion, fields_sent, sends, deletes, last_value, live_of, life_of, created_in, cell_with, cell_in, row_sent, deleted_since, row_found, row_after}

-- the row that a deletion leaves
abbrev pub dropped : Option ServerRow → ℕ → Option ServerRow
dropped row r = option_or (if_live r row) row

-- an opening row has the id
abbrev pub IsOpening : List ℕ → Option ServerRow → Type 0
IsOpening id None = Unit {0}
IsOpening id (Some row) = row.id ≡ id

pub or_none : {A : Type 0} (o : Option A) → option_or o None ≡ o
or_none None = refl
or_none (Some x) = refl

-- ---- columns by their places

range_next : {X : Type 0} (f : ℕ → X) (a n : ℕ) → map f (range_with_len (a + 1) n) ≡ map (λ c. f (c + 1)) (range_with_len a n)
range_next f a zero = refl
range_next {X} f a (suc n) = ap (λ (rest : List X). f (a + 1) ∷ rest) (range_next f (a + 1) n)

next_place : {X : Type 0} (x : X) (xs : List X) (d : X) (c : ℕ) → get_or (x ∷ xs) (c + 1) d ≡ get_or xs c d
next_place x xs d c = let e : c + 1 ≡ suc c = omega arith in ap (λ (i : ℕ). get_or (x ∷ xs) i d) e

map_same : {A B : Type 0} (f g : A → B) → ((x : A) → f x ≡ g x) → (xs : List A) → map f xs ≡ map g xs
map_same f g h [] = refl
map_same {A} {B} f g h (x ∷ xs) = ap (λ (y : B). y ∷ map f xs) (h x) ∙ ap (λ (ys : List B). g x ∷ ys) (map_same f g h xs)

-- what is made of each item is made of each place
pub map_places : {A B : Type 0} (f : A → B) (xs : List A) (d : A) → map (λ c. f (get_or xs c d)) (range_with_len 0 (length xs)) ≡ map f xs
map_places f [] d = refl
map_places {A} {B} f (x ∷ xs) d =
    ap (λ (rest : List B). f x ∷ rest)
    (range_next (λ c. f (get_or (x ∷ xs) c d)) 0 (length xs)
    ∙ map_same (λ c. f (get_or (x ∷ xs) (c + 1) d)) (λ c. f (get_or xs c d)) (λ c. ap f (next_place x xs d c)) (range_with_len 0 (length xs))
    ∙ map_places f xs d)

pub not_none : {A : Type 0} (a : A) → Some a ≡ None → ⊥
not_none a e = cc

or_some : {A : Type 0} (o : Option A) (x : A) → is_some (option_or o (Some x)) ≡ true
or_some None x = refl
or_some (Some y) x = refl

-- ---- a push that doesn't name x

unnamed : (columns : List ColumnSchema) (id : List ℕ) (o : Option ServerRow) (r : ℕ) (ss : List Said) (m : Option Sending)
    → row_found columns id o (record { revision = r; how = in_no_list } ∷ ss) (option_map (with_later (record { revision = r; how = in_no_list })) m) ≡ row_found columns id o ss m
unnamed columns id None r ss None = refl
unnamed columns id (Some row) r ss None = ap (λ e. Some (deleted_since row e)) (or_none (earliest deletes ss))
unnamed columns id o r ss (Some found) =
    ap (λ e. Some (record { id = id; created = created_in (life_of o found.push found.earlier) (life_of o found.push found.earlier).begin; changed = found.push.revision; deleted = e; cells = cond (is_some e) [] (map (cell_in columns (life_of o found.push found.earlier)) (range_with_len 0 (length columns))) }))
    (or_none (earliest deletes found.later))

-- ---- a push that lists x as deleted

dropped_unsent : (id : List ℕ) (created changed r : ℕ) (d e : Option ℕ) (cells : List Datum)
    → Some (deleted_since (record { id = id; created = created; changed = changed; deleted = d; cells = cells }) (option_or e (Some r)))
    ≡ dropped (Some (deleted_since (record { id = id; created = created; changed = changed; deleted = d; cells = cells }) e)) r
dropped_unsent id created changed r None None cells = refl
dropped_unsent id created changed r None (Some e) cells = refl
dropped_unsent id created changed r (Some d) None cells = refl
dropped_unsent id created changed r (Some d) (Some e) cells = refl

dropped_sent : (id : List ℕ) (created changed r : ℕ) (e : Option ℕ) (cells : List Datum)
    → Some (record { id = id; created = created; changed = changed; deleted = option_or e (Some r); cells = cond (is_some (option_or e (Some r))) [] cells })
    ≡ dropped (Some (record { id = id; created = created; changed = changed; deleted = e; cells = cond (is_some e) [] cells })) r
dropped_sent id created changed r None cells = refl
dropped_sent id created changed r (Some e) cells = refl

unlisted : (columns : List ColumnSchema) (id : List ℕ) (o : Option ServerRow) (r : ℕ) (ss : List Said) (m : Option Sending)
    → row_found columns id o (record { revision = r; how = as_deleted } ∷ ss) (option_map (with_later (record { revision = r; how = as_deleted })) m) ≡ dropped (row_found columns id o ss m) r
unlisted columns id None r ss None = refl
unlisted columns id (Some row) r ss None = dropped_unsent row.id row.created row.changed r row.deleted (earliest deletes ss) row.cells
unlisted columns id o r ss (Some found) =
    dropped_sent id (created_in (life_of o found.push found.earlier) (life_of o found.push found.earlier).begin) found.push.revision r (earliest deletes found.later) (map (cell_in columns (life_of o found.push found.earlier)) (range_with_len 0 (length columns)))

-- ---- the life that a next push that sends x belongs to

abbrev life_so_far : Option ServerRow → List Said → Life
life_so_far o ss = record { begin = cond (has_deletion ss) None (live_of o); pushes = since_deletion ss }

-- nothing has begun
abbrev IsBare : Option ServerRow → List Said → Type 0
IsBare o ss = ((life_so_far o ss).begin ≡ None) × (earliest sends (since_deletion ss) ≡ None) × ((name : List ℕ) → last_value name (since_deletion ss) ≡ None)

-- the row is what its life makes it
abbrev IsLiving : List ColumnSchema → Option ServerRow → List Said → ServerRow → Type 0
IsLiving columns o ss row =
    (created_in (life_so_far o ss) (life_so_far o ss).begin ≡ row.created)
    × ((life_so_far o ss).begin ≡ None → is_some (earliest sends (since_deletion ss)) ≡ true)
    × ((c : ℕ) → c < length columns → get_or row.cells c Null ≡ cell_in columns (life_so_far o ss) c)

abbrev HasLife : List ColumnSchema → Option ServerRow → List Said → Option ServerRow → Type 0
HasLife columns o ss None = IsBare o ss
HasLife columns o ss (Some row) = MatchBool (is_live row) (IsLiving columns o ss row) (IsBare o ss)

opened : (columns : List ColumnSchema) (id : List ℕ) (created changed : ℕ) (d : Option ℕ) (cells : List Datum)
    → HasLife columns (Some (record { id = id; created = created; changed = changed; deleted = d; cells = cells })) [] (Some (deleted_since (record { id = id; created = created; changed = changed; deleted = d; cells = cells }) None))
opened columns id created changed None cells = (refl, λ e. absurd (not_none _ e), λ c h. refl)
opened columns id created changed (Some d) cells = (refl, refl, λ name. refl)

bare_dropped : (columns : List ColumnSchema) (o : Option ServerRow) (ss : List Said) (row : Option ServerRow) (r : ℕ) → IsBare o ss → HasLife columns o ss (dropped row r)
bare_dropped columns o ss None r h = h
bare_dropped columns o ss (Some row) r h = by (is_live row) refl
  where
    by : (b : Bool) → is_live row ≡ b → HasLife columns o ss (dropped (Some row) r)
    by true e = rw e h
    by false e = rw e (rw e h)

-- a push that doesn't name x changes nothing of this
longer_bare : (o : Option ServerRow) (r : ℕ) (ss : List Said) → IsBare o ss → IsBare o (record { revision = r; how = in_no_list } ∷ ss)
longer_bare o r ss h = (h.0, or_none _ ∙ h.1, h.2)

created_longer : (b : Option ServerRow) (r : ℕ) (ss : List Said) → created_in (record { begin = b; pushes = record { revision = r; how = in_no_list } ∷ ss }) b ≡ created_in (record { begin = b; pushes = ss }) b
created_longer None r ss = ap (λ e. unwrap_or e 0) (or_none (earliest sends ss))
created_longer (Some b) r ss = refl

longer : (columns : List ColumnSchema) (o : Option ServerRow) (r : ℕ) (ss : List Said) (row : Option ServerRow) → HasLife columns o ss row → HasLife columns o (record { revision = r; how = in_no_list } ∷ ss) row
longer columns o r ss None h = longer_bare o r ss h
longer columns o r ss (Some row) h = by (is_live row) h
  where
    by : (b : Bool) → MatchBool b (IsLiving columns o ss row) (IsBare o ss) → MatchBool b (IsLiving columns o (record { revision = r; how = in_no_list } ∷ ss) row) (IsBare o (record { revision = r; how = in_no_list } ∷ ss))
    by true k = (created_longer (life_so_far o ss).begin r (since_deletion ss) ∙ k.0, λ e. rw (or_none (earliest sends (since_deletion ss))) (k.1 e), k.2)
    by false k = longer_bare o r ss k

has_life_sent : (columns : List ColumnSchema) (id : List ℕ) (o : Option ServerRow) (r : ℕ) (s : Standing) (ss : List Said) → sends s ≡ true → deletes s ≡ false
    → IsLiving columns o (record { revision = r; how = s } ∷ ss) (row_sent columns id o (record { later = []; push = record { revision = r; how = s }; earlier = ss }))
has_life_sent columns id o r s ss f d =
    let n : Said = record { revision = r; how = s } in
    let same : since_deletion (n ∷ ss) ≡ n ∷ since_deletion ss = rw d refl in
    let begin : (life_so_far o (n ∷ ss)).begin ≡ (life_so_far o ss).begin = ap (λ b. cond (b || has_deletion ss) None (live_of o)) d in
    let life : life_so_far o (n ∷ ss) ≡ life_of o n ss = λ i. record { begin = begin i; pushes = same i } in (
      ap (λ l. created_in l l.begin) life,
      λ e. rw same (rw f (or_some (earliest sends (since_deletion ss)) r)),
      λ c h. get_or-map-range_with_len (cell_in columns (life_of o n ss)) 0 (length columns) c c Null h (omega arith) ∙ ap (λ l. cell_in columns l c) (sym life),
    )

has_life_more : (columns : List ColumnSchema) (id : List ℕ) (o : Option ServerRow) (r : ℕ) (s : Standing) (ss : List Said) → HasLife columns o ss (row_after columns id o ss)
    → HasLife columns o (record { revision = r; how = s } ∷ ss) (row_after columns id o (record { revision = r; how = s } ∷ ss))
unfolding row_after
has_life_more columns id o r (as_created f) ss h = has_life_sent columns id o r (as_created f) ss refl refl
has_life_more columns id o r (as_updated f) ss h = has_life_sent columns id o r (as_updated f) ss refl refl
has_life_more columns id o r as_deleted ss h =
    subst (HasLife columns o (record { revision = r; how = as_deleted } ∷ ss)) (sym (unlisted columns id o r ss (last_sending ss)))
    (bare_dropped columns o (record { revision = r; how = as_deleted } ∷ ss) (row_after columns id o ss) r (refl, refl, λ name. refl))
has_life_more columns id o r in_no_list ss h =
    subst (HasLife columns o (record { revision = r; how = in_no_list } ∷ ss)) (sym (unnamed columns id o r ss (last_sending ss))) (longer columns o r ss (row_after columns id o ss) h)

has_life : (columns : List ColumnSchema) (id : List ℕ) (o : Option ServerRow) (ss : List Said) → HasLife columns o ss (row_after columns id o ss)
unfolding row_after
has_life columns id None [] = (refl, refl, λ name. refl)
has_life columns id (Some row) [] = opened columns row.id row.created row.changed row.deleted row.cells
has_life columns id o (s ∷ ss) = has_life_more columns id o s.revision s.how ss (has_life columns id o ss)

-- ---- a push that sends x

pub server_path : (a b : ServerRow) → a.id ≡ b.id → a.created ≡ b.created → a.changed ≡ b.changed → a.deleted ≡ b.deleted → a.cells ≡ b.cells → a ≡ b
server_path a b p q r s t = λ i. record { id = p i; created = q i; changed = r i; deleted = s i; cells = t i }

pub map_range : {X : Type 0} (f g : ℕ → X) (a n : ℕ) → ((c : ℕ) → a ≤ c → c < a + n → f c ≡ g c) → map f (range_with_len a n) ≡ map g (range_with_len a n)
map_range f g a zero h = refl
map_range f g a (suc n) h =
    let ih : map f (range_with_len (a + 1) n) ≡ map g (range_with_len (a + 1) n) = map_range f g (a + 1) n (λ c l k. h c (omega arith) (omega arith)) in
    rw (h a (omega arith) (omega arith)) (rw ih refl)

cell_bare : (column : ColumnSchema) (c : ℕ) (v : Option Datum) → cell_with column c None (option_or v None) ≡ fit column (unwrap_or v Null)
cell_bare column c None = refl
cell_bare column c (Some v) = refl

cell_living : (column : ColumnSchema) (c : ℕ) (b : Option ServerRow) (old : Datum) (v l : Option Datum) → old ≡ cell_with column c b l → cell_with column c b (option_or v l) ≡ remote_or column old v
cell_living column c b old None l h = sym h
cell_living column c b old (Some v) l h = refl

created_bare : (b : Option ServerRow) (r : ℕ) (s : Standing) (ss : List Said) → b ≡ None → sends s ≡ true → earliest sends ss ≡ None → created_in (record { begin = b; pushes = record { revision = r; how = s } ∷ ss }) b ≡ r
created_bare b r s ss e f h = rw e (rw (h, f) refl)

created_living : (b : Option ServerRow) (r old : ℕ) (s : Standing) (ss : List Said) → created_in (record { begin = b; pushes = ss }) b ≡ old → (b ≡ None → is_some (earliest sends ss) ≡ true)
    → created_in (record { begin = b; pushes = record { revision = r; how = s } ∷ ss }) b ≡ old
created_living (Some b) r old s ss h k = h
created_living None r old s ss h k = more (earliest sends ss) (cond (sends s) (Some r) None) (k refl) ∙ h
  where
    more : (e o : Option ℕ) → is_some e ≡ true → unwrap_or (option_or e o) 0 ≡ unwrap_or e 0
    more None o i = absurd (let j : false ≡ true = i in cc)
    more (Some e) o i = refl

sent_bare : (columns : List ColumnSchema) (id : List ℕ) (o : Option ServerRow) (r : ℕ) (s : Standing) (fields : List OpField) (ss : List Said) → fields_sent s ≡ Some fields → IsBare o ss
    → row_sent columns id o (record { later = []; push = record { revision = r; how = s }; earlier = ss }) ≡ made columns id r fields
sent_bare columns id o r s fields ss f h = server_path _ _ refl
    (created_bare _ r s (since_deletion ss) h.0 (ap is_some f) h.1) refl refl
    (map_range _ (λ c. born_cell fields (column_at columns c)) 0 (length columns) (λ c l k. rw (h.0, f, h.2 (column_at columns c).name) (cell_bare (column_at columns c) c (value_in fields (column_at columns c).name)))
    ∙ map_places (born_cell fields) columns no_column)

sent_living : (columns : List ColumnSchema) (id : List ℕ) (o : Option ServerRow) (r : ℕ) (s : Standing) (fields : List OpField) (ss : List Said) (row : ServerRow) → fields_sent s ≡ Some fields → IsLiving columns o ss row → row.id ≡ id
    → row_sent columns id o (record { later = []; push = record { revision = r; how = s }; earlier = ss }) ≡ overwritten columns row r fields
sent_living columns id o r s fields ss row f h k = server_path _ _ (sym k)
    (created_living _ r row.created s (since_deletion ss) h.0 h.1) refl refl
    (map_range _ _ 0 (length columns) (λ c l m. rw f (cell_living (column_at columns c) c _ (get_or row.cells c Null) (value_in fields (column_at columns c).name) (last_value (column_at columns c).name (since_deletion ss)) (h.2 c (omega arith)))))

sent : (columns : List ColumnSchema) (id : List ℕ) (o : Option ServerRow) (r : ℕ) (s : Standing) (fields : List OpField) (ss : List Said) (row : Option ServerRow) → fields_sent s ≡ Some fields
    → HasLife columns o ss row → IsOpening id row
    → row_sent columns id o (record { later = []; push = record { revision = r; how = s }; earlier = ss }) ≡ sent_to columns id row r fields
sent columns id o r s fields ss None f h k = sent_bare columns id o r s fields ss f h
sent columns id o r s fields ss (Some row) f h k = by (is_live row) refl h
  where
    by : (b : Bool) → is_live row ≡ b → MatchBool b (IsLiving columns o ss row) (IsBare o ss)
        → row_sent columns id o (record { later = []; push = record { revision = r; how = s }; earlier = ss }) ≡ sent_to columns id (Some row) r fields
    by true e m = rw e (sent_living columns id o r s fields ss row f m k)
    by false e m = rw e (sent_bare columns id o r s fields ss f m)

-- a row keeps its id
keeps : (columns : List ColumnSchema) (id : List ℕ) (o : Option ServerRow) (ss : List Said) (m : Option Sending) → IsOpening id o → IsOpening id (row_found columns id o ss m)
keeps columns id None ss None h = tt
keeps columns id (Some row) ss None h = h
keeps columns id o ss (Some found) h = refl

pub row_id : (columns : List ColumnSchema) (id : List ℕ) (o : Option ServerRow) (ss : List Said) → IsOpening id o → IsOpening id (row_after columns id o ss)
unfolding row_after
row_id columns id o ss h = keeps columns id o ss (last_sending ss) h

-- the row after one more push follows from the row before it, and from what that push says of the record
pub follows : (columns : List ColumnSchema) (id : List ℕ) (o : Option ServerRow) (r : ℕ) (s : Standing) (ss : List Said) → IsOpening id o
    → row_after columns id o (record { revision = r; how = s } ∷ ss) ≡ next_row columns id (row_after columns id o ss) r s
unfolding row_after
follows columns id o r (as_created fields) ss k = ap Some (sent columns id o r (as_created fields) fields ss (row_after columns id o ss) refl (has_life columns id o ss) (row_id columns id o ss k))
follows columns id o r (as_updated fields) ss k = ap Some (sent columns id o r (as_updated fields) fields ss (row_after columns id o ss) refl (has_life columns id o ss) (row_id columns id o ss k))
follows columns id o r as_deleted ss k = unlisted columns id o r ss (last_sending ss)
follows columns id o r in_no_list ss k = unnamed columns id o r ss (last_sending ss)
