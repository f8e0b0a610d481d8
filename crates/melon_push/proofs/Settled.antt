-- What a settlement leaves of each record, and that it is one that a settled entry may have.
use Rattle.std.proofs.Common.{◌≡◌, ℕ, zero, suc, ◌<◌, List, [], ◌∷◌, ◌++◌, length, map, find, get_or, Bool, true, false, ◌&&◌, ◌||◌, cond, Option, Some, None, option_map, unwrap_or, refl, sym, ap, ◌∙◌, subst, arith, inl, inr, ◌⊎◌}
use Rattle.std.specs.List.{list_all, list_any, filter_map, cons_option, AllByRecursion}
use Rattle.std.proofs.lemmas.Bool.{and_parts, or_parts}
use Rattle.melon_schema.specs.declared.schema.ColumnSchema.{ColumnSchema}
use Rattle.melon_schema.specs.declared.schema.TableSchema.{TableSchema}
use Rattle.melon_raw.specs.declared.raw.Status.{Status}
use Rattle.melon_raw.specs.declared.raw.Status.TheVariants.{Created, Updated, Deleted}
use Rattle.melon_raw.specs.declared.raw.Raw.{Raw}
use Rattle.melon_raw.specs.Edits.{row_synced}
use Rattle.melon_raw.specs.Rows.{Key, Rows, Fits, is_key, at, at_id}
use Rattle.melon_raw.proofs.Fitting.{Fits-row_synced}
use Rattle.melon_table.specs.Seen.{SeenTable, rows_of, columns_of, declared_columns}
use Rattle.melon_table.proofs.ById.{id-at_id}
use Rattle.melon_change.specs.declared.change.Change.{Change}
use Rattle.melon_change.specs.declared.history.Origin.TheVariants as origins
use Rattle.melon_change.specs.Batch.{change_to}
use Rattle.melon_change.specs.Changes.{columns_at, key_of, change_of, after_set}
use Rattle.melon_change.specs.History.{KeepsId, FitsIfAny, IsAllowed, IsChange, AreChanges}
use Rattle.melon_change.specs.Legality.{RowsFit}
use Rattle.melon_change.proofs.After.{AreApart, after_of, at_after}
use Rattle.melon_wire.specs.declared.fetch.Held.{Held}
use Rattle.melon_wire.specs.declared.fetch.Gone.{Gone}
use Rattle.melon_wire.specs.declared.fetch.Fetch.{Fetch}
use Rattle.melon_wire.specs.Keys.{is_in, ascending}
use Rattle.melon_raw.specs.Same.{row_eq}
use Rattle.melon_wire.specs.Collected.{has_status, held_key, gone_key, keys_fetched, IsFetch}
use Rattle.melon_wire.specs.Settled.{Collection, as_row, as_id, not_collected, held_of, is_gone, collects, collection, settlement, settled_by, settled_to}
use Rattle.melon_wire.proofs.KeyOrder.{split}
use Rattle.melon_raw.proofs.Equals.{status_same, row_same}
use Rattle.melon_wire.proofs.Ascent.{is_in-ascending, do_ascend-ascending}
use Rattle.melon_wire.proofs.KeyedLists.{AllApart, found_made, all_apart, all_unit}
use Rattle.melon_push.specs.Settling.{change_settled, settled_change, settled}
use Rattle.melon_push.specs.Fetching.{BeforesFit}
use Rattle.melon_push.specs.Laws.{LeavesSettled, SettledLeavesCopies, SettledIsAllowed}

-- ---- one record

-- What a change of a settlement is made of.
pub record IsSettling (x : Key) (before : Option Raw) (how : Collection) (c : Change) : Type 0 where
  pub row : Raw
  pub after : Option Raw
  pub was : before ≡ Some row
  pub to : settlement row how ≡ Some after
  pub is : change_to x.table x.id (Some row) after ≡ c

settling : (x : Key) (before : Option Raw) (how : Collection) (c : Change) → change_settled x before how ≡ Some c → IsSettling x before how c
settling x None how c h = cc
settling x (Some row) how c h = by (settlement row how) refl h
  where
    by : (o : Option (Option Raw)) → settlement row how ≡ o → option_map (change_to x.table x.id (Some row)) (settlement row how) ≡ Some c → IsSettling x (Some row) how c
    by None e k = absurd (none_some (rw e at k))
      where
        none_some : None ≡ Some c → ⊥
        none_some f = cc
    by (Some after) e k = record { row = row; after = after; was = refl; to = e; is = some_same (rw e at k) }
      where
        some_same : Some (change_to x.table x.id (Some row) after) ≡ Some c → change_to x.table x.id (Some row) after ≡ c
        some_same f = cc

settled_leaves_one : (x : Key) (before : Option Raw) (how : Collection) → after_of (change_settled x before how) before ≡ settled_by before how
settled_leaves_one x None how = refl
settled_leaves_one x (Some row) how = by (settlement row how)
  where
    by : (o : Option (Option Raw)) → after_of (option_map (change_to x.table x.id (Some row)) o) (Some row) ≡ unwrap_or o (Some row)
    by None = refl
    by (Some after) = refl

not_settled : (before : Option Raw) → settled_by before not_collected ≡ before
not_settled None = refl
not_settled (Some row) = refl

-- ---- a record that isn't named isn't collected

in-append : (x : Key) (xs ys : List Key) → is_in x (xs ++ ys) ≡ (is_in x xs || is_in x ys)
in-append x [] ys = refl
in-append x (k ∷ xs) ys = let ih : is_in x (xs ++ ys) ≡ (is_in x xs || is_in x ys) = in-append x xs ys in split (is_key x k) (λ e. rw e refl) (λ e. rw e ih)

not_held : (x : Key) (held : List Held) → is_in x (map held_key held) ≡ false → held_of held x ≡ None
not_held x [] h = refl
not_held x (y ∷ held) h =
    let parts : (is_key x (held_key y) ≡ false) × (is_in x (map held_key held) ≡ false) = or_parts (is_key x (held_key y)) (is_in x (map held_key held)) h in
    rw parts.0 (not_held x held parts.1)

not_gone : (x : Key) (gone : List Gone) → is_in x (map gone_key gone) ≡ false → is_gone gone x ≡ false
not_gone x [] h = refl
not_gone x (g ∷ gone) h =
    let parts : (is_key x (gone_key g) ≡ false) × (is_in x (map gone_key gone) ≡ false) = or_parts (is_key x (gone_key g)) (is_in x (map gone_key gone)) h in
    rw parts.0 (not_gone x gone parts.1)

unnamed : (f : Fetch) (x : Key) → is_in x (keys_fetched f) ≡ false → collection f x ≡ not_collected
unfolding collection
unnamed f x h =
    let one = or_parts (is_in x (map held_key f.created)) (is_in x (map held_key f.updated ++ map gone_key f.deleted)) (sym (in-append x (map held_key f.created) (map held_key f.updated ++ map gone_key f.deleted)) ∙ h) in
    let two = or_parts (is_in x (map held_key f.updated)) (is_in x (map gone_key f.deleted)) (sym (in-append x (map held_key f.updated) (map gone_key f.deleted)) ∙ one.1) in
    rw (not_held x f.created one.0, not_held x f.updated two.0, not_gone x f.deleted two.1) refl

-- ---- collected rows have the statuses of their lists

held_status : (s : Status) (x : Key) (held : List Held) (h : Held) → list_all (λ g. has_status s g.row) held ≡ true → held_of held x ≡ Some h → h.row.status ≡ s
held_status s x [] h all found = cc
held_status s x (y ∷ held) h all found =
    let parts : (has_status s y.row ≡ true) × (list_all (λ g. has_status s g.row) held ≡ true) = and_parts (has_status s y.row) (list_all (λ g. has_status s g.row) held) all in
    let ih : held_of held x ≡ Some h → h.row.status ≡ s = held_status s x held h parts.1 in
    split (is_key x (held_key y))
    (λ e. subst (λ (g : Held). g.row.status ≡ s) (some_same (rw e at found)) (status_same y.row.status s parts.0))
    (λ e. ih (rw e at found))
  where
    some_same : Some y ≡ Some h → y ≡ h
    some_same e = cc

copy_status : (f : Fetch) (x : Key) (copy : Raw) → IsFetch f → collection f x ≡ as_row copy → (copy.status ≡ Created) ⊎ (copy.status ≡ Updated)
unfolding collection
copy_status f x copy form h = by (held_of f.created x) (held_of f.updated x) (is_gone f.deleted x) (λ g e. held_status Created x f.created g form.created e) (λ g e. held_status Updated x f.updated g form.updated e) h
  where
    by : (c u : Option Held) (d : Bool) → ((g : Held) → c ≡ Some g → g.row.status ≡ Created) → ((g : Held) → u ≡ Some g → g.row.status ≡ Updated) → collects c u d ≡ as_row copy → (copy.status ≡ Created) ⊎ (copy.status ≡ Updated)
    by (Some g) u d one two e = let same : g.row ≡ copy = cc in inl (subst (λ (r : Raw). r.status ≡ Created) same (one g refl))
    by None (Some g) d one two e = let same : g.row ≡ copy = cc in inr (subst (λ (r : Raw). r.status ≡ Updated) same (two g refl))
    by None None true one two e = cc
    by None None false one two e = cc

-- ---- a change that is allowed

module _ (columns : List ColumnSchema) (id : List ℕ) (row : Raw) (after : Option Raw) where
  allowed_by : (how : Collection) → ((copy : Raw) → how ≡ as_row copy → (copy.status ≡ Created) ⊎ (copy.status ≡ Updated)) → settlement row how ≡ Some after → IsAllowed columns origins.Settled (Some row) after
  allowed_by (as_row copy) status h = split (row_eq row copy)
      (λ e. let to : Some (row_synced row) ≡ after = some_same (rw e at h) in
      subst (IsAllowed columns origins.Settled (Some row)) to (subst (λ (r : Raw). (r.status ≡ Created) ⊎ (r.status ≡ Updated)) (sym (row_same row copy e)) (status copy refl), refl, (refl, refl)))
      (λ e. absurd (none_some (rw e at h)))
    where
      some_same : Some (Some (row_synced row)) ≡ Some after → Some (row_synced row) ≡ after
      some_same e = cc

      none_some : None ≡ Some after → ⊥
      none_some e = cc
  allowed_by as_id status h = split (has_status Deleted row)
      (λ e. let to : None ≡ after = some_same (rw e at h) in subst (IsAllowed columns origins.Settled (Some row)) to (status_same row.status Deleted e))
      (λ e. absurd (none_some (rw e at h)))
    where
      some_same : Some None ≡ Some after → None ≡ after
      some_same e = cc

      none_some : None ≡ Some after → ⊥
      none_some e = cc
  allowed_by not_collected status h = cc

  keeps_by : (how : Collection) → row.id ≡ id → settlement row how ≡ Some after → KeepsId id after
  keeps_by (as_row copy) own h = split (row_eq row copy)
      (λ e. let to : Some (row_synced row) ≡ after = some_same (rw e at h) in subst (KeepsId id) to own)
      (λ e. absurd (none_some (rw e at h)))
    where
      some_same : Some (Some (row_synced row)) ≡ Some after → Some (row_synced row) ≡ after
      some_same e = cc

      none_some : None ≡ Some after → ⊥
      none_some e = cc
  keeps_by as_id own h = split (has_status Deleted row)
      (λ e. let to : None ≡ after = some_same (rw e at h) in subst (KeepsId id) to tt)
      (λ e. absurd (none_some (rw e at h)))
    where
      some_same : Some None ≡ Some after → None ≡ after
      some_same e = cc

      none_some : None ≡ Some after → ⊥
      none_some e = cc
  keeps_by not_collected own h = cc

  fits_by : (how : Collection) → Fits columns row → settlement row how ≡ Some after → FitsIfAny columns after
  fits_by (as_row copy) fits h = split (row_eq row copy)
      (λ e. let to : Some (row_synced row) ≡ after = some_same (rw e at h) in subst (FitsIfAny columns) to (Fits-row_synced columns row fits))
      (λ e. absurd (none_some (rw e at h)))
    where
      some_same : Some (Some (row_synced row)) ≡ Some after → Some (row_synced row) ≡ after
      some_same e = cc

      none_some : None ≡ Some after → ⊥
      none_some e = cc
  fits_by as_id fits h = split (has_status Deleted row)
      (λ e. let to : None ≡ after = some_same (rw e at h) in subst (FitsIfAny columns) to tt)
      (λ e. absurd (none_some (rw e at h)))
    where
      some_same : Some None ≡ Some after → None ≡ after
      some_same e = cc

      none_some : None ≡ Some after → ⊥
      none_some e = cc
  fits_by not_collected fits h = cc

-- ---- a record that has a row is of a table that is there

row_within : (rows : Rows) (x : Key) (row : Raw) → at rows x ≡ Some row → x.table < length rows
row_within rows x row h = by rows x.table h
  where
    by : (rs : Rows) (i : ℕ) → at_id x.id (get_or rs i []) ≡ Some row → i < length rs
    by [] i k = cc
    by (r ∷ rs) zero k = omega arith
    by (r ∷ rs) (suc i) k = let ih : i < length rs = by rs i k in omega (arith, ih)

-- ---- the change set

abbrev IsOwn : ℕ → Change → Type 0
IsOwn n c = (c.table < n) × KeepsId c.id c.after

own_apart : (n : ℕ) (cs : List Change) → AllApart key_of (IsOwn n) cs → AreApart n cs
own_apart n [] h = tt
own_apart n (c ∷ cs) h = (h.0.0, h.0.1, h.1, own_apart n cs h.2)

are_changes : (schema : List TableSchema) (rows : Rows) (cs : List Change) → AllApart key_of (IsChange schema rows origins.Settled) cs → AreChanges schema rows origins.Settled cs
are_changes schema rows [] h = tt
are_changes schema rows (c ∷ cs) h = (h.0, h.1, are_changes schema rows cs h.2)

all_true : (ks : List Key) → list_all (λ x. true) ks ≡ true
all_true [] = refl
all_true (k ∷ ks) = all_true ks

module _ (rows : Rows) (f : Fetch) where
  parts : (x : Key) (c : Change) → settled_change rows f x ≡ Some c → IsSettling x (at rows x) (collection f x) c
  parts x c h = settling x (at rows x) (collection f x) c h

  own : (x : Key) (c : Change) → settled_change rows f x ≡ Some c → key_of c ≡ x
  own x c h = subst (λ (d : Change). key_of d ≡ x) (parts x c h).is refl

  own_id : (x : Key) (row : Raw) → at rows x ≡ Some row → row.id ≡ x.id
  own_id x row h = id-at_id x.id (get_or rows x.table []) row h

  is_own : (x : Key) (c : Change) → settled_change rows f x ≡ Some c → IsOwn (length rows) c
  is_own x c h = let p : IsSettling x (at rows x) (collection f x) c = parts x c h in
      subst (IsOwn (length rows)) p.is (row_within rows x p.row p.was, keeps_by [] x.id p.row p.after (collection f x) (own_id x p.row p.was) p.to)

  apart : AreApart (length rows) (settled rows f)
  unfolding settled
  apart = own_apart (length rows) _ (all_apart key_of (settled_change rows f) own (λ x. true) (λ c. Unit {0}) (IsOwn (length rows)) (λ x c r h u. is_own x c h) (ascending (keys_fetched f)) (do_ascend-ascending (keys_fetched f)) (all_true (ascending (keys_fetched f))) (all_unit _))

  found : (x : Key) → change_of x (settled rows f) ≡ cond (is_in x (keys_fetched f)) (settled_change rows f x) None
  unfolding settled
  found x = found_made key_of (settled_change rows f) own x (ascending (keys_fetched f)) ∙ ap (λ b. cond b (settled_change rows f x) None) (is_in-ascending x (keys_fetched f))

  pub leaves : LeavesSettled rows f (settled rows f)
  leaves x = at_after rows (settled rows f) x apart ∙ (ap (λ o. after_of o (at rows x)) (found x) ∙ split (is_in x (keys_fetched f))
      (λ e. ap (λ b. after_of (cond b (settled_change rows f x) None) (at rows x)) e ∙ settled_leaves_one x (at rows x) (collection f x))
      (λ e. ap (λ b. after_of (cond b (settled_change rows f x) None) (at rows x)) e ∙ sym (ap (settled_by (at rows x)) (unnamed f x e) ∙ not_settled (at rows x))))

  -- it is allowed where each row before fits its table
  module _ (schema : List TableSchema) (form : IsFetch f) (Q : Change → Type 0) (fits : (c : Change) → c.table < length rows → Q c → FitsIfAny (columns_at schema c.table) c.before) where
    is_change : (x : Key) (c : Change) → settled_change rows f x ≡ Some c → Q c → IsChange schema rows origins.Settled c
    is_change x c h q =
        let p : IsSettling x (at rows x) (collection f x) c = parts x c h in
        let within : x.table < length rows = row_within rows x p.row p.was in
        let columns : List ColumnSchema = columns_at schema x.table in
        let before : Fits columns p.row = fits (change_to x.table x.id (Some p.row) p.after) within (subst Q (sym p.is) q) in
        subst (IsChange schema rows origins.Settled) p.is (record {
          declared = within;
          before_is = sym p.was;
          keeps_id = keeps_by columns x.id p.row p.after (collection f x) (own_id x p.row p.was) p.to;
          fits = fits_by columns x.id p.row p.after (collection f x) before p.to;
          allowed = allowed_by columns x.id p.row p.after (collection f x) (λ copy e. copy_status f x copy form e) p.to;
        })

    pub allowed : AllByRecursion Q (settled rows f) → AreChanges schema rows origins.Settled (settled rows f)
    unfolding settled
    allowed all = are_changes schema rows _ (all_apart key_of (settled_change rows f) own (λ x. true) Q (IsChange schema rows origins.Settled) (λ x c r h q. is_change x c h q) (ascending (keys_fetched f)) (do_ascend-ascending (keys_fetched f)) (all_true (ascending (keys_fetched f))) all)

  -- the rows before fit where all rows do
  befores : (schema : List TableSchema) → RowsFit schema rows → (ks : List Key) → AllByRecursion (λ c. FitsIfAny (columns_at schema c.table) c.before) (filter_map (settled_change rows f) ks)
  befores schema fit [] = tt
  befores schema fit (x ∷ ks) = by (befores schema fit ks) (settled_change rows f x) refl
    where
      by : AllByRecursion (λ c. FitsIfAny (columns_at schema c.table) c.before) (filter_map (settled_change rows f) ks) → (o : Option Change) → settled_change rows f x ≡ o
          → AllByRecursion (λ c. FitsIfAny (columns_at schema c.table) c.before) (cons_option o (filter_map (settled_change rows f) ks))
      by rest None e = rest
      by rest (Some c) e = let p : IsSettling x (at rows x) (collection f x) c = parts x c e in
          (subst (λ (d : Change). FitsIfAny (columns_at schema d.table) d.before) p.is (fit x p.row p.was), rest)

  all_befores : (schema : List TableSchema) → RowsFit schema rows → AllByRecursion (λ c. FitsIfAny (columns_at schema c.table) c.before) (settled rows f)
  unfolding settled
  all_befores schema fit = befores schema fit (ascending (keys_fetched f))

pub leaves_copies : SettledLeavesCopies
leaves_copies rows f = leaves rows f

pub is_allowed : SettledIsAllowed
is_allowed schema rows f fit form = allowed rows f schema form (λ c. FitsIfAny (columns_at schema c.table) c.before) (λ c l q. q) (all_befores rows f schema fit)
