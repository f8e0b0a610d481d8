-- Rows that are put one after the other: which they are, what the sums become, and where they are found.
use Rattle.std.proofs.Common.{◌≡◌, ◌≢◌, ℕ, zero, suc, ◌+◌, ◌<◌, eqb, List, [], ◌∷◌, length, map, get_or, set, Bool, true, false, not, ◌&&◌, ◌||◌, cond, Option, Some, None, option_map, bytes_eq, refl, sym, ap, ◌∙◌, subst, arith}
use Rattle.std.specs.List.{AllByRecursion, filter_map, cons_option}
use Rattle.std.proofs.lemmas.Bool.{and_parts, and_from, both_ways}
use Rattle.std.proofs.lemmas.Bool.Decides.{Decides-eqb}
use Rattle.std.proofs.lemmas.List.Sums.{sum_by-cons}
use Rattle.melon_schema.specs.declared.schema.ColumnSchema.{ColumnSchema}
use Rattle.melon_schema.specs.declared.schema.TableSchema.{TableSchema}
use Rattle.melon_raw.specs.declared.datum.OpField.{OpField}
use Rattle.melon_raw.specs.Rows.{Key, is_key}
use Rattle.melon_wire.specs.Forms.{names_ascend}
use Rattle.melon_wire.specs.Keys.{is_in, are_apart}
use Rattle.melon_wire.specs.Standing.{Standing, as_created, as_updated, as_deleted, in_no_list}
use Rattle.melon_wire.proofs.KeyOrder.{split, is_key_turned, key_path}
use Rattle.melon_log.specs.declared.server_row.ServerRow.{ServerRow}
use Rattle.melon_log.specs.ServerRows.{ServerRows, is_live, id_of, at, at_id, sent_to, row_put}
use Rattle.melon_log.specs.Log.{columns_at}
use Rattle.melon_log.proofs.ById.{some_same, none_some, id-at_id}
use Rattle.melon_backend.specs.declared.put.Put.{Put}
use Rattle.melon_backend.specs.Rows.{put_row, with_put, with_puts, total, weight_of}
use Rattle.melon_backend.specs.Backends.{put_at}
use Rattle.melon_backend.specs.Pushing.{Naming, put_named, before_put, after_put, weight_before, weight_after, key_named, IsNowOf}
use Rattle.melon_backend.specs.Listing.{IsOfTable}
use Rattle.melon_backend.specs.Drafts.{key_put, IsPutWithin}
use Rattle.melon_backend.proofs.PutRows.{at_id-put, ascend-put}
use Rattle.melon_backend.proofs.Sums.{total-put}

-- ---- one put

abbrev pub Ascends : ServerRows → Type 0
Ascends rows = (i : ℕ) → names_ascend id_of (get_or rows i []) ≡ true

get-set-same : (rows : ServerRows) (i : ℕ) (rs : List ServerRow) → i < length rows → get_or (set rows i rs) i [] ≡ rs
get-set-same [] i rs h = absurd (omega (arith, h))
get-set-same (q ∷ qs) zero rs h = refl
get-set-same (q ∷ qs) (suc i) rs h = get-set-same qs i rs (omega (arith, h))

get-set-other : (rows : ServerRows) (i j : ℕ) (rs : List ServerRow) → j ≢ i → get_or (set rows i rs) j [] ≡ get_or rows j []
get-set-other [] i j rs apart = refl
get-set-other (q ∷ qs) zero zero rs apart = absurd (apart refl)
get-set-other (q ∷ qs) zero (suc j) rs apart = refl
get-set-other (q ∷ qs) (suc i) zero rs apart = refl
get-set-other (q ∷ qs) (suc i) (suc j) rs apart = get-set-other qs i j rs (λ e. apart (ap suc e))

pub length-set : (rows : ServerRows) (i : ℕ) (rs : List ServerRow) → length (set rows i rs) ≡ length rows
length-set [] i rs = refl
length-set (q ∷ qs) zero rs = refl
length-set (q ∷ qs) (suc i) rs = let ih : length (set qs i rs) ≡ length qs = length-set qs i rs in omega (arith, ih)

module _ (rows : ServerRows) (p : Put) (within : p.table < length rows) (up : Ascends rows) where
  pub ascends-put : Ascends (with_put rows p)
  ascends-put j = split (eqb j p.table)
      (λ e. let same : j ≡ p.table = (Decides-eqb j p.table).0 e in
      ap (λ (k : ℕ). names_ascend id_of (get_or (with_put rows p) k [])) same ∙ (ap (names_ascend id_of) (get-set-same rows p.table (put_row p.row (get_or rows p.table [])) within) ∙ ascend-put p.row (get_or rows p.table []) (up p.table)))
      (λ e. ap (names_ascend id_of) (get-set-other rows p.table j (put_row p.row (get_or rows p.table [])) (λ same. both_ways (eqb j p.table) e ((Decides-eqb j p.table).1 same))) ∙ up j)

  pub at-put : (x : Key) → at (with_put rows p) x ≡ cond (is_key x (key_put p)) (Some p.row) (at rows x)
  at-put x = split (eqb x.table p.table)
      (λ e. let same : x.table ≡ p.table = (Decides-eqb x.table p.table).0 e in
      let there : get_or (with_put rows p) x.table [] ≡ put_row p.row (get_or rows x.table []) =
      ap (λ (k : ℕ). get_or (with_put rows p) k []) same ∙ (get-set-same rows p.table (put_row p.row (get_or rows p.table [])) within ∙ ap (λ (k : ℕ). put_row p.row (get_or rows k [])) (sym same)) in
      ap (at_id x.id) there ∙ (at_id-put p.row (get_or rows x.table []) (up x.table) x.id ∙ ap (λ (b : Bool). cond (b && bytes_eq x.id p.row.id) (Some p.row) (at rows x)) (sym e)))
      (λ e. ap (at_id x.id) (get-set-other rows p.table x.table (put_row p.row (get_or rows p.table [])) (λ same. both_ways (eqb x.table p.table) e ((Decides-eqb x.table p.table).1 same)))
      ∙ ap (λ (b : Bool). cond (b && bytes_eq x.id p.row.id) (Some p.row) (at rows x)) (sym e))

-- ---- what is put for a record is a row of that record

sent_id : (columns : List ColumnSchema) (id : List ℕ) (row : Option ServerRow) (r : ℕ) (fields : List OpField) → ((old : ServerRow) → row ≡ Some old → old.id ≡ id) → (sent_to columns id row r fields).id ≡ id
sent_id columns id None r fields own = refl
sent_id columns id (Some old) r fields own = by (is_live old) refl
  where
    by : (b : Bool) → is_live old ≡ b → (sent_to columns id (Some old) r fields).id ≡ id
    by true e = rw e (own old refl)
    by false e = rw e refl

put_id : (columns : List ColumnSchema) (id : List ℕ) (row : Option ServerRow) (r : ℕ) (how : Standing) (new : ServerRow) → ((old : ServerRow) → row ≡ Some old → old.id ≡ id) → row_put columns id row r how ≡ Some new → new.id ≡ id
put_id columns id row r (as_created fields) new own h = ap (λ (q : ServerRow). q.id) (sym (some_same (sent_to columns id row r fields) new h)) ∙ sent_id columns id row r fields own
put_id columns id row r (as_updated fields) new own h = ap (λ (q : ServerRow). q.id) (sym (some_same (sent_to columns id row r fields) new h)) ∙ sent_id columns id row r fields own
put_id columns id None r as_deleted new own h = cc
put_id columns id (Some old) r as_deleted new own h = by (is_live old) refl
  where
    by : (b : Bool) → is_live old ≡ b → new.id ≡ id
    by true e = (let same : old.id ≡ new.id = ap (λ (q : ServerRow). q.id) (some_same _ new (rw e at h)) in sym same) ∙ own old refl
    by false e = absurd (none_some new (rw e at h))
put_id columns id row r in_no_list new own h = cc

module _ (schema : List TableSchema) (r : ℕ) (rows : ServerRows) where
  pub put_key : (n : Naming) (p : Put) → IsNowOf rows n → put_named schema r n ≡ Some p → key_put p ≡ n.key
  put_key n p now h = go (row_put (columns_at schema n.key.table) n.key.id n.row r n.how) refl h
    where
      go : (o : Option ServerRow) → row_put (columns_at schema n.key.table) n.key.id n.row r n.how ≡ o → option_map (put_at n.key.table) o ≡ Some p → key_put p ≡ n.key
      go None is k = cc
      go (Some new) is k =
          let put : put_at n.key.table new ≡ p = (let e : Some (put_at n.key.table new) ≡ Some p = k in cc) in
          let id : new.id ≡ n.key.id = put_id (columns_at schema n.key.table) n.key.id n.row r n.how new (λ old e. id-at_id n.key.id (get_or rows n.key.table []) old (sym now ∙ e)) is in
          ap key_put (sym put) ∙ key_path (key_put (put_at n.key.table new)) n.key refl id

  -- ---- all that are put

  abbrev pub put_all : List Naming → List Put
  put_all ns = filter_map (put_named schema r) ns

  pub puts_within : (m : ℕ) (ns : List Naming) → AllByRecursion (IsNowOf rows) ns → AllByRecursion (IsOfTable m) ns → AllByRecursion (IsPutWithin m) (put_all ns)
  puts_within m [] now all = tt
  puts_within m (n ∷ ns) now all = go (put_named schema r n) refl (puts_within m ns now.1 all.1)
    where
      go : (o : Option Put) → put_named schema r n ≡ o → AllByRecursion (IsPutWithin m) (put_all ns) → AllByRecursion (IsPutWithin m) (cons_option o (put_all ns))
      go None is ih = ih
      go (Some p) is ih = (subst (λ (k : ℕ). k < m) (sym (ap (λ (x : Key). x.table) (put_key n p now.0 is))) all.0, ih)

  in_puts : (x : Key) (ns : List Naming) → AllByRecursion (IsNowOf rows) ns → is_in x (map key_named ns) ≡ false → is_in x (map key_put (put_all ns)) ≡ false
  in_puts x [] now h = refl
  in_puts x (n ∷ ns) now h = split (is_key x n.key)
      (λ e. absurd (both_ways (is_key x n.key || is_in x (map key_named ns)) h (rw e refl)))
      (λ e. go e (put_named schema r n) refl (in_puts x ns now.1 (sym (rw e refl) ∙ h)))
    where
      go : is_key x n.key ≡ false → (o : Option Put) → put_named schema r n ≡ o → is_in x (map key_put (put_all ns)) ≡ false → is_in x (map key_put (cons_option o (put_all ns))) ≡ false
      go e None is ih = ih
      go e (Some p) is ih = let off : is_key x (key_put p) ≡ false = ap (λ (k : Key). is_key x k) (put_key n p now.0 is) ∙ e in rw off ih

  pub puts_apart : (ns : List Naming) → AllByRecursion (IsNowOf rows) ns → are_apart (map key_named ns) ≡ true → are_apart (map key_put (put_all ns)) ≡ true
  puts_apart [] now h = refl
  puts_apart (n ∷ ns) now h =
      let t = and_parts (not (is_in n.key (map key_named ns))) (are_apart (map key_named ns)) h in
      go t.0 (put_named schema r n) refl (puts_apart ns now.1 t.1)
    where
      not_true : (b : Bool) → not b ≡ true → b ≡ false
      not_true true k = cc
      not_true false k = refl

      go : not (is_in n.key (map key_named ns)) ≡ true → (o : Option Put) → put_named schema r n ≡ o → are_apart (map key_put (put_all ns)) ≡ true → are_apart (map key_put (cons_option o (put_all ns))) ≡ true
      go alone None is ih = ih
      go alone (Some p) is ih =
          and_from (not (is_in (key_put p) (map key_put (put_all ns)))) (are_apart (map key_put (put_all ns)))
          (ap not (ap (λ (k : Key). is_in k (map key_put (put_all ns))) (put_key n p now.0 is) ∙ in_puts n.key ns now.1 (not_true (is_in n.key (map key_named ns)) alone))) ih

-- a record's row stays when another's is put
still_now : (rows : ServerRows) (p : Put) (within : p.table < length rows) (up : Ascends rows) (ns : List Naming) → AllByRecursion (IsNowOf rows) ns → is_in (key_put p) (map key_named ns) ≡ false → AllByRecursion (IsNowOf (with_put rows p)) ns
still_now rows p within up [] now h = tt
still_now rows p within up (n ∷ ns) now h = split (is_key (key_put p) n.key)
    (λ e. absurd (both_ways (is_key (key_put p) n.key || is_in (key_put p) (map key_named ns)) h (rw e refl)))
    (λ e. let off : is_key n.key (key_put p) ≡ false = is_key_turned (key_put p) n.key e in
    (now.0 ∙ sym (at-put rows p within up n.key ∙ ap (λ (b : Bool). cond b (Some p.row) (at rows n.key)) off), still_now rows p within up ns now.1 (sym (rw e refl) ∙ h)))

module _ (schema : List TableSchema) (r : ℕ) where
  -- the sums over the rows that are put
  module _ (w : ℕ → ServerRow → ℕ) where
    pub total-puts : (ns : List Naming) (rows : ServerRows) → Ascends rows → AllByRecursion (IsNowOf rows) ns → AllByRecursion (IsOfTable (length rows)) ns → are_apart (map key_named ns) ≡ true
        → total w 0 (with_puts rows (filter_map (put_named schema r) ns)) + weight_before w schema r ns ≡ total w 0 rows + weight_after w schema r ns
    total-puts [] rows up now all apart = refl
    total-puts (n ∷ ns) rows up now all apart =
        let t = and_parts (not (is_in n.key (map key_named ns))) (are_apart (map key_named ns)) apart in
        go t.0 (put_named schema r n) refl
        (total-puts ns rows up now.1 all.1 t.1)
        (λ rows' up' now' all'. total-puts ns rows' up' now' all' t.1)
      where
        heads : (o : Option Put) → put_named schema r n ≡ o → (weight_before w schema r (n ∷ ns) ≡ before_put w n o + weight_before w schema r ns) × (weight_after w schema r (n ∷ ns) ≡ after_put w o + weight_after w schema r ns)
        heads o is = (
          sum_by-cons (λ m. before_put w m (put_named schema r m)) n ns ∙ ap (λ (q : Option Put). before_put w n q + weight_before w schema r ns) is,
          sum_by-cons (λ m. after_put w (put_named schema r m)) n ns ∙ ap (λ (q : Option Put). after_put w q + weight_after w schema r ns) is,
        )

        not_true : (b : Bool) → not b ≡ true → b ≡ false
        not_true true k = cc
        not_true false k = refl

        same_tables : (m k : ℕ) (ms : List Naming) → m ≡ k → AllByRecursion (IsOfTable m) ms → AllByRecursion (IsOfTable k) ms
        same_tables m k ms e q = subst (λ (j : ℕ). AllByRecursion (IsOfTable j) ms) e q

        go : not (is_in n.key (map key_named ns)) ≡ true → (o : Option Put) → put_named schema r n ≡ o
            → total w 0 (with_puts rows (filter_map (put_named schema r) ns)) + weight_before w schema r ns ≡ total w 0 rows + weight_after w schema r ns
            → ((rows' : ServerRows) → Ascends rows' → AllByRecursion (IsNowOf rows') ns → AllByRecursion (IsOfTable (length rows')) ns → total w 0 (with_puts rows' (filter_map (put_named schema r) ns)) + weight_before w schema r ns ≡ total w 0 rows' + weight_after w schema r ns)
            → total w 0 (with_puts rows (cons_option o (filter_map (put_named schema r) ns))) + weight_before w schema r (n ∷ ns) ≡ total w 0 rows + weight_after w schema r (n ∷ ns)
        go alone None is ih later = let h = heads None is in omega (arith, ih, h.0, h.1)
        go alone (Some p) is ih later =
            let h = heads (Some p) is in
            let key : key_put p ≡ n.key = put_key schema r rows n p now.0 is in
            let table : p.table ≡ n.key.table = ap (λ (x : Key). x.table) key in
            let within : p.table < length rows = subst (λ (k : ℕ). k < length rows) (sym table) all.0 in
            let none : is_in (key_put p) (map key_named ns) ≡ false = ap (λ (k : Key). is_in k (map key_named ns)) key ∙ not_true (is_in n.key (map key_named ns)) alone in
            let next = later (with_put rows p) (ascends-put rows p within up) (still_now rows p within up ns now.1 none) (same_tables (length rows) (length (with_put rows p)) ns (sym (length-set rows p.table (put_row p.row (get_or rows p.table [])))) all.1) in
            let one = total-put w rows p within (up p.table) in
            let old : at_id p.row.id (get_or rows p.table []) ≡ n.row = ap (at rows) key ∙ sym now.0 in
            let weight : weight_of (w p.table) (at_id p.row.id (get_or rows p.table [])) ≡ weight_of (w n.key.table) n.row = ap (λ (q : Option ServerRow). weight_of (w p.table) q) old ∙ ap (λ (k : ℕ). weight_of (w k) n.row) table in
            omega (arith, next, one, weight, h.0, h.1)

-- ---- where each is found

pub ascends-puts : (ps : List Put) (rows : ServerRows) → AllByRecursion (IsPutWithin (length rows)) ps → Ascends rows → Ascends (with_puts rows ps)
ascends-puts [] rows all up = up
ascends-puts (p ∷ ps) rows all up =
    ascends-puts ps (with_put rows p) (subst (λ (k : ℕ). AllByRecursion (IsPutWithin k) ps) (sym (length-set rows p.table (put_row p.row (get_or rows p.table [])))) all.1) (ascends-put rows p all.0 up)

pub length-puts : (ps : List Put) (rows : ServerRows) → length (with_puts rows ps) ≡ length rows
length-puts [] rows = refl
length-puts (p ∷ ps) rows = length-puts ps (with_put rows p) ∙ length-set rows p.table (put_row p.row (get_or rows p.table []))
