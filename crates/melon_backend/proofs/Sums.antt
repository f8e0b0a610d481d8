-- Sums over rows with one put in.
use Rattle.std.proofs.Common.{◌≡◌, ℕ, zero, suc, ◌+◌, ◌<◌, List, [], ◌∷◌, length, get_or, set, sum_by, true, false, bytes_eq, refl, sym, ap, ◌∙◌, subst, arith}
use Rattle.std.specs.List.{list_all}
use Rattle.std.proofs.lemmas.Bool.{and_parts, both_ways, false_from_ne_true}
use Rattle.std.proofs.lemmas.List.Sums.{sum_by-cons, sum_by-append}
use Rattle.melon_raw.specs.Order.{is_below}
use Rattle.melon_wire.specs.Forms.{names_ascend}
use Rattle.melon_wire.proofs.KeyOrder.{split, same_bytes}
use Rattle.melon_log.specs.declared.server_row.ServerRow.{ServerRow}
use Rattle.melon_log.specs.ServerRows.{ServerRows, id_of, at_id}
use Rattle.melon_log.proofs.ById.{below_asym, below_other}
use Rattle.melon_backend.specs.declared.put.Put.{Put}
use Rattle.melon_backend.specs.Rows.{below, above, put_row, with_put, total, weight_of}

module _ (id : List ℕ) where
  not_below : (r : ServerRow) → is_below id r.id ≡ true → is_below r.id id ≡ false
  not_below r h = below_asym id r.id h

  none_below : (rows : List ServerRow) → list_all (λ r. is_below id r.id) rows ≡ true → below id rows ≡ []
  none_below [] h = refl
  none_below (r ∷ rs) h = let t = and_parts (is_below id r.id) (list_all (λ x. is_below id x.id) rs) h in rw (not_below r t.0) (none_below rs t.1)

  all_above : (rows : List ServerRow) → list_all (λ r. is_below id r.id) rows ≡ true → above id rows ≡ rows
  all_above [] h = refl
  all_above (r ∷ rs) h = let t = and_parts (is_below id r.id) (list_all (λ x. is_below id x.id) rs) h in rw t.0 (ap (λ (xs : List ServerRow). r ∷ xs) (all_above rs t.1))

module _ (w : ServerRow → ℕ) where
  split_sum : (id : List ℕ) (rows : List ServerRow) → names_ascend id_of rows ≡ true → sum_by w (below id rows) + (weight_of w (at_id id rows) + sum_by w (above id rows)) ≡ sum_by w rows
  split_sum id [] h = refl
  split_sum id (r ∷ rs) h = go (split_sum id rs (and_parts (list_all (λ x. is_below r.id x.id) rs) (names_ascend id_of rs) h).1)
    where
      t : (list_all (λ x. is_below r.id x.id) rs ≡ true) × (names_ascend id_of rs ≡ true)
      t = and_parts (list_all (λ x. is_below r.id x.id) rs) (names_ascend id_of rs) h

      here : bytes_eq id r.id ≡ true → sum_by w (below id (r ∷ rs)) + (weight_of w (at_id id (r ∷ rs)) + sum_by w (above id (r ∷ rs))) ≡ sum_by w (r ∷ rs)
      here e =
          let same : id ≡ r.id = same_bytes id r.id e in
          let high : list_all (λ x. is_below id x.id) rs ≡ true = subst (λ (i : List ℕ). list_all (λ x. is_below i x.id) rs ≡ true) (sym same) t.0 in
          let self : is_below r.id id ≡ false = false_from_ne_true (is_below r.id id) (λ b. both_ways (is_below id r.id) (below_asym r.id id b) (ap (λ (i : List ℕ). is_below i r.id) same ∙ (sym (ap (λ (i : List ℕ). is_below r.id i) same) ∙ b))) in
          let self' : is_below id r.id ≡ false = false_from_ne_true (is_below id r.id) (λ b. both_ways (is_below r.id id) self (ap (λ (i : List ℕ). is_below r.id i) same ∙ (sym (ap (λ (i : List ℕ). is_below i r.id) same) ∙ b))) in
          let lows : sum_by w (below id rs) ≡ 0 = ap (sum_by w) (none_below id rs high) in
          let highs : sum_by w (above id rs) ≡ sum_by w rs = ap (sum_by w) (all_above id rs high) in
          rw (self, self', e) (omega (arith, lows, highs, sum_by-cons w r rs))

      lower : sum_by w (below id rs) + (weight_of w (at_id id rs) + sum_by w (above id rs)) ≡ sum_by w rs → bytes_eq id r.id ≡ false → is_below r.id id ≡ true → sum_by w (below id (r ∷ rs)) + (weight_of w (at_id id (r ∷ rs)) + sum_by w (above id (r ∷ rs))) ≡ sum_by w (r ∷ rs)
      lower ih e b =
          rw (b, below_asym r.id id b, e) (omega (arith, ih, sum_by-cons w r rs, sum_by-cons w r (below id rs)))

      higher : sum_by w (below id rs) + (weight_of w (at_id id rs) + sum_by w (above id rs)) ≡ sum_by w rs → bytes_eq id r.id ≡ false → is_below r.id id ≡ false → sum_by w (below id (r ∷ rs)) + (weight_of w (at_id id (r ∷ rs)) + sum_by w (above id (r ∷ rs))) ≡ sum_by w (r ∷ rs)
      higher ih e b =
          let up : is_below id r.id ≡ true = below_other r.id id b (false_from_ne_true (bytes_eq r.id id) (λ f. both_ways (bytes_eq id r.id) e (turned f))) in
          rw (b, up, e) (omega (arith, ih, sum_by-cons w r rs, sum_by-cons w r (above id rs)))
        where
          turned : bytes_eq r.id id ≡ true → bytes_eq id r.id ≡ true
          turned f = subst (λ (i : List ℕ). bytes_eq i r.id ≡ true) (same_bytes r.id id f) (subst (λ (i : List ℕ). bytes_eq r.id i ≡ true) (sym (same_bytes r.id id f)) f)

      go : sum_by w (below id rs) + (weight_of w (at_id id rs) + sum_by w (above id rs)) ≡ sum_by w rs → sum_by w (below id (r ∷ rs)) + (weight_of w (at_id id (r ∷ rs)) + sum_by w (above id (r ∷ rs))) ≡ sum_by w (r ∷ rs)
      go ih = split (bytes_eq id r.id) here (λ e. split (is_below r.id id) (lower ih e) (higher ih e))

  put_sum : (row : ServerRow) (rows : List ServerRow) → names_ascend id_of rows ≡ true → sum_by w (put_row row rows) + weight_of w (at_id row.id rows) ≡ sum_by w rows + w row
  put_sum row rows h = omega (arith, split_sum row.id rows h, sum_by-append w (below row.id rows) (row ∷ above row.id rows), sum_by-cons w row (above row.id rows))

module _ (weight : ℕ → ServerRow → ℕ) where
  total-set : (k : ℕ) (rows : ServerRows) (i : ℕ) (rs : List ServerRow) → i < length rows → total weight k (set rows i rs) + sum_by (weight (k + i)) (get_or rows i []) ≡ total weight k rows + sum_by (weight (k + i)) rs
  total-set k [] i rs h = absurd (omega (arith, h))
  total-set k (q ∷ qs) zero rs h = let same : k + 0 ≡ k = omega arith in rw same (omega arith)
  total-set k (q ∷ qs) (suc i) rs h =
      let same : k + suc i ≡ (k + 1) + i = omega arith in
      let ih : total weight (k + 1) (set qs i rs) + sum_by (weight ((k + 1) + i)) (get_or qs i []) ≡ total weight (k + 1) qs + sum_by (weight ((k + 1) + i)) rs = total-set (k + 1) qs i rs (omega (arith, h)) in
      rw same (omega (arith, ih))

  pub total-put : (rows : ServerRows) (p : Put) → p.table < length rows → names_ascend id_of (get_or rows p.table []) ≡ true
      → total weight 0 (with_put rows p) + weight_of (weight p.table) (at_id p.row.id (get_or rows p.table [])) ≡ total weight 0 rows + weight p.table p.row
  total-put rows p within up =
      let there : sum_by (weight p.table) (put_row p.row (get_or rows p.table [])) + weight_of (weight p.table) (at_id p.row.id (get_or rows p.table [])) ≡ sum_by (weight p.table) (get_or rows p.table []) + weight p.table p.row = put_sum (weight p.table) p.row (get_or rows p.table []) up in
      let all : total weight 0 (with_put rows p) + sum_by (weight p.table) (get_or rows p.table []) ≡ total weight 0 rows + sum_by (weight p.table) (put_row p.row (get_or rows p.table [])) =
      subst (λ (n : ℕ). total weight 0 (with_put rows p) + sum_by (weight n) (get_or rows p.table []) ≡ total weight 0 rows + sum_by (weight n) (put_row p.row (get_or rows p.table []))) (let e : 0 + p.table ≡ p.table = omega arith in e) (total-set 0 rows p.table (put_row p.row (get_or rows p.table [])) within) in
      omega (arith, there, all)
