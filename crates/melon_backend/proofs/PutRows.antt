-- Rows with one put in: they ascend, and the one is found.
use Rattle.std.proofs.Common.{◌≡◌, ℕ, List, [], ◌∷◌, ◌++◌, filter, Bool, true, false, cond, Option, Some, None, bytes_eq, refl, sym, ap, ◌∙◌}
use Rattle.std.specs.List.{list_all}
use Rattle.std.specs.Option.{option_and_then, option_or}
use Rattle.std.proofs.lemmas.Bool.{and_parts, and_from, both_ways, false_from_ne_true}
use Rattle.melon_raw.specs.Order.{is_below}
use Rattle.melon_wire.specs.Forms.{names_ascend}
use Rattle.melon_wire.proofs.KeyOrder.{split, same_bytes}
use Rattle.melon_log.specs.declared.server_row.ServerRow.{ServerRow}
use Rattle.melon_log.specs.ServerRows.{id_of, at_id}
use Rattle.melon_log.proofs.ById.{id-at_id, at_id-filter, if_passes, below_asym, below_other, below_trans}
use Rattle.melon_backend.specs.Rows.{below, above, put_row}

at_id-append : (id : List ℕ) (xs ys : List ServerRow) → at_id id (xs ++ ys) ≡ option_or (at_id id xs) (at_id id ys)
at_id-append id [] ys = refl
at_id-append id (x ∷ xs) ys = split (bytes_eq id x.id) (λ e. rw e refl) (λ e. rw e (at_id-append id xs ys))

module _ (row : ServerRow) (rows : List ServerRow) (up : names_ascend id_of rows ≡ true) where
  below_found : (id : List ℕ) (o : Option ServerRow) → at_id id rows ≡ o → at_id id (below row.id rows) ≡ option_and_then (if_passes (λ r. is_below r.id row.id)) o
  below_found id o is = at_id-filter (λ r. is_below r.id row.id) id rows up ∙ ap (option_and_then (if_passes (λ r. is_below r.id row.id))) is

  above_found : (id : List ℕ) (o : Option ServerRow) → at_id id rows ≡ o → at_id id (above row.id rows) ≡ option_and_then (if_passes (λ r. is_below row.id r.id)) o
  above_found id o is = at_id-filter (λ r. is_below row.id r.id) id rows up ∙ ap (option_and_then (if_passes (λ r. is_below row.id r.id))) is

  own_below : (id : List ℕ) (o : Option ServerRow) → at_id id rows ≡ o → id ≡ row.id → option_and_then (if_passes (λ r. is_below r.id row.id)) o ≡ None
  own_below id None is same = refl
  own_below id (Some r) is same =
      let at : r.id ≡ row.id = id-at_id id rows r is ∙ same in
      let off : is_below r.id row.id ≡ false = false_from_ne_true (is_below r.id row.id) (λ h. both_ways (is_below r.id row.id)
      (ap (λ (a : List ℕ). is_below a row.id) at ∙ (sym (ap (λ (a : List ℕ). is_below row.id a) at) ∙ below_asym r.id row.id h)) h) in
      rw off refl

  others : (id : List ℕ) (o : Option ServerRow) → at_id id rows ≡ o → bytes_eq id row.id ≡ false
      → option_or (option_and_then (if_passes (λ r. is_below r.id row.id)) o) (option_and_then (if_passes (λ r. is_below row.id r.id)) o) ≡ o
  others id None is apart = refl
  others id (Some r) is apart =
      let at : r.id ≡ id = id-at_id id rows r is in
      split (is_below r.id row.id)
      (λ e. rw e refl)
      (λ e. let up : is_below row.id r.id ≡ true = below_other r.id row.id e (ap (λ (a : List ℕ). bytes_eq a row.id) at ∙ apart) in rw (e, up) refl)

  pub at_id-put : (id : List ℕ) → at_id id (put_row row rows) ≡ cond (bytes_eq id row.id) (Some row) (at_id id rows)
  at_id-put id =
      at_id-append id (below row.id rows) (row ∷ above row.id rows)
      ∙ split (bytes_eq id row.id)
      (λ e. rw e (ap (λ (o : Option ServerRow). option_or o (Some row)) (below_found id (at_id id rows) refl ∙ own_below id (at_id id rows) refl (same_bytes id row.id e))))
      (λ e. rw e (ap (λ (o : Option ServerRow). option_or o (at_id id (above row.id rows))) (below_found id (at_id id rows) refl)
      ∙ (ap (option_or (option_and_then (if_passes (λ r. is_below r.id row.id)) (at_id id rows))) (above_found id (at_id id rows) refl) ∙ others id (at_id id rows) refl e)))

all_filter : (p q : ServerRow → Bool) (rows : List ServerRow) → list_all p rows ≡ true → list_all p (filter q rows) ≡ true
all_filter p q [] h = refl
all_filter p q (r ∷ rs) h =
    let t = and_parts (p r) (list_all p rs) h in
    let ih : list_all p (filter q rs) ≡ true = all_filter p q rs t.1 in
    split (q r) (λ e. rw e (and_from (p r) (list_all p (filter q rs)) t.0 ih)) (λ e. rw e ih)

all_pass : (q : ServerRow → Bool) (rows : List ServerRow) → list_all q (filter q rows) ≡ true
all_pass q [] = refl
all_pass q (r ∷ rs) = split (q r) (λ e. rw e (and_from (q r) (list_all q (filter q rs)) e (all_pass q rs))) (λ e. rw e (all_pass q rs))

pub ascend-filter : (q : ServerRow → Bool) (rows : List ServerRow) → names_ascend id_of rows ≡ true → names_ascend id_of (filter q rows) ≡ true
ascend-filter q [] h = refl
ascend-filter q (r ∷ rs) h =
    let t = and_parts (list_all (λ x. is_below r.id x.id) rs) (names_ascend id_of rs) h in
    let ih : names_ascend id_of (filter q rs) ≡ true = ascend-filter q rs t.1 in
    split (q r) (λ e. rw e (and_from (list_all (λ x. is_below r.id x.id) (filter q rs)) (names_ascend id_of (filter q rs)) (all_filter (λ x. is_below r.id x.id) q rs t.0) ih)) (λ e. rw e ih)

all_joined : (p : ServerRow → Bool) (xs ys : List ServerRow) → list_all p xs ≡ true → list_all p ys ≡ true → list_all p (xs ++ ys) ≡ true
all_joined p [] ys h k = k
all_joined p (x ∷ xs) ys h k = let t = and_parts (p x) (list_all p xs) h in and_from (p x) (list_all p (xs ++ ys)) t.0 (all_joined p xs ys t.1 k)

all_later : (a b : List ℕ) (rows : List ServerRow) → is_below a b ≡ true → list_all (λ r. is_below b r.id) rows ≡ true → list_all (λ r. is_below a r.id) rows ≡ true
all_later a b [] l h = refl
all_later a b (r ∷ rs) l h =
    let t = and_parts (is_below b r.id) (list_all (λ x. is_below b x.id) rs) h in
    and_from (is_below a r.id) (list_all (λ x. is_below a x.id) rs) (below_trans a b r.id l t.0) (all_later a b rs l t.1)

ascend_around : (row : ServerRow) (xs ys : List ServerRow) → names_ascend id_of xs ≡ true → list_all (λ r. is_below r.id row.id) xs ≡ true → list_all (λ r. is_below row.id r.id) ys ≡ true → names_ascend id_of ys ≡ true
    → names_ascend id_of (xs ++ row ∷ ys) ≡ true
ascend_around row [] ys h below above k = and_from (list_all (λ r. is_below row.id r.id) ys) (names_ascend id_of ys) above k
ascend_around row (x ∷ xs) ys h below above k =
    let t = and_parts (list_all (λ r. is_below x.id r.id) xs) (names_ascend id_of xs) h in
    let b = and_parts (is_below x.id row.id) (list_all (λ r. is_below r.id row.id) xs) below in
    and_from (list_all (λ r. is_below x.id r.id) (xs ++ row ∷ ys)) (names_ascend id_of (xs ++ row ∷ ys))
    (all_joined (λ r. is_below x.id r.id) xs (row ∷ ys) t.0 (and_from (is_below x.id row.id) (list_all (λ r. is_below x.id r.id) ys) b.0 (all_later x.id row.id ys b.0 above)))
    (ascend_around row xs ys t.1 b.1 above k)

pub ascend-put : (row : ServerRow) (rows : List ServerRow) → names_ascend id_of rows ≡ true → names_ascend id_of (put_row row rows) ≡ true
ascend-put row rows h =
    ascend_around row (below row.id rows) (above row.id rows) (ascend-filter (λ r. is_below r.id row.id) rows h) (all_pass (λ r. is_below r.id row.id) rows) (all_pass (λ r. is_below row.id r.id) rows) (ascend-filter (λ r. is_below row.id r.id) rows h)
