-- The rows that are found by their stamps are those that were touched.
use Rattle.std.proofs.Common.{◌≡◌, ℕ, ◌<◌, ◌≤◌, eqb, nat_lt, max, List, [], ◌∷◌, ◌++◌, append-nil, map, filter, find, Bool, true, false, ◌&&◌, ◌||◌, cond, Option, Some, None, bytes_eq, Ordering, Less, Greater, nat_cmp, refl, sym, ap, ◌∙◌, subst, arith}
use Rattle.std.specs.List.{list_all, list_any, filter_map, cons_option, All, AllByRecursion}
use Rattle.std.specs.List.Sorted.{IsPermutation, IsStrictlySortedBy}
use Rattle.std.specs.Option.{option_and_then, unwrap_or, option_to_list}
use Rattle.std.specs.Ordering.{is_eq, ordering_then}
use Rattle.std.specs.Cmp.Lexicographic.{slice_cmp}
use Rattle.std.specs.BTreeMap.{is_at}
use Rattle.std.proofs.lemmas.Bool.{and_parts, and_from, both_ways}
use Rattle.std.proofs.lemmas.Bool.Decides.{Decides-eqb, nat_tests}
use Rattle.std.proofs.lemmas.List.Elements.{All-nil, All-cons, All-head, All-tail}
use Rattle.std.proofs.lemmas.List.Sorted.{All-permutation}
use Rattle.std.proofs.lemmas.Map.Keys.{sorted_head, sorted_tail}
use Rattle.melon_raw.specs.Order.{is_below}
use Rattle.melon_raw.specs.Rows.{Key, is_key}
use Rattle.melon_wire.specs.Forms.{names_ascend}
use Rattle.melon_wire.specs.Keys.{key_at, is_before, is_in, times, do_ascend, ascending, do_rise, first_again}
use Rattle.melon_wire.proofs.KeyOrder.{split, bytes_same, same_bytes, is_key_same}
use Rattle.melon_wire.proofs.Ascent.{do_ascend-ascending, times_here, times_later, times_none, is_twice, twice_is_again, rise_ascends}
use Rattle.melon_wire.proofs.KeyedLists.{times_moved, in_moved}
use Rattle.melon_log.specs.declared.server_row.ServerRow.{ServerRow}
use Rattle.melon_log.specs.ServerRows.{greatest, is_touched, id_of, at_id}
use Rattle.melon_log.proofs.ById.{some_same, none_some, id-at_id, before_is_below, at_id-filter, if_passes, same_rows}
use Rattle.melon_backend.specs.declared.table.Stamp.{Stamp}
use Rattle.melon_backend.specs.Inside.{stamp_cmp, stamp_of}
use Rattle.melon_backend.specs.declared.pull.Touched.{Touched}
use Rattle.melon_backend.specs.Pulling.{touched_row, if_last, fresh, is_after}
use Rattle.melon_backend.proofs.PutRows.{ascend-filter}
use Rattle.melon_backend.proofs.Stamps.{other_id, other_revision, own_place}

abbrev pub key0 : ServerRow → Key
key0 r = key_at 0 r.id

-- ---- stamps in order

not_above : (m n : ℕ) (o : Ordering) → ordering_then (nat_cmp m n) o ≡ Less → m ≤ n
not_above m n o h = split (nat_lt m n) (λ e. grind (arith, nat_tests)) (λ e. split (eqb m n) (λ f. grind (arith, nat_tests)) (λ f. absurd (none (rw (e, f) at h))))
  where
    none : Greater ≡ Less → ⊥
    none e = cc

none_later : (t : ℕ) (s : Stamp) (ss : List Stamp) → AllByRecursion (λ q. stamp_cmp s q ≡ Less) ss → s.revision ≤ t → filter (is_after t) ss ≡ []
none_later t s [] all h = refl
none_later t s (q ∷ qs) all h =
    let low : q.revision ≤ s.revision = not_above q.revision s.revision (slice_cmp nat_cmp s.id q.id) all.0 in
    let off : is_after t q ≡ false = grind (arith, nat_tests) in
    rw off (none_later t s qs all.1 h)

-- from the first stamp on that isn't later, no stamp is
pub none_after : (t : ℕ) (s : Stamp) (ss : List Stamp) → IsStrictlySortedBy stamp_cmp (s ∷ ss) → s.revision ≤ t → filter (is_after t) (s ∷ ss) ≡ []
none_after t s ss up h =
    let off : is_after t s ≡ false = grind (arith, nat_tests) in
    rw off (none_later t s ss (sorted_head stamp_cmp s ss up) h)

-- ---- one stamp

stamp_path : (a b : Stamp) → a.revision ≡ b.revision → a.id ≡ b.id → a ≡ b
stamp_path a b p q = λ i. record { revision = p i; id = q i }

-- a stamp that isn't this one is at another place
same_stamp : (a b : Stamp) → is_at (stamp_cmp a) b ≡ true → a ≡ b
same_stamp a b h =
    stamp_path a b
    (split (eqb b.revision a.revision) (λ e. sym ((Decides-eqb b.revision a.revision).0 e)) (λ e. absurd (both_ways (is_at (stamp_cmp a) b) (other_revision a b e) h)))
    (split (bytes_eq b.id a.id) (λ e. sym (same_bytes b.id a.id e)) (λ e. absurd (both_ways (is_at (stamp_cmp a) b) (other_id a b e) h)))

module _ (rows : List ServerRow) where
  last_is : (revision : ℕ) (o : Option ServerRow) (r : ServerRow) → option_and_then (if_last revision) o ≡ Some r → (o ≡ Some r) × (greatest r ≡ revision)
  last_is revision None r h = cc
  last_is revision (Some q) r h = split (eqb (greatest q) revision)
      (λ e. let same : q ≡ r = some_same q r (rw e at h) in (ap Some same, ap greatest (sym same) ∙ (Decides-eqb (greatest q) revision).0 e))
      (λ e. absurd (none_some r (rw e at h)))

  -- the row that a stamp stands for is found by its id, and the stamp is its own
  fresh_found : (s : Stamp) (r : ServerRow) → fresh rows s ≡ Some r → (at_id r.id rows ≡ Some r) × (stamp_of r ≡ s)
  fresh_found s r h =
      let is = last_is s.revision (at_id s.id rows) r h in
      let id : r.id ≡ s.id = id-at_id s.id rows r is.0 in
      (ap (λ (i : List ℕ). at_id i rows) id ∙ is.0, stamp_path (stamp_of r) s is.1 id)

  -- a row's own stamp stands for it
  fresh_own : (r : ServerRow) → at_id r.id rows ≡ Some r → fresh rows (stamp_of r) ≡ Some r
  fresh_own r h = ap (option_and_then (if_last (greatest r))) h ∙ ap (λ (b : Bool). cond b (Some r) None) ((Decides-eqb (greatest r) (greatest r)).1 refl)

  -- ---- what is found by a list of stamps

  all_found : (ss : List Stamp) → All (λ r. at_id r.id rows ≡ Some r) (filter_map (fresh rows) ss)
  all_found [] = All-nil (λ r. at_id r.id rows ≡ Some r)
  all_found (s ∷ ss) = go (fresh rows s) refl (all_found ss)
    where
      go : (o : Option ServerRow) → fresh rows s ≡ o → All (λ r. at_id r.id rows ≡ Some r) (filter_map (fresh rows) ss) → All (λ r. at_id r.id rows ≡ Some r) (cons_option o (filter_map (fresh rows) ss))
      go None is ih = ih
      go (Some r) is ih = All-cons (λ q. at_id q.id rows ≡ Some q) r (filter_map (fresh rows) ss) (fresh_found s r is).0 ih

  -- an id without a row isn't found
  none_by : (id : List ℕ) (ss : List Stamp) → at_id id rows ≡ None → at_id id (filter_map (fresh rows) ss) ≡ None
  none_by id [] none = refl
  none_by id (s ∷ ss) none = go (fresh rows s) refl (none_by id ss none)
    where
      go : (o : Option ServerRow) → fresh rows s ≡ o → at_id id (filter_map (fresh rows) ss) ≡ None → at_id id (cons_option o (filter_map (fresh rows) ss)) ≡ None
      go None is ih = ih
      go (Some r) is ih = split (bytes_eq id r.id)
          (λ e. absurd (none_some r (sym none ∙ (ap (λ (i : List ℕ). at_id i rows) (same_bytes id r.id e) ∙ (fresh_found s r is).0))))
          (λ e. rw e ih)

  -- a row is found just where its stamp is among them
  found_by : (r : ServerRow) (ss : List Stamp) → at_id r.id rows ≡ Some r → at_id r.id (filter_map (fresh rows) ss) ≡ cond (list_any (is_at (stamp_cmp (stamp_of r))) ss) (Some r) None
  found_by r [] is = refl
  found_by r (s ∷ ss) is = split (is_at (stamp_cmp (stamp_of r)) s) (here (found_by r ss is)) (later (found_by r ss is))
    where
      here : at_id r.id (filter_map (fresh rows) ss) ≡ cond (list_any (is_at (stamp_cmp (stamp_of r))) ss) (Some r) None → is_at (stamp_cmp (stamp_of r)) s ≡ true
          → at_id r.id (cons_option (fresh rows s) (filter_map (fresh rows) ss)) ≡ cond (is_at (stamp_cmp (stamp_of r)) s || list_any (is_at (stamp_cmp (stamp_of r))) ss) (Some r) None
      here ih e =
          let own : fresh rows s ≡ Some r = ap (fresh rows) (sym (same_stamp (stamp_of r) s e)) ∙ fresh_own r is in
          ap (λ (o : Option ServerRow). at_id r.id (cons_option o (filter_map (fresh rows) ss))) own
          ∙ (ap (λ (b : Bool). cond b (Some r) (at_id r.id (filter_map (fresh rows) ss))) (bytes_same r.id r.id refl) ∙ sym (ap (λ (b : Bool). cond (b || list_any (is_at (stamp_cmp (stamp_of r))) ss) (Some r) None) e))

      later : at_id r.id (filter_map (fresh rows) ss) ≡ cond (list_any (is_at (stamp_cmp (stamp_of r))) ss) (Some r) None → is_at (stamp_cmp (stamp_of r)) s ≡ false
          → at_id r.id (cons_option (fresh rows s) (filter_map (fresh rows) ss)) ≡ cond (is_at (stamp_cmp (stamp_of r)) s || list_any (is_at (stamp_cmp (stamp_of r))) ss) (Some r) None
      later ih e = go (fresh rows s) refl ∙ (ih ∙ sym (ap (λ (b : Bool). cond (b || list_any (is_at (stamp_cmp (stamp_of r))) ss) (Some r) None) e))
        where
          go : (o : Option ServerRow) → fresh rows s ≡ o → at_id r.id (cons_option o (filter_map (fresh rows) ss)) ≡ at_id r.id (filter_map (fresh rows) ss)
          go None is' = refl
          go (Some q) is' = split (bytes_eq r.id q.id)
              (λ f. let f' = fresh_found s q is' in
              let same : q ≡ r = some_same q r (sym f'.0 ∙ (ap (λ (i : List ℕ). at_id i rows) (sym (same_bytes r.id q.id f)) ∙ is)) in
              absurd (both_ways (is_at (stamp_cmp (stamp_of r)) s) e (ap (λ (x : Stamp). is_at (stamp_cmp (stamp_of r)) x) (sym (ap stamp_of (sym same) ∙ f'.1)) ∙ own_place (stamp_of r))))
              (λ f. rw f refl)

  -- no two of them have one id, where the stamps ascend
  few : (ss : List Stamp) → IsStrictlySortedBy stamp_cmp ss → (x : Key) → times x (map key0 (filter_map (fresh rows) ss)) ≤ 1
  few [] up x = omega arith
  few (s ∷ ss) up x = go (fresh rows s) refl (few ss (sorted_tail stamp_cmp s ss up) x)
    where
      none_at : (q : Stamp) (qs : List Stamp) → AllByRecursion (λ p. stamp_cmp q p ≡ Less) qs → list_any (is_at (stamp_cmp q)) qs ≡ false
      none_at q [] all = refl
      none_at q (p ∷ ps) all = rw (ap is_eq all.0) (none_at q ps all.1)

      none_in : (id : List ℕ) (rs : List ServerRow) → at_id id rs ≡ None → is_in (key_at 0 id) (map key0 rs) ≡ false
      none_in id [] none = refl
      none_in id (r ∷ rs) none = split (bytes_eq id r.id) (λ e. absurd (none_some r (sym none ∙ rw e refl))) (λ e. rw e (none_in id rs (sym (rw e refl) ∙ none)))

      go : (o : Option ServerRow) → fresh rows s ≡ o → times x (map key0 (filter_map (fresh rows) ss)) ≤ 1 → times x (map key0 (cons_option o (filter_map (fresh rows) ss))) ≤ 1
      go None is ih = ih
      go (Some r) is ih =
          let f = fresh_found s r is in
          let alone : at_id r.id (filter_map (fresh rows) ss) ≡ None =
          found_by r ss f.0 ∙ ap (λ (b : Bool). cond b (Some r) None) (ap (λ (q : Stamp). list_any (is_at (stamp_cmp q)) ss) f.1 ∙ none_at s ss (sorted_head stamp_cmp s ss up)) in
          split (is_key x (key0 r))
          (λ e. let none : times x (map key0 (filter_map (fresh rows) ss)) ≡ 0 = times_none x (map key0 (filter_map (fresh rows) ss)) (ap (λ (k : Key). is_in k (map key0 (filter_map (fresh rows) ss))) (is_key_same x (key0 r) e) ∙ none_in r.id (filter_map (fresh rows) ss) alone) in
          omega (arith, times_here x (key0 r) (map key0 (filter_map (fresh rows) ss)) e, none))
          (λ e. omega (arith, times_later x (key0 r) (map key0 (filter_map (fresh rows) ss)) e, ih))

-- ---- touched

later_than : (t : ℕ) (r : ServerRow) → nat_lt t (greatest r) ≡ is_touched t r
later_than t r = max_test t r.created (max r.changed (unwrap_or r.deleted 0)) ∙ ap (λ (b : Bool). nat_lt t r.created || b) (max_test t r.changed (unwrap_or r.deleted 0))
  where
    max_test : (t a b : ℕ) → nat_lt t (max a b) ≡ (nat_lt t a || nat_lt t b)
    max_test t a b = split (nat_lt t a)
        (λ e. let h : nat_lt t (max a b) ≡ true = grind (arith, nat_tests) in rw e h)
        (λ e. split (nat_lt t b)
        (λ f. let h : nat_lt t (max a b) ≡ true = grind (arith, nat_tests) in rw (e, f) h)
        (λ f. let h : nat_lt t (max a b) ≡ false = grind (arith, nat_tests) in rw (e, f) h))

any_after : (t : ℕ) (q : Stamp) (ss : List Stamp) → list_any (is_at (stamp_cmp q)) (filter (is_after t) ss) ≡ (is_after t q && list_any (is_at (stamp_cmp q)) ss)
any_after t q [] = sym (no (is_after t q))
  where
    no : (b : Bool) → (b && false) ≡ false
    no true = refl
    no false = refl
any_after t q (s ∷ ss) =
    let ih : list_any (is_at (stamp_cmp q)) (filter (is_after t) ss) ≡ (is_after t q && list_any (is_at (stamp_cmp q)) ss) = any_after t q ss in
    split (is_at (stamp_cmp q) s)
    (λ e. let same : is_after t s ≡ is_after t q = ap (is_after t) (sym (same_stamp q s e)) in
    split (is_after t q)
    (λ f. rw (same ∙ f) (rw (e, f) refl))
    (λ f. rw (same ∙ f) (ih ∙ rw f refl)))
    (λ e. split (is_after t s)
    (λ f. rw f (rw e ih))
    (λ f. rw f (rw e ih)))

module _ (rows : List ServerRow) (up : names_ascend id_of rows ≡ true) (stamps : List Stamp) (stamped : (id : List ℕ) (r : ServerRow) → at_id id rows ≡ Some r → list_any (is_at (stamp_cmp (stamp_of r))) stamps ≡ true) (t : ℕ) where
  abbrev by_stamps : List ServerRow
  by_stamps = filter_map (fresh rows) (filter (is_after t) stamps)

  at_stamps : (id : List ℕ) (o : Option ServerRow) → at_id id rows ≡ o → at_id id by_stamps ≡ option_and_then (if_passes (is_touched t)) o
  at_stamps id None none = none_by rows id (filter (is_after t) stamps) none
  at_stamps id (Some r) is =
      let own : r.id ≡ id = id-at_id id rows r is in
      let at : at_id r.id rows ≡ Some r = ap (λ (i : List ℕ). at_id i rows) own ∙ is in
      let any : list_any (is_at (stamp_cmp (stamp_of r))) (filter (is_after t) stamps) ≡ is_touched t r =
      any_after t (stamp_of r) stamps ∙ (ap (λ (b : Bool). is_after t (stamp_of r) && b) (stamped id r is) ∙ (and_true (is_after t (stamp_of r)) ∙ later_than t r)) in
      ap (λ (i : List ℕ). at_id i by_stamps) (sym own) ∙ (found_by rows r (filter (is_after t) stamps) at ∙ ap (λ (b : Bool). cond b (Some r) None) any)
    where
      and_true : (b : Bool) → (b && true) ≡ b
      and_true true = refl
      and_true false = refl

  -- sorted, they are the rows that were touched
  module _ (sorted : IsStrictlySortedBy stamp_cmp (filter (is_after t) stamps)) (found : List ServerRow) (moved : IsPermutation by_stamps found) (rising : do_rise (map key0 found) ≡ true) where
    single : (x : Key) → times x (map key0 found) ≤ 1
    single x = subst (λ (n : ℕ). n ≤ 1) (sym (times_moved key0 by_stamps found moved x)) (few rows (filter (is_after t) stamps) sorted x)

    never_twice : (ks : List Key) → find (is_twice (map key0 found)) ks ≡ None
    never_twice [] = refl
    never_twice (k ∷ ks) = let off : is_twice (map key0 found) k ≡ false = let h = single k in grind (arith, nat_tests) in rw off (never_twice ks)

    in_order : do_ascend (map key0 found) ≡ true
    in_order =
        let once : first_again (map key0 found) ≡ None = sym (twice_is_again (map key0 found) rising) ∙ never_twice (ascending (map key0 found)) in
        subst (λ (ks : List Key). do_ascend ks ≡ true) (rise_ascends (map key0 found) rising once) (do_ascend-ascending (map key0 found))

    all_ids : (r : ServerRow) (rs : List ServerRow) → list_all (is_before (key0 r)) (map key0 rs) ≡ true → list_all (λ q. is_below r.id q.id) rs ≡ true
    all_ids r [] h = refl
    all_ids r (q ∷ qs) h =
        let p = and_parts (is_before (key0 r) (key0 q)) (list_all (is_before (key0 r)) (map key0 qs)) h in
        and_from (is_below r.id q.id) (list_all (λ x. is_below r.id x.id) qs) (sym (before_is_below (key0 r) (key0 q) refl) ∙ p.0) (all_ids r qs p.1)

    ids_ascend : (rs : List ServerRow) → do_ascend (map key0 rs) ≡ true → names_ascend id_of rs ≡ true
    ids_ascend [] h = refl
    ids_ascend (r ∷ rs) h =
        let p = and_parts (list_all (is_before (key0 r)) (map key0 rs)) (do_ascend (map key0 rs)) h in
        and_from (list_all (λ q. is_below r.id q.id) rs) (names_ascend id_of rs) (all_ids r rs p.0) (ids_ascend rs p.1)

    -- what is found of an id is in the other list, too
    found_in : (id : List ℕ) (rs : List ServerRow) (r : ServerRow) → All (λ q. at_id q.id rows ≡ Some q) rs → at_id id rs ≡ Some r → at_id id rows ≡ Some r
    found_in id [] r all h = cc
    found_in id (q ∷ qs) r all h =
        let ih : at_id id qs ≡ Some r → at_id id rows ≡ Some r = found_in id qs r (All-tail (λ x. at_id x.id rows ≡ Some x) q qs all) in
        split (bytes_eq id q.id)
        (λ e. let same : q ≡ r = some_same q r (rw e at h) in
        ap (λ (i : List ℕ). at_id i rows) (same_bytes id q.id e) ∙ (All-head (λ x. at_id x.id rows ≡ Some x) q qs all ∙ ap Some same))
        (λ e. ih (rw e at h))

    in_where : (id : List ℕ) (rs : List ServerRow) (r : ServerRow) → at_id id rs ≡ Some r → is_in (key_at 0 id) (map key0 rs) ≡ true
    in_where id [] r h = cc
    in_where id (q ∷ qs) r h = split (bytes_eq id q.id) (λ e. rw e refl) (λ e. rw e (in_where id qs r (rw e at h)))

    in_none : (id : List ℕ) (rs : List ServerRow) → at_id id rs ≡ None → is_in (key_at 0 id) (map key0 rs) ≡ false
    in_none id [] h = refl
    in_none id (q ∷ qs) h = split (bytes_eq id q.id) (λ e. absurd (none_some q (sym h ∙ rw e refl))) (λ e. rw e (in_none id qs (sym (rw e refl) ∙ h)))

    both : (id : List ℕ) (a b : Option ServerRow) → at_id id found ≡ a → at_id id by_stamps ≡ b → a ≡ b
    both id None None p q = refl
    both id None (Some r) p q = absurd (both_ways (is_in (key_at 0 id) (map key0 by_stamps)) (sym (in_moved key0 by_stamps found moved (key_at 0 id)) ∙ in_none id found p) (in_where id by_stamps r q))
    both id (Some r) None p q = absurd (both_ways (is_in (key_at 0 id) (map key0 by_stamps)) (in_none id by_stamps q) (sym (in_moved key0 by_stamps found moved (key_at 0 id)) ∙ in_where id found r p))
    both id (Some r) (Some s) p q =
        let all = all_found rows (filter (is_after t) stamps) in
        sym (found_in id found r (All-permutation (λ x. at_id x.id rows ≡ Some x) by_stamps found moved all) p) ∙ found_in id by_stamps s all q

    pub found_is : found ≡ filter (is_touched t) rows
    found_is = same_rows found (filter (is_touched t) rows) (ids_ascend found in_order) (ascend-filter (is_touched t) rows up)
        (λ id. both id (at_id id found) (at_id id by_stamps) refl refl ∙ (at_stamps id (at_id id rows) refl ∙ sym (at_id-filter (is_touched t) id rows up)))

-- ---- stamp by stamp

joined : (xs : List ServerRow) (o : Option ServerRow) (ys : List ServerRow) → (xs ++ option_to_list o) ++ ys ≡ xs ++ cons_option o ys
joined [] None ys = refl
joined [] (Some r) ys = refl
joined (x ∷ xs) o ys = ap (λ (rest : List ServerRow). x ∷ rest) (joined xs o ys)

module _ (rows : List ServerRow) (t : ℕ) (s : Stamp) (ss all : List Stamp) (next : all ≡ s ∷ ss) (old : List ServerRow) (whole : List ServerRow) (so_far : old ++ filter_map (fresh rows) (filter (is_after t) all) ≡ whole) where
  pub found_more : t < s.revision → (new : List ServerRow) → new ≡ old ++ option_to_list (fresh rows s) → new ++ filter_map (fresh rows) (filter (is_after t) ss) ≡ whole
  found_more later new is =
      let on : is_after t s ≡ true = grind (arith, nat_tests) in
      let rest : filter_map (fresh rows) (filter (is_after t) all) ≡ cons_option (fresh rows s) (filter_map (fresh rows) (filter (is_after t) ss)) =
      ap (λ (qs : List Stamp). filter_map (fresh rows) (filter (is_after t) qs)) next ∙ ap (λ (b : Bool). filter_map (fresh rows) (cond b (s ∷ filter (is_after t) ss) (filter (is_after t) ss))) on in
      ap (λ (xs : List ServerRow). xs ++ filter_map (fresh rows) (filter (is_after t) ss)) is
      ∙ (joined old (fresh rows s) (filter_map (fresh rows) (filter (is_after t) ss)) ∙ (ap (λ (ys : List ServerRow). old ++ ys) (sym rest) ∙ so_far))

  pub found_end : IsStrictlySortedBy stamp_cmp all → s.revision ≤ t → old ≡ whole
  found_end up h =
      let none : filter (is_after t) all ≡ [] = ap (filter (is_after t)) next ∙ none_after t s ss (subst (IsStrictlySortedBy stamp_cmp) next up) h in
      sym (append-nil old) ∙ (ap (λ (qs : List Stamp). old ++ filter_map (fresh rows) qs) (sym none) ∙ so_far)

  pub ordered_more : IsStrictlySortedBy stamp_cmp all → IsStrictlySortedBy stamp_cmp ss
  ordered_more up = sorted_tail stamp_cmp s ss (subst (IsStrictlySortedBy stamp_cmp) next up)

all-filter : {K : Type 0} (P : K → Type 0) (p : K → Bool) (ks : List K) → AllByRecursion P ks → AllByRecursion P (filter p ks)
all-filter P p [] all = tt
all-filter P p (k ∷ ks) all = let ih : AllByRecursion P (filter p ks) = all-filter P p ks all.1 in split (p k) (λ e. rw e (all.0, ih)) (λ e. rw e ih)

pub sorted-filter : (p : Stamp → Bool) (ks : List Stamp) → IsStrictlySortedBy stamp_cmp ks → IsStrictlySortedBy stamp_cmp (filter p ks)
unfolding IsStrictlySortedBy
sorted-filter p [] up = tt
sorted-filter p (k ∷ ks) up =
    let ih : IsStrictlySortedBy stamp_cmp (filter p ks) = sorted-filter p ks up.1 in
    split (p k) (λ e. rw e (all-filter (λ q. stamp_cmp k q ≡ Less) p ks up.0, ih)) (λ e. rw e ih)

pub keys_touched : (ts : List Touched) → map (λ (t : Touched). key_at 0 t.row.now.id) ts ≡ map key0 (map touched_row ts)
keys_touched [] = refl
keys_touched (t ∷ ts) = ap (λ (ks : List Key). key0 t.row.now ∷ ks) (keys_touched ts)
