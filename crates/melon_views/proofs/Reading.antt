-- What a query shows depends on the tables that it reads alone.
use Rattle.std.proofs.Common.{◌≡◌, ◌≢◌, ℕ, zero, suc, ◌+◌, ◌-◌, ◌<◌, ◌≤◌, List, [], ◌∷◌, ◌++◌, length, get_or, set, take, drop, map, filter, slice_get, Bool, true, false, ◌&&◌, ◌||◌, cond, eqb, nat_lt, Option, Some, None, refl, sym, ap, ◌∙◌, subst, arith, add-zero, inl, inr, ◌⊎◌}
use Rattle.std.specs.List.{AllByRecursion, list_any, flat_map}
use Rattle.std.proofs.lemmas.Bool.{false≢true, both_ways, or_parts, or_cases, or_left, or_right, eqb-true, eqb-false, eq-eqb, lt-ltb, cases_order}
use Rattle.std.proofs.lemmas.List.{get_or-set_other}
use Rattle.std.proofs.lemmas.List.Elements.{filter_agree}
use Rattle.melon_raw.specs.declared.raw.Raw.{Raw}
use Rattle.melon_raw.specs.Rows.{Rows, has, is_visible}
use Rattle.melon_table.proofs.Order.{split}
use Rattle.melon_query.specs.declared.query.Query.{Query}
use Rattle.melon_query.specs.declared.query.Cond.{Cond}
use Rattle.melon_query.specs.declared.query.Joined.{Joined}
use Rattle.melon_query.specs.Tuples.{Member, members_over, rows_of, choices, or_absent, is_choice, with_each}
use Rattle.melon_query.specs.Meaning.{all_hold}
use Rattle.melon_query.specs.Order.{in_order, comes_before}
use Rattle.melon_query.specs.Fresh.{all_ons, with_table, with_tables, joined_tables, some_members, is_chosen, at_most, fresh}
use Rattle.melon_query.specs.Simple.{with_place, with_places, tables_of}
use Rattle.melon_change.specs.declared.change.Change.{Change}
use Rattle.melon_change.specs.declared.history.Entry.{Entry}
use Rattle.melon_change.specs.Changes.{with_after, after_change, after_set}
use Rattle.melon_change.specs.History.{History, replay, replay_to}
use Rattle.melon_views.specs.declared.emission.Shape.{Shape}
use Rattle.melon_views.specs.declared.emission.Shape.TheVariants.{Ids, Columns}
use Rattle.melon_views.specs.declared.emission.Emission.TheVariants as emission
use Rattle.melon_views.specs.Views.{shown_at, shown, view}
use Rattle.melon_views.specs.Members.{touches}
use Rattle.melon_views.specs.Laws.{OthersChangeNothing, NoneTouches, UntouchedViewsStay}

-- ---- places that are read

has_filter : (x : ℕ) (test : ℕ → Bool) (places : List ℕ) → test x ≡ true → has x places ≡ true → has x (filter test places) ≡ true
has_filter x test [] t h = absurd (false≢true h)
has_filter x test (p ∷ ps) t h =
    let ih : has x ps ≡ true → has x (filter test ps) ≡ true = has_filter x test ps t in
    split (eqb x p)
    (λ e. first (test p) (subst (λ (n : ℕ). test n ≡ true) (eqb-true x p e) t) e)
    (λ e. behind (test p) (ih (ap (λ b. b || has x ps) (sym e) ∙ h)))
  where
    first : (b : Bool) → b ≡ true → eqb x p ≡ true → has x (cond b (p ∷ filter test ps) (filter test ps)) ≡ true
    first true q e = or_left (eqb x p) _ e
    first false q e = absurd (false≢true q)

    behind : (b : Bool) → has x (filter test ps) ≡ true → has x (cond b (p ∷ filter test ps) (filter test ps)) ≡ true
    behind true k = or_right (eqb x p) _ k
    behind false k = k

has_front : (x : ℕ) (ps qs : List ℕ) → has x ps ≡ true → has x (ps ++ qs) ≡ true
has_front x [] qs h = absurd (false≢true h)
has_front x (p ∷ ps) qs h =
    let ih : has x ps ≡ true → has x (ps ++ qs) ≡ true = has_front x ps qs in
    elim (or_cases (eqb x p) (has x ps) h) [ inl e ↦ or_left (eqb x p) _ e | inr e ↦ or_right (eqb x p) _ (ih e) ]

has_back : (x : ℕ) (ps qs : List ℕ) → has x qs ≡ true → has x (ps ++ qs) ≡ true
has_back x [] qs h = h
has_back x (p ∷ ps) qs h = or_right (eqb x p) _ (has_back x ps qs h)

has_added : (places : List ℕ) (p : ℕ) → has p (with_place places p) ≡ true
has_added places p = has_back p (filter (λ q. nat_lt q p) places) (p ∷ filter (λ q. nat_lt p q) places) (or_left (eqb p p) _ (eq-eqb p p refl))

has_still : (x : ℕ) (places : List ℕ) (p : ℕ) → has x places ≡ true → has x (with_place places p) ≡ true
has_still x places p h = elim (cases_order x p) [
  | inl same ↦ subst (λ (n : ℕ). has n (with_place places p) ≡ true) (sym same) (has_added places p)
  | inr apart ↦ elim apart [
    | inl low ↦ has_front x (filter (λ q. nat_lt q p) places) (p ∷ filter (λ q. nat_lt p q) places) (has_filter x (λ q. nat_lt q p) places (lt-ltb x p low) h)
    | inr high ↦ has_back x (filter (λ q. nat_lt q p) places) (p ∷ filter (λ q. nat_lt p q) places) (or_right (eqb x p) _ (has_filter x (λ q. nat_lt p q) places (lt-ltb p x high) h))
  ]
]

has_through : (x : ℕ) (places : List ℕ) (js : List Joined) → has x places ≡ true → has x (with_places places js) ≡ true
has_through x places [] h = h
has_through x places (j ∷ js) h = has_through x (with_place places j.table) js (has_still x places j.table h)

each_has : (places : List ℕ) (js : List Joined) → AllByRecursion (λ (j : Joined). has j.table (with_places places js) ≡ true) js
each_has places [] = tt
each_has places (j ∷ js) = (has_through j.table (with_place places j.table) js (has_added places j.table), each_has (with_place places j.table) js)

pub main_read : (q : Query) → has q.table (tables_of q) ≡ true
main_read q = has_through q.table (q.table ∷ []) (all_ons q.conds) (or_left (eqb q.table q.table) _ (eq-eqb q.table q.table refl))

-- ---- joined tables are read

module _ (P : Joined → Type 0) where
  all_behind : (made : List Joined) (j : Joined) → AllByRecursion P made → P j → AllByRecursion P (made ++ j ∷ [])
  all_behind [] j h p = (p, tt)
  all_behind (k ∷ ks) j h p = (h.0, all_behind ks j h.1 p)

  all_chosen : (made : List Joined) (j : Joined) (b : Bool) → AllByRecursion P made → P j → AllByRecursion P (cond b made (made ++ j ∷ []))
  all_chosen made j true h p = h
  all_chosen made j false h p = all_behind made j h p

  all_tables : (made js : List Joined) → AllByRecursion P made → AllByRecursion P js → AllByRecursion P (with_tables made js)
  all_tables made [] h k = h
  all_tables made (j ∷ js) h k = all_tables (with_table made j) js (all_chosen made j (list_any (λ (l : Joined). eqb l.table j.table) made) h k.0) k.1

joined_read : (q : Query) → AllByRecursion (λ (j : Joined). has j.table (tables_of q) ≡ true) (joined_tables q.conds)
unfolding joined_tables
joined_read q = all_tables (λ (j : Joined). has j.table (tables_of q) ≡ true) [] (all_ons q.conds) tt (each_has (q.table ∷ []) (all_ons q.conds))

-- ---- rows that agree in the tables that are read

module _ (q : Query) (old new : Rows) (agree : (t : ℕ) → has t (tables_of q) ≡ true → rows_of t new ≡ rows_of t old) where
  same_members : (main : Raw) (js : List Joined) → AllByRecursion (λ (j : Joined). has j.table (tables_of q) ≡ true) js → members_over new main js ≡ members_over old main js
  unfolding members_over
  same_members main [] h = refl
  same_members main (j ∷ js) h =
      ap (λ (later : List (List Member)). flat_map (with_each j later) (choices new main j)) (same_members main js h.1)
      ∙ ap (λ (rows : List Raw). flat_map (with_each j (members_over old main js)) (or_absent (filter (is_choice j.join main) rows))) (agree j.table h.0)

  same_choice : (main : Raw) → is_chosen q.conds new main ≡ is_chosen q.conds old main
  unfolding some_members
  same_choice main =
      ap (λ (mss : List (List Member)). is_visible main.status && list_any (λ ms. all_hold q.conds (record { main = main; members = [] ++ ms })) mss) (same_members main (joined_tables q.conds) (joined_read q))

  same_answer : fresh q new ≡ fresh q old
  unfolding fresh
  same_answer =
      ap (λ (rows : List Raw). map (λ (row : Raw). row.id) (at_most q.take (drop q.skip (in_order (comes_before q.sort) (filter (is_chosen q.conds new) rows))))) (agree q.table (main_read q))
      ∙ ap (λ (rows : List Raw). map (λ (row : Raw). row.id) (at_most q.take (drop q.skip (in_order (comes_before q.sort) rows)))) (filter_agree (is_chosen q.conds new) (is_chosen q.conds old) same_choice (rows_of q.table old))

  pub same_shown : (s : Shape) → shown q s new ≡ shown q s old
  same_shown Ids = ap emission.Ids same_answer
  same_shown (Columns columns) =
      ap emission.Rows (
      ap (map (shown_at columns (rows_of q.table new))) same_answer
      ∙ ap (λ (rows : List Raw). map (shown_at columns rows) (fresh q old)) (agree q.table (main_read q))
      )

-- ---- changes elsewhere

elsewhere : (reads : List ℕ) (t u : ℕ) → has t reads ≡ true → has u reads ≡ false → t ≢ u
elsewhere reads t u h k same = both_ways (has u reads) k (subst (λ (n : ℕ). has n reads ≡ true) same h)

untouched : (reads : List ℕ) (rows : Rows) (set : List Change) (t : ℕ) → has t reads ≡ true → list_any (λ (c : Change). has c.table reads) set ≡ false → rows_of t (after_set rows set) ≡ rows_of t rows
untouched reads rows [] t h none = refl
untouched reads rows (c ∷ cs) t h none =
    let parts = or_parts (has c.table reads) (list_any (λ (d : Change). has d.table reads) cs) none in
    untouched reads (after_change rows c) cs t h parts.1
    ∙ get_or-set_other rows c.table t (with_after c.id c.after (get_or rows c.table [])) [] (elsewhere reads t c.table h parts.0)

pub others_change_nothing : OthersChangeNothing
unfolding touches
others_change_nothing rows set q s none = same_shown q rows (after_set rows set) (λ t h. untouched (tables_of q) rows set t h none) s

-- ---- views

next_replay : (rows : Rows) (es : List Entry) (k : ℕ) (e : Entry) → slice_get es k ≡ Some e → replay rows (take (suc k) es) ≡ after_set (replay rows (take k es)) e.set
next_replay rows [] k e f = cc
next_replay rows (d ∷ es) zero e f = let same : d ≡ e = cc in ap (λ (x : Entry). after_set rows x.set) same
next_replay rows (d ∷ es) (suc k) e f = next_replay (after_set rows d.set) es k e f

there : (es : List Entry) (k : ℕ) → k < length es → (e : Entry) × (slice_get es k ≡ Some e)
there [] k h = absurd (omega arith)
there (e ∷ es) zero h = (e, refl)
there (e ∷ es) (suc k) h = there es k (omega arith)

module _ (h : History) (q : Query) (s : Shape) where
  stays_by : (p n d : ℕ) → p + d ≤ n → n ≤ length h.entries → NoneTouches q h.entries p n → view q s h (p + d) ≡ view q s h p
  stays_by p n zero within end none = ap (view q s h) (add-zero p)
  stays_by p n (suc d) within end none =
      let found = there h.entries (p + d) (omega arith) in
      let more : p + suc d ≡ suc (p + d) = omega arith in
      ap (view q s h) more
      ∙ (ap (shown q s) (next_replay h.opening h.entries (p + d) found.0 found.1)
      ∙ (others_change_nothing (replay_to h (p + d)) found.0.set q s (none (p + d) found.0 (omega arith) (omega arith) found.1)
      ∙ stays_by p n d (omega arith) end none))

pub untouched_views : UntouchedViewsStay
untouched_views h q s p n above end none =
    let place : p + (n - p) ≡ n = omega arith in
    sym (ap (view q s h) place) ∙ stays_by h q s p n (n - p) (omega arith) end none
