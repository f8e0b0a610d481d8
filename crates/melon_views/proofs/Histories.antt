-- What a legal history shows, entry by entry.
use Rattle.std.proofs.Common.{◌≡◌, ℕ, zero, suc, ◌+◌, ◌-◌, ◌<◌, ◌≤◌, List, [], ◌∷◌, length, get_or, set, take, drop, find, slice_get, Bool, true, false, not, cond, Option, Some, None, refl, sym, ap, ◌∙◌, subst, arith, add-one, add-zero}
use Rattle.std.specs.List.{range_with_len}
use Rattle.std.proofs.lemmas.Bool.{both_ways, not_from_true, not_from_false, false_from_ne_true}
use Rattle.melon_schema.specs.declared.schema.TableSchema.{TableSchema}
use Rattle.melon_raw.specs.declared.raw.Raw.{Raw}
use Rattle.melon_raw.specs.Rows.{Rows, is_ascending}
use Rattle.melon_table.proofs.ById.{is_ascending-put_row, is_ascending-without_row}
use Rattle.melon_query.specs.declared.query.Query.{Query}
use Rattle.melon_query.specs.Simple.{is_simple}
use Rattle.melon_change.specs.declared.change.Change.{Change}
use Rattle.melon_change.specs.declared.history.Entry.{Entry}
use Rattle.melon_change.specs.Changes.{with_after, after_change, after_set}
use Rattle.melon_change.specs.History.{History, IsEntry, IsLegal, replay, replay_to}
use Rattle.melon_views.specs.declared.emission.Shape.{Shape}
use Rattle.melon_views.specs.Views.{shown, view}
use Rattle.melon_views.specs.Due.{is_same, differs, due}
use Rattle.melon_views.specs.Members.{matters}
use Rattle.melon_views.specs.Laws.{Ascend, IsHistory, EntriesChangeViews, NoneMatters, FirstDue, NoneDue}
use Rattle.melon_views.proofs.Same.{is_same-Decides}
use Rattle.melon_views.proofs.Lookups.{some_same}
use Rattle.melon_views.proofs.Changing.{entry_changes}

-- ---- the ids of each table go on ascending

with_ascends : (id : List ℕ) (after : Option Raw) (rows : List Raw) → is_ascending rows ≡ true → is_ascending (with_after id after rows) ≡ true
with_ascends id None rows asc = is_ascending-without_row id rows asc
with_ascends id (Some row) rows asc = is_ascending-put_row row rows asc

set_ascends : (rows : Rows) (t : ℕ) (xs : List Raw) → Ascend rows → is_ascending xs ≡ true → Ascend (set rows t xs)
set_ascends [] t xs asc up u = asc u
set_ascends (r ∷ rs) zero xs asc up zero = up
set_ascends (r ∷ rs) zero xs asc up (suc u) = asc (suc u)
set_ascends (r ∷ rs) (suc t) xs asc up zero = asc zero
set_ascends (r ∷ rs) (suc t) xs asc up (suc u) = set_ascends rs t xs (λ v. asc (suc v)) up u

pub Ascend-after_set : (rows : Rows) (cs : List Change) → Ascend rows → Ascend (after_set rows cs)
Ascend-after_set rows [] asc = asc
Ascend-after_set rows (c ∷ cs) asc =
    Ascend-after_set (after_change rows c) cs (set_ascends rows c.table (with_after c.id c.after (get_or rows c.table [])) asc (with_ascends c.id c.after (get_or rows c.table []) (asc c.table)))

pub entries_change : EntriesChangeViews
entries_change schema rows e q s simple asc entry = entry_changes schema rows e q s simple asc (Ascend-after_set rows e.set asc) entry

-- ---- one entry of a history

pub record AtEntry (schema : List TableSchema) (before after : Rows) (e : Entry) : Type 0 where
  pub ascend : Ascend before
  pub legal : IsEntry schema before e
  pub next : after ≡ after_set before e.set

pub at_entry : (schema : List TableSchema) (rows : Rows) (es : List Entry) (k : ℕ) (e : Entry) → Ascend rows → IsLegal schema rows es → slice_get es k ≡ Some e → AtEntry schema (replay rows (take k es)) (replay rows (take (suc k) es)) e
at_entry schema rows [] k e asc legal f = cc
at_entry schema rows (d ∷ es) zero e asc legal f =
    subst (λ (x : Entry). AtEntry schema rows (after_set rows d.set) x) (some_same d e f) (record { ascend = asc; legal = legal.0; next = refl })
at_entry schema rows (d ∷ es) (suc k) e asc legal f = at_entry schema (after_set rows d.set) es k e (Ascend-after_set rows d.set asc) legal.1 f

entry_there : (es : List Entry) (k : ℕ) → k < length es → (e : Entry) × (slice_get es k ≡ Some e)
entry_there [] k h = absurd (omega arith)
entry_there (e ∷ es) zero h = (e, refl)
entry_there (e ∷ es) (suc k) h = entry_there es k (omega arith)

module _ (schema : List TableSchema) (h : History) (q : Query) (s : Shape) (simple : is_simple q ≡ true) (history : IsHistory schema h) where
  -- the view differs from the one before exactly where the entry matters
  view_step : (k : ℕ) (e : Entry) → slice_get h.entries k ≡ Some e → is_same (view q s h (suc k)) (view q s h k) ≡ not (matters q s e.set)
  view_step k e f =
      let there = at_entry schema h.opening h.entries k e history.ascend history.legal f in
      ap (λ (rows : Rows). is_same (shown q s rows) (shown q s (replay_to h k))) there.next ∙ entries_change schema (replay_to h k) e q s simple there.ascend there.legal

  same_step : (k : ℕ) (e : Entry) → slice_get h.entries k ≡ Some e → matters q s e.set ≡ false → view q s h (suc k) ≡ view q s h k
  same_step k e f none = (is_same-Decides (view q s h (suc k)) (view q s h k)).0 (view_step k e f ∙ ap not none)

  -- up to the next entry that matters the view stays
  pub stays : (p n d : ℕ) → p + d ≤ n → n ≤ length h.entries → NoneMatters q s h.entries p n → view q s h (p + d) ≡ view q s h p
  stays p n zero within end none = ap (view q s h) (add-zero p)
  stays p n (suc d) within end none =
      let there = entry_there h.entries (p + d) (omega arith) in
      let more : p + suc d ≡ suc (p + d) = omega arith in
      ap (view q s h) more ∙ (same_step (p + d) there.0 there.1 (none (p + d) there.0 (omega arith) (omega arith) there.1) ∙ stays p n d (omega arith) end none)

  not_yet : (p n m : ℕ) → p ≤ m → m ≤ n → n ≤ length h.entries → NoneMatters q s h.entries p n → differs q s h p m ≡ false
  not_yet p n m above within end none =
      let place : p + (m - p) ≡ m = omega arith in
      not_from_true (is_same (view q s h m) (view q s h p))
      ((is_same-Decides (view q s h m) (view q s h p)).1 (sym (ap (view q s h) place) ∙ stays p n (m - p) (omega arith) end none))

  now : (p k : ℕ) (e : Entry) → p ≤ k → NoneMatters q s h.entries p k → slice_get h.entries k ≡ Some e → k < length h.entries → matters q s e.set ≡ true → differs q s h p (suc k) ≡ true
  now p k e above none f within hit =
      let place : p + (k - p) ≡ k = omega arith in
      let same : view q s h p ≡ view q s h k = sym (stays p k (k - p) (omega arith) (omega arith) none) ∙ ap (view q s h) place in
      ap (λ v. not (is_same (view q s h (suc k)) v)) same ∙ (ap not (view_step k e f) ∙ ap (λ b. not (not b)) hit)

-- ---- the first number that passes

find_first : (test : ℕ → Bool) (a n j : ℕ) → j < n → ((i : ℕ) → i < j → test (a + i) ≡ false) → test (a + j) ≡ true → find test (range_with_len a n) ≡ Some (a + j)
find_first test a zero j within earlier here = absurd (omega arith)
find_first test a (suc n) zero within earlier here =
    let first : test a ≡ true = subst (λ (m : ℕ). test m ≡ true) (add-zero a) here in
    rw first (ap Some (sym (add-zero a)))
find_first test a (suc n) (suc j) within earlier here =
    let first : test a ≡ false = subst (λ (m : ℕ). test m ≡ false) (add-zero a) (earlier zero (omega arith)) in
    let place : (i : ℕ) → a + suc i ≡ a + 1 + i = λ i. omega arith in
    rw first (find_first test (a + 1) n j (omega arith) (λ i l. subst (λ (m : ℕ). test m ≡ false) (place i) (earlier (suc i) (omega arith))) (subst (λ (m : ℕ). test m ≡ true) (place j) here)
    ∙ ap Some (sym (place j)))

find_none : (test : ℕ → Bool) (a n : ℕ) → ((i : ℕ) → i < n → test (a + i) ≡ false) → find test (range_with_len a n) ≡ None
find_none test a zero none = refl
find_none test a (suc n) none =
    let first : test a ≡ false = subst (λ (m : ℕ). test m ≡ false) (add-zero a) (none zero (omega arith)) in
    let place : (i : ℕ) → a + suc i ≡ a + 1 + i = λ i. omega arith in
    rw first (find_none test (a + 1) n (λ i l. subst (λ (m : ℕ). test m ≡ false) (place i) (none (suc i) (omega arith))))

within_from : (es : List Entry) (k : ℕ) (e : Entry) → slice_get es k ≡ Some e → k < length es
within_from [] k e f = cc
within_from (d ∷ es) zero e f = omega arith
within_from (d ∷ es) (suc k) e f = let ih = within_from es k e f in omega (arith, ih)

pub first_due : FirstDue
unfolding due
first_due schema h q s p k e simple history above none f hit =
    let within : k < length h.entries = within_from h.entries k e f in
    let here : (p + 1) + (k - p) ≡ suc k = omega arith in
    let there : (p + 1) + (k - p) ≡ k + 1 = omega arith in
    find_first (differs q s h p) (p + 1) (length h.entries - p) (k - p) (omega arith)
    (λ i l. not_yet schema h q s simple history p k (p + 1 + i) (omega arith) (omega arith) (omega arith) none)
    (subst (λ (m : ℕ). differs q s h p m ≡ true) (sym here) (now schema h q s simple history p k e above none f within hit))
    ∙ ap Some there

pub none_due : NoneDue
unfolding due
none_due schema h q s p simple history none =
    find_none (differs q s h p) (p + 1) (length h.entries - p)
    (λ i l. not_yet schema h q s simple history p (length h.entries) (p + 1 + i) (omega arith) (omega arith) (omega arith) none)
