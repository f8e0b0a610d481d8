-- The marks that rows carry are those that looking back gives.
use Rattle.std.proofs.Common.{◌≡◌, ℕ, zero, suc, List, [], ◌∷◌, ◌++◌, take, filter, Bool, true, false, not, ◌&&◌, ◌==◌, Option, Some, None, refl, sym, ap, ◌∙◌, subst, append-nil, cond, get_or, length, inl, inr, ◌⊎◌}
use Rattle.std.specs.Bool.{MatchBool}
use Rattle.std.specs.List.{range_with_len}
use Rattle.std.proofs.lemmas.Bool.{both_ways, or_cases, or_left, or_right}
use Rattle.melon_schema.specs.declared.schema.ColumnSchema.{ColumnSchema}
use Rattle.melon_schema.specs.declared.schema.TableSchema.{TableSchema}
use Rattle.melon_raw.specs.declared.datum.Datum.{Datum}
use Rattle.melon_raw.specs.declared.datum.Datum.TheVariants.{Null}
use Rattle.melon_raw.specs.declared.raw.Raw.{Raw}
use Rattle.melon_raw.specs.Datum.{datum_eq}
use Rattle.melon_raw.specs.Rows.{Key, Rows, at, has, is_visible}
use Rattle.melon_change.specs.declared.history.Origin.{Origin}
use Rattle.melon_change.specs.declared.history.Origin.TheVariants.{Local, Applied, Settled}
use Rattle.melon_change.specs.declared.history.Entry.{Entry}
use Rattle.melon_change.specs.declared.change.Change.{Change}
use Rattle.melon_change.specs.Changes.{columns_at, key_of, change_of, after_set}
use Rattle.melon_change.specs.Edited.{appended, by_name, differing, differs}
use Rattle.melon_change.specs.History.{IsAllowed, IsEdit, IsMarkedDeleted, IsResolved, IsSynced, IsEntry, IsLegal, IsChange, replay}
use Rattle.melon_change.specs.Marks.{marks_in, change_clears, clears, behind_clearing, appended_at, appended_by, marks_since, marks, or_behind, RowsCarryMarks, EndsMarks, MarksEndOnlySo}
use Rattle.melon_change.proofs.Same.{datum_eq_refl}
use Rattle.melon_change.proofs.After.{at_after, after_of, apart_from_changes, change_found}

-- ---- one change

-- equal cells append nothing
none_differ : (b a : List Datum) (cs : List ℕ) → a ≡ b → filter (differs b a) cs ≡ []
none_differ b a [] h = refl
none_differ b a (c ∷ cs) h =
    let ih : filter (differs b a) cs ≡ [] = none_differ b a cs h in
    let same : datum_eq (get_or b c Null) (get_or a c Null) ≡ true = subst (λ xs. datum_eq (get_or b c Null) (get_or xs c Null) ≡ true) (sym h) (datum_eq_refl (get_or b c Null)) in
    rw same ih

pub nothing_differs : (columns : List ColumnSchema) (b a : List Datum) → a ≡ b → differing columns b a ≡ []
nothing_differs columns b a h = ap (by_name columns) (none_differ b a (range_with_len 0 (length columns)) h)

local_change : (columns : List ColumnSchema) (b a : Raw) → IsEdit columns b a ⊎ IsMarkedDeleted b a → a.marks ≡ appended b.marks (differing columns b.cells a.cells)
local_change columns b a (inl e) = e.0
local_change columns b a (inr d) = d.1 ∙ sym (ap (appended b.marks) (nothing_differs columns b.cells a.cells d.2) ∙ append-nil b.marks)

applied_change : (columns : List ColumnSchema) (b a : Raw) (v : Bool) → is_visible b.status ≡ v → MatchBool v (IsResolved columns b a) (IsSynced a) → a.marks ≡ cond (not v && is_visible a.status) [] b.marks
applied_change columns b a true e h = h.1
applied_change columns b a false e h = rw h.0 h.1

one_change : (columns : List ColumnSchema) (origin : Origin) (before after : Option Raw) → IsAllowed columns origin before after
    → marks_in after ≡ cond (change_clears origin before after) [] (appended_at columns origin before after (marks_in before))
one_change columns Local None None h = absurd h
one_change columns Local None (Some a) h = h.1
one_change columns Local (Some b) None h = refl
one_change columns Local (Some b) (Some a) h = local_change columns b a h.1
one_change columns Applied None None h = absurd h
one_change columns Applied None (Some a) h = h.1
one_change columns Applied (Some b) None h = refl
one_change columns Applied (Some b) (Some a) h = applied_change columns b a (is_visible b.status) refl h
one_change columns Settled None None h = absurd h
one_change columns Settled None (Some a) h = absurd h
one_change columns Settled (Some b) None h = refl
one_change columns Settled (Some b) (Some a) h = h.2.1

-- ---- one entry

pub one_entry : (schema : List TableSchema) (rows : Rows) (e : Entry) (x : Key) → IsEntry schema rows e
    → marks_in (at (after_set rows e.set) x) ≡ cond (clears x e) [] (appended_by (columns_at schema x.table) e.origin (change_of x e.set) (marks_in (at rows x)))
one_entry schema rows e x h = ap marks_in (at_after rows e.set x (apart_from_changes schema rows e.origin e.set h.1)) ∙ by (change_of x e.set) refl
  where
    by : (o : Option Change) → change_of x e.set ≡ o
        → marks_in (after_of (change_of x e.set) (at rows x)) ≡ cond (clears x e) [] (appended_by (columns_at schema x.table) e.origin (change_of x e.set) (marks_in (at rows x)))
    by None f = rw f refl
    by (Some c) f =
        let found : IsChange schema rows e.origin c × (key_of c ≡ x) = change_found schema rows e.origin x c e.set h.1 f in
        let before : c.before ≡ at rows x = found.0.before_is ∙ ap (at rows) found.1 in
        let step : marks_in c.after ≡ cond (change_clears e.origin c.before c.after) [] (appended_at (columns_at schema c.table) e.origin c.before c.after (marks_in c.before)) = one_change _ e.origin c.before c.after found.0.allowed in
        let here : marks_in c.after ≡ cond (change_clears e.origin c.before c.after) [] (appended_at (columns_at schema x.table) e.origin c.before c.after (marks_in (at rows x))) =
        subst (λ r. marks_in c.after ≡ cond (change_clears e.origin c.before c.after) [] (appended_at (columns_at schema x.table) e.origin c.before c.after (marks_in r))) before
        (subst (λ k. marks_in c.after ≡ cond (change_clears e.origin c.before c.after) [] (appended_at (columns_at schema k.table) e.origin c.before c.after (marks_in c.before))) found.1 step) in
        rw f here

-- ---- whole histories

one_more : (columns : List ColumnSchema) (x : Key) (m : List ℕ) (e : Entry) (es : List Entry) (o : Option (List Entry)) (clearing : Bool)
    → marks_since columns x (cond clearing [] (appended_by columns e.origin (change_of x e.set) m)) es o ≡ marks_since columns x m (e ∷ es) (or_behind o clearing es)
one_more columns x m e es (Some later) clearing = refl
one_more columns x m e es None true = refl
one_more columns x m e es None false = refl

forwards : (schema : List TableSchema) (x : Key) (rows : Rows) (es : List Entry) → IsLegal schema rows es
    → marks_in (at (replay rows es) x) ≡ marks_since (columns_at schema x.table) x (marks_in (at rows x)) es (behind_clearing x es)
forwards schema x rows [] h = refl
forwards schema x rows (e ∷ es) h =
    forwards schema x (after_set rows e.set) es h.1 ∙ (ap (λ m. marks_since (columns_at schema x.table) x m es (behind_clearing x es)) (one_entry schema rows e x h.0) ∙ one_more (columns_at schema x.table) x (marks_in (at rows x)) e es (behind_clearing x es) (clears x e))

pub legal_front : (schema : List TableSchema) (rows : Rows) (es : List Entry) (n : ℕ) → IsLegal schema rows es → IsLegal schema rows (take n es)
legal_front schema rows es zero h = tt
legal_front schema rows [] (suc n) h = tt
legal_front schema rows (e ∷ es) (suc n) h = (h.0, legal_front schema (after_set rows e.set) es n h.1)

pub rows_carry : RowsCarryMarks
unfolding marks
rows_carry schema h n x row legal is = sym (ap marks_in is) ∙ forwards schema x h.opening (take n h.entries) (legal_front schema h.opening h.entries n legal)

-- ---- how marks end

has_more : (c : ℕ) (marks more : List ℕ) → has c marks ≡ true → has c (marks ++ more) ≡ true
has_more c [] more h = absurd (both_ways false refl h)
has_more c (m ∷ marks) more h =
    let ih : has c marks ≡ true → has c (marks ++ more) ≡ true = has_more c marks more in
    elim (or_cases (c == m) (has c marks) h) [ inl e ↦ or_left (c == m) _ e | inr e ↦ or_right (c == m) _ (ih e) ]

ends : (columns : List ColumnSchema) (origin : Origin) (before after : Option Raw) (c : ℕ) → IsAllowed columns origin before after → has c (marks_in before) ≡ true → has c (marks_in after) ≡ false → EndsMarks origin before after
ends columns origin before None c h k l = tt
ends columns origin None (Some a) c h k l = absurd (both_ways false refl k)
ends columns Settled (Some b) (Some a) c h k l = tt
ends columns Local (Some b) (Some a) c h k l = both_ways _ l (rw (local_change columns b a h.1) (has_more c b.marks _ k))
ends columns Applied (Some b) (Some a) c h k l = by (is_visible b.status) refl h
  where
    by : (v : Bool) → is_visible b.status ≡ v → MatchBool v (IsResolved columns b a) (IsSynced a) → (is_visible b.status ≡ false) × (is_visible a.status ≡ true)
    by true e r = absurd (both_ways _ l (rw r.1 k))
    by false e r = (e, rw r.0 refl)

pub marks_end : MarksEndOnlySo
marks_end schema rows e x c h k l = by (change_of x e.set) refl
  where
    after : at (after_set rows e.set) x ≡ after_of (change_of x e.set) (at rows x)
    after = at_after rows e.set x (apart_from_changes schema rows e.origin e.set h.1)

    by : (o : Option Change) → change_of x e.set ≡ o → EndsMarks e.origin (at rows x) (at (after_set rows e.set) x)
    by None f =
        let same : at (after_set rows e.set) x ≡ at rows x = after ∙ ap (λ o. after_of o (at rows x)) f in
        absurd (both_ways _ (rw same at l) k)
    by (Some d) f =
        let found : IsChange schema rows e.origin d × (key_of d ≡ x) = change_found schema rows e.origin x d e.set h.1 f in
        let before : d.before ≡ at rows x = found.0.before_is ∙ ap (at rows) found.1 in
        let now : d.after ≡ at (after_set rows e.set) x = sym (after ∙ ap (λ o. after_of o (at rows x)) f) in
        let done : EndsMarks e.origin d.before d.after = ends _ e.origin d.before d.after c found.0.allowed (rw before k) (rw now l) in
        subst (λ b. EndsMarks e.origin b (at (after_set rows e.set) x)) before (subst (λ a. EndsMarks e.origin d.before a) now done)
