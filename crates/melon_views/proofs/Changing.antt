-- A legal entry changes what a simple query shows exactly where it matters.
use Rattle.std.proofs.Common.{◌≡◌, ℕ, ◌<◌, List, [], ◌∷◌, length, get_or, eqb, Bool, true, false, not, ◌&&◌, ◌||◌, Option, Some, None, option_map, map, filter, refl, sym, ap, ◌∙◌, subst, cond}
use Rattle.std.specs.List.{list_any, list_all}
use Rattle.std.proofs.lemmas.Bool.{false≢true, both_ways, and_parts, and_from, and_cases, or_parts, or_cases, not-true, not-false, not_from_true, not_from_false, false_from_ne_true, eqb-true, eq-eqb}
use Rattle.melon_schema.specs.declared.schema.TableSchema.{TableSchema}
use Rattle.melon_raw.specs.declared.raw.Raw.{Raw}
use Rattle.melon_raw.specs.declared.datum.Datum.{Datum}
use Rattle.melon_raw.specs.Datum.{datum_eq}
use Rattle.melon_raw.specs.Rows.{Key, Rows, is_key, is_ascending, at_id, at, cell}
use Rattle.melon_table.proofs.Order.{split}
use Rattle.melon_table.proofs.ById.{id-at_id, is_ascending-filter}
use Rattle.melon_query.specs.declared.query.Cond.{Cond}
use Rattle.melon_query.specs.declared.query.Query.{Query}
use Rattle.melon_query.specs.Simple.{is_simple}
use Rattle.melon_query.specs.Tuples.{rows_of}
use Rattle.melon_change.specs.declared.change.Change.{Change}
use Rattle.melon_change.specs.declared.history.Origin.{Origin}
use Rattle.melon_change.specs.declared.history.Entry.{Entry}
use Rattle.melon_change.specs.Changes.{key, key_of, change_of, after_set}
use Rattle.melon_change.specs.History.{KeepsId, IsChange, AreChanges, IsEntry}
use Rattle.melon_change.proofs.Same.{is_key_same, is_key_refl}
use Rattle.melon_change.proofs.After.{after_of, at_after, apart_from_changes, change_found}
use Rattle.melon_query.specs.declared.shown.Shown.{Shown}
use Rattle.melon_views.specs.declared.emission.Shape.{Shape}
use Rattle.melon_views.specs.Views.{shown}
use Rattle.melon_views.specs.Due.{is_same}
use Rattle.melon_query.specs.Shown.{shown_row}
use Rattle.melon_views.specs.Members.{columns_of, chooses, chosen, told, show_same, member_changes, changes_member, matters}
use Rattle.melon_views.specs.Laws.{Ascend, EntriesChangeViews}
use Rattle.melon_views.proofs.Same.{datum_eq-Decides, shown_path, is_same-Decides}
use Rattle.melon_views.proofs.Chosen.{members, shown_told, told_same}
use Rattle.melon_views.proofs.Lookups.{none_some, some_same, find_id, find_shown, same_by_ids, at_chosen, find_shown_row, ascends_shown, ascends}

-- ---- one member

cells_from_same : (columns : List ℕ) (a b : Raw) → list_all (λ column. datum_eq (cell a column) (cell b column)) columns ≡ true → map (cell a) columns ≡ map (cell b) columns
cells_from_same [] a b h = refl
cells_from_same (c ∷ cs) a b h =
    let parts = and_parts (datum_eq (cell a c) (cell b c)) (list_all (λ column. datum_eq (cell a column) (cell b column)) cs) h in
    ap (λ (d : Datum). d ∷ map (cell a) cs) ((datum_eq-Decides (cell a c) (cell b c)).0 parts.0)
    ∙ ap (λ (ds : List Datum). cell b c ∷ ds) (cells_from_same cs a b parts.1)

same_from_cells : (columns : List ℕ) (a b : Raw) → map (cell a) columns ≡ map (cell b) columns → list_all (λ column. datum_eq (cell a column) (cell b column)) columns ≡ true
same_from_cells [] a b h = refl
same_from_cells (c ∷ cs) a b h =
    let first : cell a c ≡ cell b c = cc in
    let rest : map (cell a) cs ≡ map (cell b) cs = cc in
    and_from _ _ ((datum_eq-Decides (cell a c) (cell b c)).1 first) (same_from_cells cs a b rest)

-- a record that doesn't change as a member shows what it showed
same_member : (columns : List ℕ) (id : List ℕ) (a b : Option Raw) → KeepsId id a → KeepsId id b → member_changes columns a b ≡ false → option_map (shown_row columns) a ≡ option_map (shown_row columns) b
same_member columns id None None p q h = refl
same_member columns id None (Some b) p q h = absurd (false≢true (sym h))
same_member columns id (Some a) None p q h = absurd (false≢true (sym h))
same_member columns id (Some a) (Some b) p q h =
    ap Some (shown_path (shown_row columns a) (shown_row columns b) (p ∙ sym q) (cells_from_same columns a b (not-false (show_same columns a b) h)))

-- one that does shows something else
other_member : (columns : List ℕ) (a b : Option Raw) → member_changes columns a b ≡ true → option_map (shown_row columns) a ≡ option_map (shown_row columns) b → ⊥
other_member columns None None h e = false≢true h
other_member columns None (Some b) h e = none_some (shown_row columns b) e
other_member columns (Some a) None h e = none_some (shown_row columns a) (sym e)
other_member columns (Some a) (Some b) h e =
    both_ways (show_same columns a b) (not-true (show_same columns a b) h)
    (same_from_cells columns a b (ap (λ (m : Shown). m.cells) (some_same (shown_row columns a) (shown_row columns b) e)))

chosen_keeps : (conds : List Cond) (id : List ℕ) (o : Option Raw) → KeepsId id o → KeepsId id (chosen conds o)
chosen_keeps conds id None h = tt
chosen_keeps conds id (Some row) h = by (chooses conds row)
  where
    by : (b : Bool) → KeepsId id (cond b (Some row) None)
    by true = h
    by false = tt

-- ---- members by id

module _ (q : Query) (columns : List ℕ) where
  abbrev member : Option Raw → Option Shown
  member o = option_map (shown_row columns) (chosen q.conds o)

  looked_up : (rows : Rows) (id : List ℕ) → Ascend rows → find_shown id (members q columns rows) ≡ member (at rows (key q.table id))
  looked_up rows id asc =
      find_shown_row columns id (filter (chooses q.conds) (rows_of q.table rows))
      ∙ ap (option_map (shown_row columns)) (at_chosen q.conds id (rows_of q.table rows) (asc q.table))

  members_ascend : (rows : Rows) → Ascend rows → ascends (λ (m : Shown). m.id) (members q columns rows) ≡ true
  members_ascend rows asc =
      ascends_shown columns (filter (chooses q.conds) (rows_of q.table rows)) ∙ is_ascending-filter (chooses q.conds) (rows_of q.table rows) (asc q.table)

  -- ---- none matters

  found_false : (cs : List Change) (x : Key) (c : Change) → list_any (changes_member q columns) cs ≡ false → change_of x cs ≡ Some c → changes_member q columns c ≡ false
  found_false [] x c h f = absurd (none_some c f)
  found_false (d ∷ ds) x c h f =
      let parts = or_parts (changes_member q columns d) (list_any (changes_member q columns) ds) h in
      let ih : change_of x ds ≡ Some c → changes_member q columns c ≡ false = found_false ds x c parts.1 in
      split (is_key x (key_of d)) (λ e. subst (λ (z : Change). changes_member q columns z ≡ false) (some_same d c (rw e at f)) parts.0) (λ e. ih (rw e at f))

  module _ (schema : List TableSchema) (rows : Rows) (origin : Origin) (cs : List Change) (changes : AreChanges schema rows origin cs) where
    after_is : (x : Key) → at (after_set rows cs) x ≡ after_of (change_of x cs) (at rows x)
    after_is x = at_after rows cs x (apart_from_changes schema rows origin cs changes)

    before_keeps : (x : Key) (o : Option Raw) → at rows x ≡ o → KeepsId x.id o
    before_keeps x None e = tt
    before_keeps x (Some row) e = id-at_id x.id (get_or rows x.table []) row e

    member_stays : list_any (changes_member q columns) cs ≡ false → (id : List ℕ) (o : Option Change) → change_of (key q.table id) cs ≡ o → member (at (after_set rows cs) (key q.table id)) ≡ member (at rows (key q.table id))
    member_stays none id None f = ap member (after_is (key q.table id) ∙ ap (λ o. after_of o (at rows (key q.table id))) f)
    member_stays none id (Some c) f =
        let x : Key = key q.table id in
        let found : IsChange schema rows origin c × (key_of c ≡ x) = change_found schema rows origin x c cs changes f in
        let before : c.before ≡ at rows x = found.0.before_is ∙ ap (at rows) found.1 in
        let after : at (after_set rows cs) x ≡ c.after = after_is x ∙ ap (λ o. after_of o (at rows x)) f in
        let ids : c.id ≡ id = ap (λ (k : Key). k.id) found.1 in
        let here : eqb c.table q.table ≡ true = eq-eqb c.table q.table (ap (λ (k : Key). k.table) found.1) in
        let stays : member_changes columns (chosen q.conds c.before) (chosen q.conds c.after) ≡ false =
        ap (λ b. b && member_changes columns (chosen q.conds c.before) (chosen q.conds c.after)) (sym here) ∙ found_false cs x c none f in
        ap member after
        ∙ sym (same_member columns id (chosen q.conds c.before) (chosen q.conds c.after)
        (chosen_keeps q.conds id c.before (before_keeps x c.before (sym before)))
        (chosen_keeps q.conds id c.after (subst (λ (i : List ℕ). KeepsId i c.after) ids found.0.keeps_id))
        stays)
        ∙ ap member before

    pub members_stay : Ascend rows → Ascend (after_set rows cs) → list_any (changes_member q columns) cs ≡ false → members q columns (after_set rows cs) ≡ members q columns rows
    members_stay asc asc' none =
        same_by_ids (λ (m : Shown). m.id) (members q columns (after_set rows cs)) (members q columns rows) (members_ascend (after_set rows cs) asc') (members_ascend rows asc)
        (λ id. looked_up (after_set rows cs) id asc' ∙ (member_stays none id (change_of (key q.table id) cs) refl ∙ sym (looked_up rows id asc)))

    -- ---- one matters

    pub members_change : Ascend rows → Ascend (after_set rows cs) → (c : Change) → changes_member q columns c ≡ true → change_of (key_of c) cs ≡ Some c → members q columns (after_set rows cs) ≡ members q columns rows → ⊥
    members_change asc asc' c changing f same =
        let parts = and_parts (eqb c.table q.table) (member_changes columns (chosen q.conds c.before) (chosen q.conds c.after)) changing in
        let found : IsChange schema rows origin c × (key_of c ≡ key_of c) = change_found schema rows origin (key_of c) c cs changes f in
        let here : key_of c ≡ key q.table c.id = ap (λ t. key t c.id) (eqb-true c.table q.table parts.0) in
        let before : at rows (key q.table c.id) ≡ c.before = sym (found.0.before_is ∙ ap (at rows) here) in
        let after : at (after_set rows cs) (key q.table c.id) ≡ c.after = sym (ap (at (after_set rows cs)) here) ∙ (after_is (key_of c) ∙ ap (λ o. after_of o (at rows (key_of c))) f) in
        other_member columns (chosen q.conds c.before) (chosen q.conds c.after) parts.1
        (ap member (sym before) ∙ (sym (looked_up rows c.id asc) ∙ (sym (ap (find_shown c.id) same) ∙ (looked_up (after_set rows cs) c.id asc' ∙ ap member after))))

-- one that matters is there, and no later one names its record
one_changes : (p : Change → Bool) (schema : List TableSchema) (rows : Rows) (origin : Origin) (cs : List Change) → AreChanges schema rows origin cs → list_any p cs ≡ true → (c : Change) × (p c ≡ true) × (change_of (key_of c) cs ≡ Some c)
one_changes p schema rows origin [] changes h = absurd (false≢true h)
one_changes p schema rows origin (d ∷ ds) changes h =
    let ih : list_any p ds ≡ true → (c : Change) × (p c ≡ true) × (change_of (key_of c) ds ≡ Some c) = one_changes p schema rows origin ds changes.2 in
    split (p d)
    (λ e. (d, e, first d ds))
    (λ e.
    let later = ih (ap (λ b. b || list_any p ds) (sym e) ∙ h) in
    (later.0, later.1, behind d ds later.0 changes.1 later.2))
  where
    first : (d : Change) (ds : List Change) → change_of (key_of d) (d ∷ ds) ≡ Some d
    first d ds = rw (is_key_refl (key_of d)) refl

    behind : (d : Change) (ds : List Change) (c : Change) → change_of (key_of d) ds ≡ None → change_of (key_of c) ds ≡ Some c → change_of (key_of c) (d ∷ ds) ≡ Some c
    behind d ds c none f = split (is_key (key_of c) (key_of d))
        (λ e. absurd (none_some c (sym none ∙ (ap (λ k. change_of k ds) (sym (is_key_same (key_of c) (key_of d) e)) ∙ f))))
        (λ e. rw e f)

-- ---- what is shown

pub entry_changes : (schema : List TableSchema) (rows : Rows) (e : Entry) (q : Query) (s : Shape) → is_simple q ≡ true → Ascend rows → Ascend (after_set rows e.set) → IsEntry schema rows e
    → is_same (shown q s (after_set rows e.set)) (shown q s rows) ≡ not (matters q s e.set)
unfolding matters
entry_changes schema rows e q s simple asc asc' entry =
    let new : shown q s (after_set rows e.set) ≡ told s (members q (columns_of s) (after_set rows e.set)) = shown_told q s (after_set rows e.set) simple (asc' q.table) in
    let old : shown q s rows ≡ told s (members q (columns_of s) rows) = shown_told q s rows simple (asc q.table) in
    split (list_any (changes_member q (columns_of s)) e.set)
    (λ h.
    let one = one_changes (changes_member q (columns_of s)) schema rows e.origin e.set entry.1 h in
    false_from_ne_true (is_same (shown q s (after_set rows e.set)) (shown q s rows)) (λ t.
    members_change q (columns_of s) schema rows e.origin e.set entry.1 asc asc' one.0 one.1 one.2
    (told_same s (filter (chooses q.conds) (rows_of q.table (after_set rows e.set))) (filter (chooses q.conds) (rows_of q.table rows))
    (sym new ∙ ((is_same-Decides (shown q s (after_set rows e.set)) (shown q s rows)).0 t ∙ old))))
    ∙ sym (ap not h))
    (λ h.
    (is_same-Decides (shown q s (after_set rows e.set)) (shown q s rows)).1
    (new ∙ (ap (told s) (members_stay q (columns_of s) schema rows e.origin e.set entry.1 asc asc' h) ∙ sym old))
    ∙ sym (ap not h))
