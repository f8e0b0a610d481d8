-- Members are patched as the rows change.
use Rattle.std.proofs.Common.{◌≡◌, ℕ, ◌+◌, ◌<◌, ◌≤◌, List, [], ◌∷◌, ◌++◌, length, get_or, set, take, map, filter, Bool, true, false, cond, eqb, Option, Some, None, refl, sym, ap, ◌∙◌, subst}
use Rattle.std.specs.List.{list_all}
use Rattle.std.proofs.lemmas.Bool.{eq-eqb, eqb-true, eqb-false}
use Rattle.std.proofs.lemmas.List.{map-append, length-map, length-set, get_or-set_same, get_or-set_other}
use Rattle.std.proofs.lemmas.List.Elements.{filter-append}
use Rattle.melon_schema.specs.declared.schema.TableSchema.{TableSchema}
use Rattle.melon_raw.specs.declared.raw.Raw.{Raw}
use Rattle.melon_raw.specs.Order.{is_below}
use Rattle.melon_raw.specs.Rows.{Rows, cell}
use Rattle.melon_raw.specs.Rows as rows
use Rattle.melon_table.proofs.Order.{both, all_filter, all_append, and_left, and_right}
use Rattle.melon_query.specs.declared.query.Query.{Query}
use Rattle.melon_change.specs.declared.change.Change.{Change}
use Rattle.melon_change.specs.declared.history.Origin.{Origin}
use Rattle.melon_change.specs.Changes.{with_after, after_change, after_set}
use Rattle.melon_change.specs.History.{KeepsId, AreChanges}
use Rattle.melon_change.proofs.After.{AreApart, apart_from_changes}
use Rattle.melon_eval.proofs.Steps.{taken}
use Rattle.melon_views.specs.declared.emission.Shape.{Shape}
use Rattle.melon_query.specs.declared.shown.Shown.{Shown}
use Rattle.melon_query.specs.Shown.{shown_row}
use Rattle.melon_views.specs.Members.{columns_of, chooses, chosen}
use Rattle.melon_views.proofs.Chosen.{members}
use Rattle.melon_observe.specs.Members.{is_ascending, below, above, without_member, have_cells}
use Rattle.melon_observe.specs.Gap.{whole}
use Rattle.melon_observe.specs.Patches.{patch_to, patch_of, patches_of, patched, all_patched}
use Rattle.melon_observe.specs.declared.patching.Patch.{Patch}
use Rattle.melon_observe.specs.declared.patching.Patch.TheVariants.{Put, Remove}

-- ---- the patches of one change more

pub patches_more : (q : Query) (columns : List ℕ) (cs : List Change) (i : ℕ) (c : Change) → i < length cs → c ≡ get_or cs i c
    → patches_of q columns (take i cs) ++ patches_of q columns (c ∷ []) ≡ patches_of q columns (take (i + 1) cs)
patches_more q columns cs i c here is =
    let test = λ (d : Change). eqb d.table q.table in
    sym (
    ap (patches_of q columns) (taken cs i c here is)
    ∙ ap (map (patch_of q columns)) (filter-append test (take i cs) (c ∷ []))
    ∙ map-append (patch_of q columns) (filter test (take i cs)) (filter test (c ∷ []))
    )

-- ---- filters

swap_step : {X : Type 0} (p r : X → Bool) (x : X) (xs : List X) (a b : Bool) → p x ≡ a → r x ≡ b → filter p (filter r xs) ≡ filter r (filter p xs)
    → filter p (cond b (x ∷ filter r xs) (filter r xs)) ≡ filter r (cond a (x ∷ filter p xs) (filter p xs))
swap_step p r x xs true true e f ih =
    ap (λ t. cond t (x ∷ filter p (filter r xs)) (filter p (filter r xs))) e
    ∙ (ap (λ l. x ∷ l) ih ∙ sym (ap (λ t. cond t (x ∷ filter r (filter p xs)) (filter r (filter p xs))) f))
swap_step p r x xs true false e f ih = ih ∙ sym (ap (λ t. cond t (x ∷ filter r (filter p xs)) (filter r (filter p xs))) f)
swap_step p r x xs false true e f ih = ap (λ t. cond t (x ∷ filter p (filter r xs)) (filter p (filter r xs))) e ∙ ih
swap_step p r x xs false false e f ih = ih

pub filter_swap : {X : Type 0} (p r : X → Bool) (xs : List X) → filter p (filter r xs) ≡ filter r (filter p xs)
filter_swap p r [] = refl
filter_swap p r (x ∷ xs) = swap_step p r x xs (p x) (r x) refl refl (filter_swap p r xs)

map_cond : {X Y : Type 0} (f : X → Y) (x : X) (xs : List X) (b : Bool) → map f (cond b (x ∷ xs) xs) ≡ cond b (f x ∷ map f xs) (map f xs)
map_cond f x xs true = refl
map_cond f x xs false = refl

map_filter : {X Y : Type 0} (f : X → Y) (test : Y → Bool) (xs : List X) → map f (filter (λ x. test (f x)) xs) ≡ filter test (map f xs)
map_filter f test [] = refl
map_filter f test (x ∷ xs) = map_cond f x (filter (λ y. test (f y)) xs) (test (f x)) ∙ ap (λ l. cond (test (f x)) (f x ∷ l) l) (map_filter f test xs)

-- ---- one table

module _ (q : Query) (columns : List ℕ) where
  abbrev shows : List Raw → List Shown
  shows rs = map (shown_row columns) (filter (chooses q.conds) rs)

  shows_append : (xs ys : List Raw) → shows (xs ++ ys) ≡ shows xs ++ shows ys
  shows_append xs ys = ap (map (shown_row columns)) (filter-append (chooses q.conds) xs ys) ∙ map-append (shown_row columns) (filter (chooses q.conds) xs) (filter (chooses q.conds) ys)

  shows_below : (id : List ℕ) (rs : List Raw) → shows (rows.below id rs) ≡ below id (shows rs)
  shows_below id rs =
      ap (map (shown_row columns)) (filter_swap (chooses q.conds) (λ (r : Raw). is_below r.id id) rs)
      ∙ map_filter (shown_row columns) (λ (m : Shown). is_below m.id id) (filter (chooses q.conds) rs)

  shows_above : (id : List ℕ) (rs : List Raw) → shows (rows.above id rs) ≡ above id (shows rs)
  shows_above id rs =
      ap (map (shown_row columns)) (filter_swap (chooses q.conds) (λ (r : Raw). is_below id r.id) rs)
      ∙ map_filter (shown_row columns) (λ (m : Shown). is_below id m.id) (filter (chooses q.conds) rs)

  shows_without : (id : List ℕ) (rs : List Raw) → shows (rows.without_row id rs) ≡ without_member id (shows rs)
  shows_without id rs =
      shows_append (rows.below id rs) (rows.above id rs)
      ∙ (ap (λ l. l ++ shows (rows.above id rs)) (shows_below id rs) ∙ ap (λ l. below id (shows rs) ++ l) (shows_above id rs))

  shows_first : (row : Raw) (id : List ℕ) (rs : List Raw) (b : Bool) → row.id ≡ id
      → below row.id (shows rs) ++ map (shown_row columns) (cond b (row ∷ filter (chooses q.conds) (rows.above row.id rs)) (filter (chooses q.conds) (rows.above row.id rs)))
      ≡ patched (patch_to columns id (cond b (Some row) None)) (shows rs)
  shows_first row id rs true same = ap (λ l. below row.id (shows rs) ++ shown_row columns row ∷ l) (shows_above row.id rs)
  shows_first row id rs false same = ap (λ l. below row.id (shows rs) ++ l) (shows_above row.id rs) ∙ ap (λ (i : List ℕ). without_member i (shows rs)) same

  shows_put : (row : Raw) (id : List ℕ) (rs : List Raw) → row.id ≡ id → shows (rows.put_row row rs) ≡ patched (patch_to columns id (chosen q.conds (Some row))) (shows rs)
  shows_put row id rs same =
      shows_append (rows.below row.id rs) (row ∷ rows.above row.id rs)
      ∙ (ap (λ l. l ++ shows (row ∷ rows.above row.id rs)) (shows_below row.id rs) ∙ shows_first row id rs (chooses q.conds row) same)

  shows_with : (id : List ℕ) (after : Option Raw) (rs : List Raw) → KeepsId id after → shows (with_after id after rs) ≡ patched (patch_to columns id (chosen q.conds after)) (shows rs)
  shows_with id None rs keeps = shows_without id rs
  shows_with id (Some row) rs keeps = shows_put row id rs keeps

  -- ---- all tables

  one_change : (now : Rows) (c : Change) (b : Bool) → eqb c.table q.table ≡ b → c.table < length now → KeepsId c.id c.after
      → members q columns (after_change now c) ≡ cond b (patched (patch_of q columns c) (members q columns now)) (members q columns now)
  one_change now c true here within keeps =
      let same : c.table ≡ q.table = eqb-true c.table q.table here in
      let new : List Raw = with_after c.id c.after (get_or now c.table []) in
      ap (λ (t : ℕ). shows (get_or (after_change now c) t [])) (sym same)
      ∙ (ap shows (get_or-set_same now c.table new [] within)
      ∙ (shows_with c.id c.after (get_or now c.table []) keeps
      ∙ ap (λ (t : ℕ). patched (patch_of q columns c) (shows (get_or now t []))) same))
  one_change now c false here within keeps =
      ap shows (get_or-set_other now c.table q.table (with_after c.id c.after (get_or now c.table [])) [] (λ same. eqb-false c.table q.table here (sym same)))

  one_patch : (c : Change) (cs : List Change) (ms : List Shown) (b : Bool)
      → all_patched (cond b (patched (patch_of q columns c) ms) ms) (patches_of q columns cs) ≡ all_patched ms (map (patch_of q columns) (cond b (c ∷ filter (λ (d : Change). eqb d.table q.table) cs) (filter (λ (d : Change). eqb d.table q.table) cs)))
  one_patch c cs ms true = refl
  one_patch c cs ms false = refl

  all_changes : (now : Rows) (cs : List Change) → AreApart (length now) cs → members q columns (after_set now cs) ≡ all_patched (members q columns now) (patches_of q columns cs)
  all_changes now [] apart = refl
  all_changes now (c ∷ cs) apart =
      let longer : AreApart (length (after_change now c)) cs = subst (λ n. AreApart n cs) (sym (length-set now c.table (with_after c.id c.after (get_or now c.table [])))) apart.3 in
      all_changes (after_change now c) cs longer
      ∙ (ap (λ (ms : List Shown). all_patched ms (patches_of q columns cs)) (one_change now c (eqb c.table q.table) refl apart.0 apart.1)
      ∙ one_patch c cs (members q columns now) (eqb c.table q.table))

-- the members of the answer after a change set
pub members_after : (q : Query) (columns : List ℕ) (schema : List TableSchema) (now : Rows) (origin : Origin) (cs : List Change) → AreChanges schema now origin cs
    → members q columns (after_set now cs) ≡ all_patched (members q columns now) (patches_of q columns cs)
members_after q columns schema now origin cs changes = all_changes q columns now cs (apart_from_changes schema now origin cs changes)

-- ---- cells

abbrev has_cells : Shape → Patch → Bool
has_cells s (Put m) = eqb (length m.cells) (length (columns_of s))
has_cells s (Remove id) = true

cells_patched : (s : Shape) (p : Patch) (ms : List Shown) → has_cells s p ≡ true → have_cells s ms ≡ true → have_cells s (patched p ms) ≡ true
cells_patched s (Put m) ms h k =
    let test = λ (n : Shown). eqb (length n.cells) (length (columns_of s)) in
    all_append test (below m.id ms) (m ∷ above m.id ms) (all_filter test (λ n. is_below n.id m.id) ms k) (both _ _ h (all_filter test (λ n. is_below m.id n.id) ms k))
cells_patched s (Remove id) ms h k =
    let test = λ (n : Shown). eqb (length n.cells) (length (columns_of s)) in
    all_append test (below id ms) (above id ms) (all_filter test (λ n. is_below n.id id) ms k) (all_filter test (λ n. is_below id n.id) ms k)

cells_all_patched : (s : Shape) (ps : List Patch) (ms : List Shown) → list_all (has_cells s) ps ≡ true → have_cells s ms ≡ true → have_cells s (all_patched ms ps) ≡ true
cells_all_patched s [] ms h k = k
cells_all_patched s (p ∷ ps) ms h k = cells_all_patched s ps (patched p ms) (and_right (has_cells s p) _ h) (cells_patched s p ms (and_left (has_cells s p) _ h) k)

cells_to : (s : Shape) (id : List ℕ) (o : Option Raw) → has_cells s (patch_to (columns_of s) id o) ≡ true
cells_to s id None = refl
cells_to s id (Some row) = eq-eqb _ _ (length-map (columns_of s) (cell row))

cells_step : (q : Query) (s : Shape) (c : Change) (cs : List Change) (b : Bool) → list_all (has_cells s) (map (patch_of q (columns_of s)) cs) ≡ true → list_all (has_cells s) (map (patch_of q (columns_of s)) (cond b (c ∷ cs) cs)) ≡ true
cells_step q s c cs true h = both _ _ (cells_to s c.id (chosen q.conds c.after)) h
cells_step q s c cs false h = h

cells_patches : (q : Query) (s : Shape) (set : List Change) → list_all (has_cells s) (patches_of q (columns_of s) set) ≡ true
cells_patches q s [] = refl
cells_patches q s (c ∷ cs) = cells_step q s c (filter (λ (d : Change). eqb d.table q.table) cs) (eqb c.table q.table) (cells_patches q s cs)

-- patched by the changes, members have their cells
pub cells_after : (q : Query) (s : Shape) (set : List Change) (ms : List Shown) → have_cells s ms ≡ true → have_cells s (all_patched ms (patches_of q (columns_of s) set)) ≡ true
cells_after q s set ms h = cells_all_patched s (patches_of q (columns_of s) set) ms (cells_patches q s set) h

-- ---- how far members are patched

pub record Patching (start : List Shown) (all : List Patch) (before behind : List Shown) (left : List Patch) (len capacity capacity_behind : ℕ) : Type 0 where
  pub done : all_patched (whole before behind) left ≡ all_patched start all
  pub ascending : is_ascending (whole before behind) ≡ true
  pub room : len + length left ≤ capacity
  pub room_behind : len + length left ≤ capacity_behind
