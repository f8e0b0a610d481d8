-- What the change set of a pull leaves of each record, and that it is one that an applied entry may have.
use Rattle.std.proofs.Common.{◌≡◌, ℕ, ◌<◌, List, [], ◌∷◌, length, map, find, Bool, true, false, ◌&&◌, cond, nat_lt, Option, Some, None, Result, Ok, Err, refl, sym, ap, ◌∙◌, subst, arith}
use Rattle.std.specs.Bool.{⊤}
use Rattle.std.specs.List.{list_all, filter_map, cons_option, AllByRecursion}
use Rattle.std.proofs.lemmas.Bool.{and_parts, and_from, or_parts}
use Rattle.std.proofs.lemmas.Bool.Decides.{nat_tests}
use Rattle.melon_schema.specs.Faults.{◌>>=◌}
use Rattle.melon_schema.specs.Names.{is_id}
use Rattle.melon_schema.specs.declared.schema.ColumnSchema.{ColumnSchema}
use Rattle.melon_schema.specs.declared.schema.TableSchema.{TableSchema}
use Rattle.melon_raw.specs.declared.raw.Raw.{Raw}
use Rattle.melon_raw.specs.Rows.{Key, Rows, at, is_key}
use Rattle.melon_change.specs.declared.change.Change.{Change}
use Rattle.melon_change.specs.declared.history.Origin.TheVariants.{Applied}
use Rattle.melon_change.specs.Changes.{columns_at, key_of, change_of, after_set}
use Rattle.melon_change.specs.Batch.{change_to}
use Rattle.melon_change.specs.History.{KeepsId, FitsIfAny, IsChange, AreChanges}
use Rattle.melon_change.specs.Legality.{RowsFit}
use Rattle.melon_change.proofs.After.{AreApart, after_of, at_after}
use Rattle.melon_wire.specs.declared.changes.Changes.{Changes}
use Rattle.melon_wire.specs.Keys.{is_before, is_in, do_ascend, ascending}
use Rattle.melon_raw.specs.Same.{is_same}
use Rattle.melon_wire.specs.Standing.{Standing, standing, keys_listed, has_ids, in_no_list}
use Rattle.melon_wire.specs.Fates.{fate, fate_of}
use Rattle.melon_wire.proofs.KeyOrder.{split}
use Rattle.melon_raw.proofs.Equals.{same_rows}
use Rattle.melon_wire.proofs.Ascent.{is_in-ascending, do_ascend-ascending, all_ascending}
use Rattle.melon_wire.proofs.KeyedLists.{AllApart, found_made, all_apart, all_unit}
use Rattle.melon_pull.specs.declared.fault.PullFault.{PullFault}
use Rattle.melon_pull.specs.Incoming.{records, difference, change_made, if_repeated, if_long, unless_any, incoming_of}
use Rattle.melon_pull.specs.Listing.{Telling, key_told, tellings, BeforeFits, BeforesFit}
use Rattle.melon_pull.specs.Laws.{LeavesFates, IsOnce, IncomingLeavesFates, IncomingIsAllowed, TwiceIsOnce}
use Rattle.melon_pull.proofs.Seen.{no_difference}
use Rattle.melon_pull.proofs.Tellings.{keys_tellings, listed_declared, listed_ids, is_of, how_told, standing_told}
use Rattle.melon_pull.proofs.Fated.{keeps_at, keeps_fate, fits_fate, allowed_fate, fate_again}

-- ---- steps that all succeed

run_same : {X : Type 0} (a b : Result ⊤ PullFault) (c d : X) → (a >>= λ once. b >>= λ short. Ok c) ≡ Ok d → c ≡ d
run_same (Ok u) (Ok v) c d h = cc
run_same (Ok u) (Err e) c d h = cc
run_same (Err e) b c d h = cc

run_again : {X : Type 0} (a b : Result ⊤ PullFault) (c d e : X) → (a >>= λ once. b >>= λ short. Ok c) ≡ Ok d → (a >>= λ once. b >>= λ short. Ok e) ≡ Ok e
run_again (Ok u) (Ok v) c d e h = refl
run_again (Ok u) (Err f) c d e h = cc
run_again (Err f) b c d e h = cc

-- ---- one change

difference_some : (x : Key) (b a : Option Raw) (c : Change) → difference x b a ≡ Some c → (is_same b a ≡ false) × (change_to x.table x.id b a ≡ c)
difference_some x b a c h = split (is_same b a) (λ e. absurd (none_some (rw e at h))) (λ e. (e, some_same (rw e at h)))
  where
    none_some : None ≡ Some c → ⊥
    none_some e = cc

    some_same : Some (change_to x.table x.id b a) ≡ Some c → change_to x.table x.id b a ≡ c
    some_same e = cc

difference_leaves : (x : Key) (b a : Option Raw) → after_of (difference x b a) b ≡ a
difference_leaves x b a = split (is_same b a) (λ e. rw e (same_rows b a e)) (λ e. rw e refl)

-- ---- changes that are made of different records

abbrev IsOwn : ℕ → Change → Type 0
IsOwn n c = (c.table < n) × KeepsId c.id c.after

are_apart : (n : ℕ) (cs : List Change) → AllApart key_of (IsOwn n) cs → AreApart n cs
are_apart n [] h = tt
are_apart n (c ∷ cs) h = (h.0.0, h.0.1, h.1, are_apart n cs h.2)

are_changes : (schema : List TableSchema) (rows : Rows) (cs : List Change) → AllApart key_of (IsChange schema rows Applied) cs → AreChanges schema rows Applied cs
are_changes schema rows [] h = tt
are_changes schema rows (c ∷ cs) h = (h.0, h.1, are_changes schema rows cs h.2)

-- ---- the change set

module _ (schema : List TableSchema) (rows : Rows) (changes : Changes) (same : length rows ≡ length schema) where
  abbrev made : Key → Option Change
  made = change_made schema rows changes

  -- the change of x from its row to its fate
  abbrev changed : Key → Change
  changed x = change_to x.table x.id (at rows x) (fate_of schema rows changes x)

  made_parts : (x : Key) (c : Change) → change_made schema rows changes x ≡ Some c → (is_same (at rows x) (fate_of schema rows changes x) ≡ false) × (changed x ≡ c)
  made_parts x c h = difference_some x (at rows x) (fate_of schema rows changes x) c h

  own : (x : Key) (c : Change) → change_made schema rows changes x ≡ Some c → key_of c ≡ x
  own x c h = subst (λ (d : Change). key_of d ≡ x) (made_parts x c h).1 refl

  keeps : (x : Key) → KeepsId x.id (fate_of schema rows changes x)
  keeps x = keeps_fate (columns_at schema x.table) x.id (at rows x) (standing schema changes x) (keeps_at rows x)

  below : (x : Key) → nat_lt x.table (length rows) ≡ true → x.table < length rows
  below x h = grind (arith, nat_tests)

  apart : AreApart (length rows) (filter_map (change_made schema rows changes) (records schema changes))
  apart = are_apart (length rows) _ (all_apart key_of made own (λ x. nat_lt x.table (length rows)) (λ c. Unit {0}) (IsOwn (length rows))
      (λ x c r h u. subst (IsOwn (length rows)) (made_parts x c h).1 (below x r, keeps x))
      (records schema changes) (do_ascend-ascending (keys_listed schema changes)) (all_ascending (λ x. nat_lt x.table (length rows)) (keys_listed schema changes) (listed_declared schema changes (length rows) (sym same))) (all_unit _))

  -- ---- each record has its fate

  none_found : (x : Key) (ts : List Telling) → is_in x (map key_told ts) ≡ false → find (is_of x) ts ≡ None
  none_found x [] h = refl
  none_found x (t ∷ ts) h = let parts : (is_key x t.key ≡ false) × (is_in x (map key_told ts) ≡ false) = or_parts (is_key x t.key) (is_in x (map key_told ts)) h in
      rw parts.0 (none_found x ts parts.1)

  fate_none : (columns : List ColumnSchema) (id : List ℕ) (row : Option Raw) → fate columns id row in_no_list ≡ row
  fate_none columns id None = refl
  fate_none columns id (Some row) = refl

  -- a record that isn't listed stays as it is
  unlisted : (x : Key) → is_in x (records schema changes) ≡ false → fate_of schema rows changes x ≡ at rows x
  unlisted x h =
      let off : is_in x (map key_told (tellings schema changes)) ≡ false = ap (is_in x) (keys_tellings schema changes) ∙ (sym (is_in-ascending x (keys_listed schema changes)) ∙ h) in
      let nowhere : standing schema changes x ≡ in_no_list = sym (standing_told schema changes x) ∙ ap how_told (none_found x (tellings schema changes) off) in
      ap (fate (columns_at schema x.table) x.id (at rows x)) nowhere ∙ fate_none (columns_at schema x.table) x.id (at rows x)

  leaves_made : (x : Key) → at (after_set rows (filter_map (change_made schema rows changes) (records schema changes))) x ≡ fate_of schema rows changes x
  leaves_made x =
      at_after rows (filter_map (change_made schema rows changes) (records schema changes)) x apart
      ∙ (ap (λ o. after_of o (at rows x)) (found_made key_of made own x (records schema changes))
      ∙ split (is_in x (records schema changes))
      (λ e. ap (λ b. after_of (cond b (change_made schema rows changes x) None) (at rows x)) e ∙ difference_leaves x (at rows x) (fate_of schema rows changes x))
      (λ e. ap (λ b. after_of (cond b (change_made schema rows changes x) None) (at rows x)) e ∙ sym (unlisted x e)))

  module _ (set : List Change) (is : incoming_of schema rows changes ≡ Ok set) where
    pub set_made : filter_map (change_made schema rows changes) (records schema changes) ≡ set
    unfolding incoming_of
    set_made = run_same (unless_any (filter_map (if_repeated schema changes) (records schema changes))) (unless_any (filter_map (λ x. if_long schema x (standing schema changes x)) (records schema changes))) _ set is

    pub set_leaves : LeavesFates schema rows changes set
    set_leaves x = ap (λ (cs : List Change). at (after_set rows cs) x) (sym set_made) ∙ leaves_made x

    -- ---- and meets it again

    again_none : (x : Key) → change_made schema (after_set rows set) changes x ≡ None
    again_none x =
        let o : Option Raw = fate_of schema rows changes x in
        let columns : List ColumnSchema = columns_at schema x.table in
        let met : fate_of schema (after_set rows set) changes x ≡ o = ap (λ b. fate columns x.id b (standing schema changes x)) (set_leaves x) ∙ fate_again columns x.id (at rows x) (standing schema changes x) in
        ap (λ b. difference x b (fate_of schema (after_set rows set) changes x)) (set_leaves x) ∙ (ap (difference x o) met ∙ sym (no_difference x o))

    nothing : (ks : List Key) → filter_map (change_made schema (after_set rows set) changes) ks ≡ []
    nothing [] = refl
    nothing (x ∷ ks) = rw (again_none x) (nothing ks)

    pub set_once : IsOnce schema rows changes set
    unfolding incoming_of
    set_once = ap (λ (cs : List Change). unless_any (filter_map (if_repeated schema changes) (records schema changes)) >>= λ once. unless_any (filter_map (λ x. if_long schema x (standing schema changes x)) (records schema changes)) >>= λ short. Ok cs) (nothing (records schema changes))
        ∙ run_again (unless_any (filter_map (if_repeated schema changes) (records schema changes))) (unless_any (filter_map (λ x. if_long schema x (standing schema changes x)) (records schema changes))) _ set [] is

    -- ---- it is one that an applied entry may have

    module _ (ids : has_ids changes ≡ true) where
      abbrev is_good : Key → Bool
      is_good x = nat_lt x.table (length rows) && is_id x.id

      good : (ks : List Key) → list_all (λ x. nat_lt x.table (length rows)) ks ≡ true → list_all (λ x. is_id x.id) ks ≡ true → list_all is_good ks ≡ true
      good [] h k = refl
      good (x ∷ xs) h k =
          let hs : (nat_lt x.table (length rows) ≡ true) × (list_all (λ y. nat_lt y.table (length rows)) xs ≡ true) = and_parts (nat_lt x.table (length rows)) (list_all (λ y. nat_lt y.table (length rows)) xs) h in
          let ks : (is_id x.id ≡ true) × (list_all (λ y. is_id y.id) xs ≡ true) = and_parts (is_id x.id) (list_all (λ y. is_id y.id) xs) k in
          and_from (is_good x) (list_all is_good xs) (and_from (nat_lt x.table (length rows)) (is_id x.id) hs.0 ks.0) (good xs hs.1 ks.1)

      is_change : (x : Key) (c : Change) → is_good x ≡ true → change_made schema rows changes x ≡ Some c → BeforeFits schema c → IsChange schema rows Applied c
      is_change x c g h q =
          let parts : (nat_lt x.table (length rows) ≡ true) × (is_id x.id ≡ true) = and_parts (nat_lt x.table (length rows)) (is_id x.id) g in
          let e : changed x ≡ c = (made_parts x c h).1 in
          let before : BeforeFits schema (changed x) = subst (BeforeFits schema) (sym e) q in
          subst (IsChange schema rows Applied) e (record {
            declared = below x parts.0;
            before_is = refl;
            keeps_id = keeps x;
            fits = fits_fate (columns_at schema x.table) x.id (at rows x) (standing schema changes x) parts.1 before;
            allowed = allowed_fate (columns_at schema x.table) x.id (at rows x) (standing schema changes x) (made_parts x c h).0;
          })

      pub set_allowed : BeforesFit schema set → AreChanges schema rows Applied set
      set_allowed fits = subst (AreChanges schema rows Applied) set_made (are_changes schema rows _ (all_apart key_of made own is_good (BeforeFits schema) (IsChange schema rows Applied) is_change (records schema changes) (do_ascend-ascending (keys_listed schema changes))
          (all_ascending is_good (keys_listed schema changes) (good (keys_listed schema changes) (listed_declared schema changes (length rows) (sym same)) (listed_ids schema changes ids))) (subst (BeforesFit schema) (sym set_made) fits)))

  -- the rows before the changes fit where all rows do
  befores : RowsFit schema rows → (ks : List Key) → BeforesFit schema (filter_map (change_made schema rows changes) ks)
  befores fit [] = tt
  befores fit (x ∷ ks) = by (befores fit ks) (change_made schema rows changes x) refl
    where
      row_fits : (o : Option Raw) → at rows x ≡ o → FitsIfAny (columns_at schema x.table) o
      row_fits None e = tt
      row_fits (Some row) e = fit x row e

      by : BeforesFit schema (filter_map (change_made schema rows changes) ks) → (o : Option Change) → change_made schema rows changes x ≡ o → BeforesFit schema (cons_option o (filter_map (change_made schema rows changes) ks))
      by rest None e = rest
      by rest (Some c) e = (subst (BeforeFits schema) (made_parts x c e).1 (row_fits (at rows x) refl), rest)

pub incoming_leaves : IncomingLeavesFates
incoming_leaves schema rows changes set same is = set_leaves schema rows changes same set is

pub incoming_once : TwiceIsOnce
incoming_once schema rows changes set same is = set_once schema rows changes same set is

pub incoming_allowed : IncomingIsAllowed
incoming_allowed schema rows changes set same fit ids is = set_allowed schema rows changes same set is ids (subst (BeforesFit schema) (set_made schema rows changes same set is) (befores schema rows changes same fit (records schema changes)))
