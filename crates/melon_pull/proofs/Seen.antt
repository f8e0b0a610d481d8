-- What the code lists, as it stands for what is told.
use Rattle.std.proofs.Common.{◌≡◌, ℕ, zero, suc, ◌+◌, ◌-◌, ◌<◌, List, [], ◌∷◌, ◌++◌, length, map, get_or, Option, Some, None, option_map, option_to_list, Result, Ok, Err, Bor, refl, sym, ap, ◌∙◌, subst, arith, append_assoc}
use Rattle.std.specs.Option.{option_copied, IfSome}
use Rattle.std.specs.List.{All, flat_map, range_with_len}
use Rattle.std.proofs.lemmas.List.Elements.{All-head, All-tail}
use Rattle.melon_schema.specs.declared.schema.ColumnSchema.{ColumnSchema}
use Rattle.melon_schema.specs.declared.schema.TableSchema.{TableSchema}
use Rattle.melon_raw.specs.declared.raw.Raw.{Raw}
use Rattle.melon_raw.specs.Rows.{Key, is_key, Fits}
use Rattle.melon_change.specs.declared.change.Change.{Change}
use Rattle.melon_change.specs.Changes.{columns_at}
use Rattle.melon_change.specs.Batch.{change_to}
use Rattle.melon_change.specs.History.{FitsIfAny}
use Rattle.melon_wire.specs.declared.changes.Changes.{Changes}
use Rattle.melon_wire.specs.Keys.{key_at, first_again}
use Rattle.melon_raw.specs.Same.{is_same}
use Rattle.melon_wire.proofs.KeyOrder.{split}
use Rattle.melon_raw.proofs.Equals.{is_same_refl}
use Rattle.melon_pull.specs.declared.fault.PullFault.{PullFault}
use Rattle.melon_pull.specs.declared.listed.Listed.{Listed}
use Rattle.melon_pull.specs.Incoming.{repeated, difference, unless_any}
use Rattle.melon_pull.specs.Listing.{Telling, key_told, telling_seen, tellings_seen, told_of, tellings, repeats, BeforeFits}

abbrev pub key_seen : Listed → Key
key_seen l = key_at l.table l.id.now

pub keys_seen : (listed : List Listed) → map key_seen listed ≡ map key_told (tellings_seen listed)
keys_seen [] = refl
keys_seen (l ∷ ls) = ap (λ ks. key_seen l ∷ ks) (keys_seen ls)

abbrev pub IsDeclared : ℕ → Telling → Type 0
IsDeclared n t = t.key.table < n

-- a listed record is of a declared table
pub declared_here : (n : ℕ) (listed : List Listed) (i : ℕ) (one : Listed) → All (IsDeclared n) (tellings_seen listed) → i < length listed → one ≡ get_or listed i one → one.table < n
declared_here n [] i one all within is = absurd (omega (arith, within))
declared_here n (l ∷ ls) zero one all within is = subst (λ (x : Listed). x.table < n) (sym is) (All-head (IsDeclared n) (telling_seen l) (tellings_seen ls) all)
declared_here n (l ∷ ls) (suc i) one all within is = declared_here n ls i one (All-tail (IsDeclared n) (telling_seen l) (tellings_seen ls) all) (omega (arith, within)) is

-- and so is one that is repeated
pub declared_again : (n : ℕ) (told : List Telling) (x : Key) → All (IsDeclared n) told → first_again (map key_told told) ≡ Some x → x.table < n
declared_again n [] x all h = cc
declared_again n (t ∷ []) x all h = cc
declared_again n (t ∷ u ∷ us) x all h =
    let ih : first_again (map key_told (u ∷ us)) ≡ Some x → x.table < n = declared_again n (u ∷ us) x (All-tail (IsDeclared n) t (u ∷ us) all) in
    split (is_key t.key u.key)
    (λ e. subst (λ (k : Key). k.table < n) (some_same (rw e at h)) (All-head (IsDeclared n) t (u ∷ us) all))
    (λ e. ih (rw e at h))
  where
    some_same : Some t.key ≡ Some x → t.key ≡ x
    some_same e = cc

module _ (schema : List TableSchema) (listed : List Listed) where
  pub none_repeats : None ≡ first_again (map key_seen listed) → unless_any (repeats schema (tellings_seen listed)) ≡ Ok tt
  none_repeats h = let is : first_again (map key_told (tellings_seen listed)) ≡ None = ap first_again (sym (keys_seen listed)) ∙ sym h in
      ap (λ o. unless_any (option_to_list (option_map (repeated schema) o))) is

  pub one_repeats : (x : Key) → Some x ≡ first_again (map key_seen listed) → unless_any (repeats schema (tellings_seen listed)) ≡ Err (repeated schema x)
  one_repeats x h = let is : first_again (map key_told (tellings_seen listed)) ≡ Some x = ap first_again (sym (keys_seen listed)) ∙ sym h in
      ap (λ o. unless_any (option_to_list (option_map (repeated schema) o))) is

-- ---- table by table

range_next : (i n : ℕ) → i < n → range_with_len i (n - i) ≡ i ∷ range_with_len (i + 1) (n - (i + 1))
range_next i n h = let more : n - i ≡ suc (n - (i + 1)) = omega (arith, h) in ap (range_with_len i) more

-- a table more is listed
pub more_told : (schema : List TableSchema) (changes : Changes) (i : ℕ) (before now : List Telling) → i < length schema → now ≡ before ++ told_of schema changes i
    → before ++ flat_map (told_of schema changes) (range_with_len i (length schema - i)) ≡ tellings schema changes
    → now ++ flat_map (told_of schema changes) (range_with_len (i + 1) (length schema - (i + 1))) ≡ tellings schema changes
more_told schema changes i before now within is whole =
    let rest : List Telling = flat_map (told_of schema changes) (range_with_len (i + 1) (length schema - (i + 1))) in
    ap (λ ts. ts ++ rest) is ∙ (append_assoc before (told_of schema changes i) rest ∙ (ap (λ r. before ++ flat_map (told_of schema changes) r) (sym (range_next i (length schema) within)) ∙ whole))

-- ---- one change

-- a row that stays makes no change
pub no_difference : (x : Key) (o : Option Raw) → None ≡ difference x o o
no_difference x o = rw (is_same_refl o) refl

-- the row before a change fits where the record's row does
pub before_fits : (schema : List TableSchema) (x : Key) (b a : Option Raw) (change : Option Change) → change ≡ difference x b a → FitsIfAny (columns_at schema x.table) b → IfSome change (BeforeFits schema)
before_fits schema x b a None is fits = tt
before_fits schema x b a (Some c) is fits = split (is_same b a)
    (λ e. absurd (none_some (rw e at is)))
    (λ e. subst (BeforeFits schema) (some_same (rw e at is)) fits)
  where
    none_some : Some c ≡ None → ⊥
    none_some e = cc

    some_same : Some c ≡ Some (change_to x.table x.id b a) → change_to x.table x.id b a ≡ c
    some_same e = cc

pub fits_copied : (columns : List ColumnSchema) (row : Option (Bor Raw)) → IfSome row (λ r. Fits columns r.now) → FitsIfAny columns (option_copied row)
fits_copied columns None h = tt
fits_copied columns (Some row) h = h
