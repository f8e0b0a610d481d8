-- The change set of what is told, in the order of the records, is that of the changes object.
use Rattle.std.proofs.Common.{◌≡◌, ℕ, ◌<◌, List, [], ◌∷◌, length, map, find, Bool, true, false, cond, nat_lt, Option, Some, None, option_map, option_to_list, Result, Ok, Err, refl, sym, ap, ◌∙◌, subst}
use Rattle.std.specs.Bool.{⊤}
use Rattle.std.specs.List.{All, filter_map, cons_option}
use Rattle.std.specs.List.Sorted.{IsPermutation}
use Rattle.std.proofs.lemmas.List.Elements.{All-weaker}
use Rattle.std.proofs.lemmas.List.Sorted.{All-permutation}
use Rattle.melon_schema.specs.Faults.{◌>>=◌}
use Rattle.melon_schema.specs.declared.schema.TableSchema.{TableSchema}
use Rattle.melon_raw.specs.Rows.{Key, Rows, at}
use Rattle.melon_change.specs.declared.change.Change.{Change}
use Rattle.melon_change.specs.Changes.{columns_at}
use Rattle.melon_wire.specs.declared.changes.Changes.{Changes}
use Rattle.melon_wire.specs.Keys.{times, do_ascend, ascending, do_rise, first_again}
use Rattle.melon_wire.specs.Standing.{Standing, standing, keys_listed}
use Rattle.melon_wire.specs.Fates.{fate}
use Rattle.melon_wire.proofs.Ascent.{is_twice}
use Rattle.melon_wire.proofs.KeyedLists.{IsFound, again_moved, filter_map-keyed, in_order, found_in_order}
use Rattle.melon_pull.specs.declared.fault.PullFault.{PullFault}
use Rattle.melon_pull.specs.Incoming.{records, difference, change_made, repeated, if_repeated, if_long, unless_any, incoming_of}
use Rattle.melon_pull.specs.Listing.{Telling, key_told, tellings, IsListing, change_told, long_told, repeats, incoming_told}
use Rattle.melon_pull.proofs.Seen.{IsDeclared}
use Rattle.melon_pull.proofs.Tellings.{keys_tellings, tellings_declared, is_of, how_told, standing_told}

-- what is put in the order of the records is a listing
pub listing : (schema : List TableSchema) (changes : Changes) (told : List Telling) → IsPermutation (tellings schema changes) told → do_rise (map key_told told) ≡ true → IsListing schema changes told
listing schema changes told moved rising = record { moved = moved; rising = rising; declared = All-permutation (IsDeclared (length schema)) (tellings schema changes) told moved (tellings_declared schema changes) }

-- ---- refusals

any_find : (p : Key → Bool) (f : Key → PullFault) (ks : List Key) → unless_any (filter_map (λ x. cond (p x) (Some (f x)) None) ks) ≡ unless_any (option_to_list (option_map f (find p ks)))
any_find p f [] = refl
any_find p f (k ∷ ks) = by (any_find p f ks) (p k) refl
  where
    by : unless_any (filter_map (λ x. cond (p x) (Some (f x)) None) ks) ≡ unless_any (option_to_list (option_map f (find p ks))) → (b : Bool) → p k ≡ b → unless_any (cons_option (cond (p k) (Some (f k)) None) (filter_map (λ x. cond (p x) (Some (f x)) None) ks)) ≡ unless_any (option_to_list (option_map f (cond (p k) (Some k) (find p ks))))
    by ih true e = rw e refl
    by ih false e = rw e ih

same_steps : {X : Type 0} (a a' b b' : Result ⊤ PullFault) (c c' : X) → a ≡ a' → (a' ≡ Ok tt → b ≡ b') → (a' ≡ Ok tt → c ≡ c') → (a >>= λ once. b >>= λ short. Ok c) ≡ (a' >>= λ once. b' >>= λ short. Ok c')
same_steps a (Err e) b b' c c' same second third = ap (λ r. r >>= λ once. b >>= λ short. Ok c) same
same_steps a (Ok u) b b' c c' same second third = ap (λ r. r >>= λ once. b >>= λ short. Ok c) same ∙ (ap (λ r. r >>= λ short. Ok c) (second refl) ∙ ap (λ x. b' >>= λ short. Ok x) (third refl))

none_refused : (f : Key → PullFault) (o : Option Key) → unless_any (option_to_list (option_map f o)) ≡ Ok tt → o ≡ None
none_refused f None h = refl
none_refused f (Some x) h = cc

-- ---- the whole

module _ (schema : List TableSchema) (changes : Changes) (told : List Telling) (so : IsListing schema changes told) where
  twice : find (is_twice (keys_listed schema changes)) (records schema changes) ≡ first_again (map key_told told)
  twice = subst (λ (ks : List Key). find (is_twice ks) (ascending ks) ≡ first_again (map key_told told)) (keys_tellings schema changes) (again_moved key_told (tellings schema changes) told so.moved so.rising)

  refused : unless_any (filter_map (if_repeated schema changes) (records schema changes)) ≡ unless_any (repeats schema told)
  refused = any_find (is_twice (keys_listed schema changes)) (repeated schema) (records schema changes) ∙ ap (λ o. unless_any (option_to_list (option_map (repeated schema) o))) twice

  -- where no record is repeated
  module _ (once : first_again (map key_told told) ≡ None) where
    sorted : records schema changes ≡ map key_told told
    sorted = ap ascending (sym (keys_tellings schema changes)) ∙ in_order key_told (tellings schema changes) told so.moved so.rising once

    placed : All (λ t. standing schema changes t.key ≡ t.how) told
    placed = All-weaker (IsFound key_told (tellings schema changes)) (λ t. standing schema changes t.key ≡ t.how)
        (λ t found. sym (standing_told schema changes t.key) ∙ ap how_told found) told (found_in_order key_told (tellings schema changes) told so.moved so.rising once)

    long_same : filter_map (λ x. if_long schema x (standing schema changes x)) (records schema changes) ≡ filter_map (long_told schema) told
    long_same = ap (filter_map (λ x. if_long schema x (standing schema changes x))) sorted
        ∙ filter_map-keyed key_told (λ x. if_long schema x (standing schema changes x)) (long_told schema) told (All-weaker (λ t. standing schema changes t.key ≡ t.how) (λ t. if_long schema t.key (standing schema changes t.key) ≡ long_told schema t) (λ t e. ap (if_long schema t.key) e) told placed)

    changes_same : (rows : Rows) → filter_map (change_made schema rows changes) (records schema changes) ≡ filter_map (change_told schema rows) told
    changes_same rows = ap (filter_map (change_made schema rows changes)) sorted
        ∙ filter_map-keyed key_told (change_made schema rows changes) (change_told schema rows) told
        (All-weaker (λ t. standing schema changes t.key ≡ t.how) (λ t. change_made schema rows changes t.key ≡ change_told schema rows t)
        (λ t e. ap (λ (s : Standing). difference t.key (at rows t.key) (fate (columns_at schema t.key.table) t.key.id (at rows t.key) s)) e) told placed)

  pub incoming_is_told : (rows : Rows) → incoming_of schema rows changes ≡ incoming_told schema rows told
  unfolding incoming_of incoming_told
  incoming_is_told rows = same_steps _ (unless_any (repeats schema told)) _ (unless_any (filter_map (long_told schema) told)) _ (filter_map (change_told schema rows) told) refused
      (λ ok. ap unless_any (long_same (none_refused (repeated schema) (first_again (map key_told told)) ok)))
      (λ ok. changes_same (none_refused (repeated schema) (first_again (map key_told told)) ok) rows)
