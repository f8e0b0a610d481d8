-- The records of a fetch, in their order, and how each was collected.
use Rattle.std.proofs.Common.{◌≡◌, ℕ, ◌+◌, ◌<◌, List, [], ◌∷◌, ◌++◌, length, map, find, drop, append_assoc, get_or, Bool, true, false, ◌&&◌, ◌||◌, cond, Option, Some, None, option_map, refl, sym, ap, ◌∙◌, subst, arith, zero, suc}
use Rattle.std.specs.Option.{option_or}
use Rattle.std.specs.List.{All, filter_map}
use Rattle.std.specs.List.Sorted.{IsPermutation}
use Rattle.std.proofs.lemmas.List.{map-append, drop_more}
use Rattle.std.proofs.lemmas.List.Elements.{All-weaker}
use Rattle.melon_raw.specs.Rows.{Key, Rows, is_key, at}
use Rattle.melon_change.specs.declared.change.Change.{Change}
use Rattle.melon_wire.specs.declared.fetch.Held.{Held}
use Rattle.melon_wire.specs.declared.fetch.Gone.{Gone}
use Rattle.melon_wire.specs.declared.fetch.Fetch.{Fetch}
use Rattle.melon_wire.specs.Keys.{key_at, ascending, do_rise, are_apart}
use Rattle.melon_wire.specs.Collected.{held_key, gone_key, keys_fetched, IsFetch}
use Rattle.melon_wire.specs.Settled.{Collection, as_row, as_id, not_collected, held_of, is_gone, collects, collection}
use Rattle.melon_wire.proofs.KeyOrder.{split, is_key_same}
use Rattle.melon_wire.proofs.KeyedLists.{IsFound, filter_map-keyed, in_order, found_in_order, once_from}
use Rattle.melon_push.specs.declared.fetched.Fetched.{Fetched}
use Rattle.melon_push.specs.Settling.{change_settled, settled_change, settled}
use Rattle.melon_push.specs.Fetching.{Collecting, key_collected, held_collected, gone_collected, collecting, collecting_seen, all_seen, change_seen, IsGathered}

find-append : {X : Type 0} (p : X → Bool) (xs ys : List X) → find p (xs ++ ys) ≡ option_or (find p xs) (find p ys)
find-append p [] ys = refl
find-append p (x ∷ xs) ys = split (p x) (λ e. rw e refl) (λ e. rw e (find-append p xs ys))

-- ---- as the code holds them

abbrev pub key_seen : Fetched → Key
key_seen one = key_at one.table one.id.now

pub keys_seen : (fetched : List Fetched) → map key_seen fetched ≡ map key_collected (all_seen fetched)
keys_seen [] = refl
keys_seen (one ∷ rest) = ap (λ ks. key_seen one ∷ ks) (keys_seen rest)

-- ---- their records

held_keys : (held : List Held) → map key_collected (map held_collected held) ≡ map held_key held
held_keys [] = refl
held_keys (h ∷ held) = ap (λ ks. held_key h ∷ ks) (held_keys held)

gone_keys : (gone : List Gone) → map key_collected (map gone_collected gone) ≡ map gone_key gone
gone_keys [] = refl
gone_keys (g ∷ gone) = ap (λ ks. gone_key g ∷ ks) (gone_keys gone)

pub keys_collecting : (f : Fetch) → map key_collected (collecting f) ≡ keys_fetched f
keys_collecting f =
    map-append key_collected (map held_collected f.created) (map held_collected f.updated ++ map gone_collected f.deleted)
    ∙ (rw (held_keys f.created) (ap (λ ks. map held_key f.created ++ ks) (map-append key_collected (map held_collected f.updated) (map gone_collected f.deleted) ∙ (rw (held_keys f.updated, gone_keys f.deleted) refl))))

-- ---- how a record was collected

abbrev how_of : Option Collecting → Collection
how_of None = not_collected
how_of (Some c) = c.how

module _ (x : Key) where
  abbrev is_of : Collecting → Bool
  is_of c = is_key x (key_collected c)

  find_held : (held : List Held) → find is_of (map held_collected held) ≡ option_map held_collected (held_of held x)
  find_held [] = refl
  find_held (h ∷ held) = let ih : find is_of (map held_collected held) ≡ option_map held_collected (held_of held x) = find_held held in
      split (is_key x (held_key h)) (λ e. rw e refl) (λ e. rw e ih)

  abbrev if_gone : Bool → Option Collecting
  if_gone b = cond b (Some (record { key = x; how = as_id })) None

  find_gone : (gone : List Gone) → find is_of (map gone_collected gone) ≡ if_gone (is_gone gone x)
  find_gone [] = refl
  find_gone (g ∷ gone) = let ih : find is_of (map gone_collected gone) ≡ if_gone (is_gone gone x) = find_gone gone in
      split (is_key x (gone_key g)) (λ e. rw e (ap (λ (k : Key). Some (record { key = k; how = as_id })) (sym (is_key_same x (gone_key g) e)))) (λ e. rw e ih)

  how_collected : (c u : Option Held) (d : Bool) → how_of (option_or (option_map held_collected c) (option_or (option_map held_collected u) (if_gone d))) ≡ collects c u d
  how_collected (Some h) u d = refl
  how_collected None (Some h) d = refl
  how_collected None None true = refl
  how_collected None None false = refl

  -- A record was collected as it is found first.
  pub collection_found : (f : Fetch) → how_of (find is_of (collecting f)) ≡ collection f x
  unfolding collection
  collection_found f =
      let last : find is_of (map held_collected f.updated ++ map gone_collected f.deleted) ≡ option_or (option_map held_collected (held_of f.updated x)) (if_gone (is_gone f.deleted x)) =
      find-append is_of (map held_collected f.updated) (map gone_collected f.deleted) ∙ (ap (λ o. option_or o (find is_of (map gone_collected f.deleted))) (find_held f.updated) ∙ ap (option_or (option_map held_collected (held_of f.updated x))) (find_gone f.deleted)) in
      let all : find is_of (collecting f) ≡ option_or (option_map held_collected (held_of f.created x)) (option_or (option_map held_collected (held_of f.updated x)) (if_gone (is_gone f.deleted x))) =
      find-append is_of (map held_collected f.created) (map held_collected f.updated ++ map gone_collected f.deleted)
      ∙ (ap (λ o. option_or o (find is_of (map held_collected f.updated ++ map gone_collected f.deleted))) (find_held f.created) ∙ ap (option_or (option_map held_collected (held_of f.created x))) last) in
      ap how_of all ∙ how_collected (held_of f.created x) (held_of f.updated x) (is_gone f.deleted x)

-- ---- the whole

module _ (f : Fetch) (all : List Collecting) (so : IsGathered f all) where
  module _ (form : IsFetch f) where
    apart : are_apart (map key_collected (collecting f)) ≡ true
    apart = ap are_apart (keys_collecting f) ∙ form.apart

    sorted : ascending (keys_fetched f) ≡ map key_collected all
    sorted = ap ascending (sym (keys_collecting f)) ∙ in_order key_collected (collecting f) all so.moved so.rising (once_from key_collected (collecting f) all so.moved so.rising apart)

    placed : All (λ c. collection f c.key ≡ c.how) all
    placed = All-weaker (IsFound key_collected (collecting f)) (λ c. collection f c.key ≡ c.how)
        (λ c found. sym (collection_found c.key f) ∙ ap how_of found) all (found_in_order key_collected (collecting f) all so.moved so.rising (once_from key_collected (collecting f) all so.moved so.rising apart))

    -- The change set of a settlement is that of the records in their order.
    pub settled_is_seen : (rows : Rows) → settled rows f ≡ filter_map (change_seen rows) all
    unfolding settled
    settled_is_seen rows = ap (filter_map (settled_change rows f)) sorted
        ∙ filter_map-keyed key_collected (settled_change rows f) (change_seen rows) all
        (All-weaker (λ c. collection f c.key ≡ c.how) (λ c. settled_change rows f c.key ≡ change_seen rows c) (λ c e. ap (change_settled c.key (at rows c.key)) e) all placed)

pub gathered : (f : Fetch) (all : List Collecting) → IsPermutation (collecting f) all → do_rise (map key_collected all) ≡ true → IsGathered f all
gathered f all moved rising = record { moved = moved; rising = rising }

-- ---- one more

-- an id more is gathered
pub more_gone : (all next : List Fetched) (one : Fetched) (gone : List Gone) (i : ℕ) (g : Gone) (whole : List Collecting) → i < length gone → g ≡ get_or gone i g → next ≡ all ++ one ∷ [] → collecting_seen one ≡ gone_collected g
    → all_seen all ++ map gone_collected (drop i gone) ≡ whole → all_seen next ++ map gone_collected (drop (i + 1) gone) ≡ whole
more_gone all next one gone i g whole within at is seen was =
    let rest : List Collecting = map gone_collected (drop (i + 1) gone) in
    let here : drop i gone ≡ g ∷ drop (i + 1) gone = drop_more gone i g within ∙ ap (λ (x : Gone). x ∷ drop (i + 1) gone) (sym at) in
    let pushed : all_seen next ≡ all_seen all ++ collecting_seen one ∷ [] = ap all_seen is ∙ map-append collecting_seen all (one ∷ []) in
    ap (λ cs. cs ++ rest) pushed ∙ (append_assoc (all_seen all) (collecting_seen one ∷ []) rest ∙ (ap (λ (c : Collecting). all_seen all ++ c ∷ rest) seen ∙ (ap (λ gs. all_seen all ++ map gone_collected gs) (sym here) ∙ was)))
