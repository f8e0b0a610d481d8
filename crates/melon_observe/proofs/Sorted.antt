-- Patches do the same in the order of their ids as in their own.
use Rattle.std.proofs.Common.{◌≡◌, ℕ, List, [], ◌∷◌, ◌++◌, filter, Bool, true, false, cond, refl, sym, ap, ◌∙◌, append-nil, append_assoc}
use Rattle.std.proofs.lemmas.List.Elements.{filter-append}
use Rattle.std.specs.declared.cmp.Ordering.{Ordering}
use Rattle.melon_raw.specs.Order.{id_cmp, is_below}
use Rattle.melon_table.proofs.Order.{below_trans, below_asym, filter_none, filter_all, filter_passes}
use Rattle.melon_query.specs.declared.shown.Shown.{Shown}
use Rattle.melon_query.specs.Order.{placed}
use Rattle.melon_observe.specs.Members.{below, above}
use Rattle.melon_observe.specs.declared.patching.Patch.{Patch}
use Rattle.melon_observe.specs.declared.patching.Patch.TheVariants.{Put, Remove}
use Rattle.melon_observe.specs.Patches.{id_of, by_id, patched, all_patched}
use Rattle.melon_observe.proofs.Patched.{filter_swap}

abbrev pub patch_cmp : Patch → Patch → Ordering
patch_cmp p q = id_cmp (id_of p) (id_of q)

-- ---- what a patch leaves

left_by : Patch → List Shown
left_by (Put m) = m ∷ []
left_by (Remove id) = []

parts : (p : Patch) (ms : List Shown) → patched p ms ≡ below (id_of p) ms ++ (left_by p ++ above (id_of p) ms)
unfolding left_by
parts (Put m) ms = refl
parts (Remove id) ms = refl

-- all of it passes a test of ids, or none
left_passes : (test : List ℕ → Bool) (p : Patch) → test (id_of p) ≡ true → filter (λ (m : Shown). test m.id) (left_by p) ≡ left_by p
unfolding left_by
left_passes test (Put m) h = rw h refl
left_passes test (Remove id) h = refl

left_fails : (test : List ℕ → Bool) (p : Patch) → test (id_of p) ≡ false → filter (λ (m : Shown). test m.id) (left_by p) ≡ []
unfolding left_by
left_fails test (Put m) h = rw h refl
left_fails test (Remove id) h = refl

-- a test of ids over what a patch leaves
over_parts : (test : List ℕ → Bool) (p : Patch) (ms : List Shown) → filter (λ (m : Shown). test m.id) (patched p ms)
    ≡ filter (λ (m : Shown). test m.id) (below (id_of p) ms) ++ (filter (λ (m : Shown). test m.id) (left_by p) ++ filter (λ (m : Shown). test m.id) (above (id_of p) ms))
over_parts test p ms =
    let by = λ (m : Shown). test m.id in
    ap (filter by) (parts p ms)
    ∙ filter-append by (below (id_of p) ms) (left_by p ++ above (id_of p) ms)
    ∙ ap (λ l. filter by (below (id_of p) ms) ++ l) (filter-append by (left_by p) (above (id_of p) ms))

-- ---- two patches

module _ (p q : Patch) (ms : List Shown) (lower : is_below (id_of q) (id_of p) ≡ true) where
  abbrev low : List Shown
  low = below (id_of q) ms

  abbrev middle : List Shown
  middle = below (id_of p) (above (id_of q) ms)

  abbrev high : List Shown
  high = above (id_of p) ms

  low_is : below (id_of p) low ≡ low
  low_is = filter_all (λ (m : Shown). is_below m.id (id_of q)) (λ (m : Shown). is_below m.id (id_of p)) low (filter_passes (λ (m : Shown). is_below m.id (id_of q)) ms) (λ m h. below_trans m.id (id_of q) (id_of p) h lower)

  high_is : above (id_of q) high ≡ high
  high_is = filter_all (λ (m : Shown). is_below (id_of p) m.id) (λ (m : Shown). is_below (id_of q) m.id) high (filter_passes (λ (m : Shown). is_below (id_of p) m.id) ms) (λ m h. below_trans (id_of q) (id_of p) m.id lower h)

  none_high : above (id_of p) low ≡ []
  none_high = filter_none (λ (m : Shown). is_below m.id (id_of q)) (λ (m : Shown). is_below (id_of p) m.id) low (filter_passes (λ (m : Shown). is_below m.id (id_of q)) ms) (λ m h. below_asym m.id (id_of p) (below_trans m.id (id_of q) (id_of p) h lower))

  none_low : below (id_of q) high ≡ []
  none_low = filter_none (λ (m : Shown). is_below (id_of p) m.id) (λ (m : Shown). is_below m.id (id_of q)) high (filter_passes (λ (m : Shown). is_below (id_of p) m.id) ms) (λ m h. below_asym (id_of q) m.id (below_trans (id_of q) (id_of p) m.id lower h))

  -- the lower one first
  below_then : below (id_of p) (patched q ms) ≡ low ++ (left_by q ++ middle)
  below_then =
      over_parts (λ i. is_below i (id_of p)) q ms
      ∙ ap (λ l. l ++ (filter (λ (m : Shown). is_below m.id (id_of p)) (left_by q) ++ middle)) low_is
      ∙ ap (λ l. low ++ (l ++ middle)) (left_passes (λ i. is_below i (id_of p)) q lower)

  above_then : above (id_of p) (patched q ms) ≡ high
  above_then =
      over_parts (λ i. is_below (id_of p) i) q ms
      ∙ ap (λ l. l ++ (filter (λ (m : Shown). is_below (id_of p) m.id) (left_by q) ++ above (id_of p) (above (id_of q) ms))) none_high
      ∙ ap (λ l. l ++ above (id_of p) (above (id_of q) ms)) (left_fails (λ i. is_below (id_of p) i) q (below_asym (id_of q) (id_of p) lower))
      ∙ filter_swap (λ (m : Shown). is_below (id_of p) m.id) (λ (m : Shown). is_below (id_of q) m.id) ms
      ∙ high_is

  -- the higher one first
  below_before : below (id_of q) (patched p ms) ≡ low
  below_before =
      over_parts (λ i. is_below i (id_of q)) p ms
      ∙ ap (λ l. l ++ (filter (λ (m : Shown). is_below m.id (id_of q)) (left_by p) ++ below (id_of q) high)) (filter_swap (λ (m : Shown). is_below m.id (id_of q)) (λ (m : Shown). is_below m.id (id_of p)) ms ∙ low_is)
      ∙ ap (λ l. low ++ (l ++ below (id_of q) high)) (left_fails (λ i. is_below i (id_of q)) p (below_asym (id_of q) (id_of p) lower))
      ∙ ap (λ l. low ++ l) none_low
      ∙ append-nil low

  above_before : above (id_of q) (patched p ms) ≡ middle ++ (left_by p ++ high)
  above_before =
      over_parts (λ i. is_below (id_of q) i) p ms
      ∙ ap (λ l. l ++ (filter (λ (m : Shown). is_below (id_of q) m.id) (left_by p) ++ above (id_of q) high)) (filter_swap (λ (m : Shown). is_below (id_of q) m.id) (λ (m : Shown). is_below m.id (id_of p)) ms)
      ∙ ap (λ l. middle ++ (l ++ above (id_of q) high)) (left_passes (λ i. is_below (id_of q) i) p lower)
      ∙ ap (λ l. middle ++ (left_by p ++ l)) high_is

  either_first : patched p (patched q ms) ≡ patched q (patched p ms)
  either_first =
      parts p (patched q ms)
      ∙ ap (λ l. l ++ (left_by p ++ above (id_of p) (patched q ms))) below_then
      ∙ ap (λ l. (low ++ (left_by q ++ middle)) ++ (left_by p ++ l)) above_then
      ∙ append_assoc low (left_by q ++ middle) (left_by p ++ high)
      ∙ ap (λ l. low ++ l) (append_assoc (left_by q) middle (left_by p ++ high))
      ∙ sym (
      parts q (patched p ms)
      ∙ ap (λ l. l ++ (left_by q ++ above (id_of q) (patched p ms))) below_before
      ∙ ap (λ l. low ++ (left_by q ++ l)) above_before
      )

-- ---- all patches

module _ (p : Patch) where
  abbrev comes_before : Patch → Patch → Bool
  comes_before a b = is_below (id_of a) (id_of b)

  placed_by : (q : Patch) (ps : List Patch) (ms : List Shown) (b : Bool) → comes_before q p ≡ b → ((ns : List Shown) → all_patched ns (placed comes_before p ps) ≡ all_patched (patched p ns) ps)
      → all_patched ms (cond b (q ∷ placed comes_before p ps) (p ∷ q ∷ ps)) ≡ all_patched (patched q (patched p ms)) ps
  placed_by q ps ms true e ih = ih (patched q ms) ∙ ap (λ ns. all_patched ns ps) (either_first p q ms e)
  placed_by q ps ms false e ih = refl

  placed_alike : (ps : List Patch) (ms : List Shown) → all_patched ms (placed comes_before p ps) ≡ all_patched (patched p ms) ps
  placed_alike [] ms = refl
  placed_alike (q ∷ ps) ms = placed_by q ps ms (comes_before q p) refl (placed_alike ps)

pub ordered_alike : (ps : List Patch) (ms : List Shown) → all_patched ms (by_id ps) ≡ all_patched ms ps
ordered_alike [] ms = refl
ordered_alike (p ∷ ps) ms = placed_alike p (by_id ps) ms ∙ ordered_alike ps (patched p ms)
