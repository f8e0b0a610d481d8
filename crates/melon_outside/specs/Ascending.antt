-- Lists in the order of their keys, each key once: one item put in its place, and one taken out.
use Rattle.std.specs.Prelude.{Bool, true, ◌&&◌, List, [], ◌∷◌, ◌++◌, filter}
use Rattle.std.specs.List.{list_all}
use Rattle.std.specs.Ordering.{is_lt}
use Rattle.std.specs.declared.cmp.Ordering.{Ordering}

module _ {K X : Type 0} (cmp : K → K → Ordering) (key : X → K) where
  abbrev pub below : K → List X → List X
  below k xs = filter (λ x. is_lt (cmp (key x) k)) xs

  abbrev pub above : K → List X → List X
  above k xs = filter (λ x. is_lt (cmp k (key x))) xs

  -- the items with this one in the place of its key
  abbrev pub with_item : X → List X → List X
  with_item x xs = below (key x) xs ++ x ∷ above (key x) xs

  -- the items without that of the key
  abbrev pub without_key : K → List X → List X
  without_key k xs = below k xs ++ above k xs

  -- the same of several, one after another
  abbrev pub with_items : List X → List X → List X
  with_items [] xs = xs
  with_items (new ∷ more) xs = with_items more (with_item new xs)

  abbrev pub without_keys : List K → List X → List X
  without_keys [] xs = xs
  without_keys (k ∷ ks) xs = without_keys ks (without_key k xs)

  -- each key is below those after it
  abbrev pub ascends : List X → Bool
  ascends [] = true
  ascends (x ∷ xs) = list_all (λ y. is_lt (cmp (key x) (key y))) xs && ascends xs
