-- A table in the place of another that has the same columns.
use Rattle.std.proofs.Common.{◌≡◌, ℕ, List, [], get_or, set, slice_get, Some, option_map, ap, sym, ◌∙◌}
use Rattle.std.proofs.Math.Seq.{map-set_same}
use Rattle.std.proofs.lemmas.Option.{get_or_from_slice_get, slice_get-map}
use Rattle.melon_table.specs.Seen.{SeenTable, columns_of}

module _ (ts : List SeenTable) (t : ℕ) (x x' : SeenTable) (here : slice_get ts t ≡ Some x) where
  pub columns_here : get_or (columns_of ts) t [] ≡ x.columns
  columns_here = get_or_from_slice_get (columns_of ts) t x.columns [] (slice_get-map (λ (s : SeenTable). s.columns) ts t ∙ ap (option_map (λ (s : SeenTable). s.columns)) here)

  pub columns_same : x'.columns ≡ x.columns → columns_of (set ts t x') ≡ columns_of ts
  columns_same e = map-set_same (λ (s : SeenTable). s.columns) ts t x' x (e ∙ ap (λ (s : SeenTable). s.columns) (sym (get_or_from_slice_get ts t x x here)))
