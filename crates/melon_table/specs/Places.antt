-- Where an id stands among rows that ascend, and what finding it costs.
use Rattle.std.specs.Prelude.{◌≡◌, ℕ, ◌+◌, ◌<◌, ◌≤◌, ◌^◌, List, length, slice_get, Result, Ok, Err, Some}
use Rattle.std.specs.Borrow.{Bor}
use Rattle.std.specs.declared.cmp.Ordering.TheVariants.{Less, Greater}
use Rattle.melon_raw.specs.declared.raw.Raw.{Raw}
use Rattle.melon_raw.specs.Order.{id_cmp}

-- n rows are searched in at most d steps, where n is below 2 ^ d
abbrev pub FewSteps : ℕ → ℕ → ℕ → Type 0
FewSteps n before after = (d : ℕ) → n < 2 ^ d → after ≤ before + d

abbrev pub AllBefore : List ℕ → List Raw → ℕ → Type 0
AllBefore id rows place = (i : ℕ) (r : Raw) → i < place → slice_get rows i ≡ Some r → id_cmp r.id id ≡ Less

abbrev pub AllFrom : List ℕ → List Raw → ℕ → Type 0
AllFrom id rows place = (i : ℕ) (r : Raw) → place ≤ i → slice_get rows i ≡ Some r → id_cmp r.id id ≡ Greater

-- the id stands there, or it stands nowhere and would go there
abbrev pub IsPlace : List ℕ → List Raw → Result ℕ ℕ → Type 0
IsPlace id rows (Ok place) = (r : Raw) × (slice_get rows place ≡ Some r) × (r.id ≡ id)
IsPlace id rows (Err place) = (place ≤ length rows) × AllBefore id rows place × AllFrom id rows place

-- the row of the id and where it stands, or where the id would go
abbrev pub IsFound : List ℕ → List Raw → Result (ℕ × Bor Raw) ℕ → Type 0
IsFound id rows (Ok found) = (slice_get rows found.0 ≡ Some found.1.now) × (found.1.now.id ≡ id)
IsFound id rows (Err place) = IsPlace id rows (Err place)
