-- Values that compare equal are equal.
use Rattle.std.proofs.Common.{◌≡◌, ℕ, List, Bool, true, false, ◌&&◌, Decides, refl, ap}
use Rattle.std.proofs.lemmas.Bool.Decides.{Decides-and, Decides-like, Decides-int_eq}
use Rattle.std.proofs.lemmas.Slice.Eq.{slice_eq-Decides, bytes_eq-Decides}
use Rattle.melon_raw.specs.declared.datum.Datum.{Datum}
use Rattle.melon_raw.specs.declared.datum.Datum.TheVariants.{Null, Words, Whole, Truth}
use Rattle.melon_raw.specs.Datum.{datum_eq, truth_eq}
use Rattle.melon_query.specs.declared.shown.Shown.{Shown}
use Rattle.melon_views.specs.declared.emission.Emission.{Emission}
use Rattle.melon_views.specs.declared.emission.Emission.TheVariants.{Ids, Rows}
use Rattle.melon_views.specs.Due.{is_same_row, is_same}

truths : (a b : Bool) → Decides (truth_eq a b) (Truth a ≡ Truth b)
truths true true = (λ h. refl, λ h. refl)
truths true false = (λ h. cc, λ h. cc)
truths false true = (λ h. cc, λ h. cc)
truths false false = (λ h. refl, λ h. refl)

pub datum_eq-Decides : (a b : Datum) → Decides (datum_eq a b) (a ≡ b)
datum_eq-Decides Null Null = (λ h. refl, λ h. refl)
datum_eq-Decides Null (Words t) = (λ h. cc, λ h. cc)
datum_eq-Decides Null (Whole z) = (λ h. cc, λ h. cc)
datum_eq-Decides Null (Truth b) = (λ h. cc, λ h. cc)
datum_eq-Decides (Words t) Null = (λ h. cc, λ h. cc)
datum_eq-Decides (Words a) (Words b) = Decides-like _ (λ h. ap Words h) (λ h. cc) (bytes_eq-Decides a b)
datum_eq-Decides (Words t) (Whole z) = (λ h. cc, λ h. cc)
datum_eq-Decides (Words t) (Truth b) = (λ h. cc, λ h. cc)
datum_eq-Decides (Whole z) Null = (λ h. cc, λ h. cc)
datum_eq-Decides (Whole z) (Words t) = (λ h. cc, λ h. cc)
datum_eq-Decides (Whole a) (Whole b) = Decides-like _ (λ h. ap Whole h) (λ h. cc) (Decides-int_eq a b)
datum_eq-Decides (Whole z) (Truth b) = (λ h. cc, λ h. cc)
datum_eq-Decides (Truth b) Null = (λ h. cc, λ h. cc)
datum_eq-Decides (Truth b) (Words t) = (λ h. cc, λ h. cc)
datum_eq-Decides (Truth b) (Whole z) = (λ h. cc, λ h. cc)
datum_eq-Decides (Truth a) (Truth b) = truths a b

pub shown_path : (a b : Shown) → a.id ≡ b.id → a.cells ≡ b.cells → a ≡ b
shown_path a b p q = λ i. record { id = p i; cells = q i }

pub is_same_row-Decides : (a b : Shown) → Decides (is_same_row a b) (a ≡ b)
is_same_row-Decides a b = Decides-like _ (λ h. shown_path a b h.0 h.1) (λ h. (ap (λ (s : Shown). s.id) h, ap (λ (s : Shown). s.cells) h))
    (Decides-and _ _ (bytes_eq-Decides a.id b.id) (slice_eq-Decides datum_eq-Decides a.cells b.cells _ refl))

pub is_same-Decides : (a b : Emission) → Decides (is_same a b) (a ≡ b)
is_same-Decides (Ids a) (Ids b) = Decides-like _ (λ h. ap Ids h) (λ h. cc) (slice_eq-Decides bytes_eq-Decides a b _ refl)
is_same-Decides (Ids a) (Rows b) = (λ h. cc, λ h. cc)
is_same-Decides (Rows a) (Ids b) = (λ h. cc, λ h. cc)
is_same-Decides (Rows a) (Rows b) = Decides-like _ (λ h. ap Rows h) (λ h. cc) (slice_eq-Decides is_same_row-Decides a b _ refl)
