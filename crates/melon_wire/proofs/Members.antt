-- A member taken out of an object.
use Rattle.std.proofs.Common.{◌≡◌, ℕ, List, [], ◌∷◌, Bool, true, false, cond, Option, Some, bytes_eq, nat_cmp, string_bytes, refl, sym, ap, ◌∙◌}
use Rattle.std.specs.Cmp.Lexicographic.{slice_cmp}
use Rattle.std.specs.Ordering.{match_ordering}
use Rattle.std.specs.BTreeMap.{is_at}
use Rattle.std.specs.Map.{remove_entry}
use Rattle.std.proofs.lemmas.Slice.Eq.{bytes_eq-Decides}
use Rattle.std.proofs.lemmas.Map.Text.{is_eq-slice_cmp}
use Rattle.serde_json.specs.Data.{Data}
use Rattle.serde_json.specs.Find.{get_member}
use Rattle.serde_json.specs.View.{view, members_view}
use Rattle.serde_json.proofs.Views.{Entry, member_later}

apart : (a b : List ℕ) → bytes_eq a b ≡ false → a ≡ b → ⊥
apart a b h e = let t : bytes_eq a b ≡ true = (bytes_eq-Decides a b).1 e in cc

step : (b : Bool) (name key : List ℕ) (e : Entry) (es : List Entry) → is_at (λ k. slice_cmp nat_cmp key (string_bytes k)) e.0 ≡ b → bytes_eq name key ≡ false
    → get_member name (members_view (remove_entry (is_at (λ k. slice_cmp nat_cmp key (string_bytes k))) es)) ≡ get_member name (members_view es)
    → get_member name (members_view (cond b es (e ∷ remove_entry (is_at (λ k. slice_cmp nat_cmp key (string_bytes k))) es))) ≡ get_member name (members_view (e ∷ es))
step true name key e es is other later =
    let same : key ≡ string_bytes e.0 = (bytes_eq-Decides key (string_bytes e.0)).0 (sym (is_eq-slice_cmp key (string_bytes e.0)) ∙ is) in
    sym (member_later name e es (λ h. apart name key other (h ∙ sym same)))
step false name key e es is other later = ap (λ (o : Option Data). match_ordering (slice_cmp nat_cmp name (string_bytes e.0)) o (Some (view e.1)) o) later

-- the other members stay
pub others_stay : (name key : List ℕ) (es : List Entry) → bytes_eq name key ≡ false
    → get_member name (members_view (remove_entry (is_at (λ k. slice_cmp nat_cmp key (string_bytes k))) es)) ≡ get_member name (members_view es)
others_stay name key [] other = refl
others_stay name key (e ∷ es) other = step _ name key e es refl other (others_stay name key es other)
