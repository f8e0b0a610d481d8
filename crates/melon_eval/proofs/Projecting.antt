-- What is gathered of each that has it.
use Rattle.std.proofs.Common.{◌≡◌, ℕ, ◌+◌, ◌<◌, List, [], ◌∷◌, ◌++◌, length, get_or, take, Option, Some, None, ap, sym, ◌∙◌, refl}
use Rattle.std.specs.List.{filter_map, cons_option}
use Rattle.std.specs.Option.{option_to_list}
use Rattle.std.proofs.lemmas.List.Elements.{filter_map-append}
use Rattle.melon_eval.proofs.Steps.{taken}

one_gathered : {Y : Type 0} (o : Option Y) → option_to_list o ≡ cons_option o []
one_gathered None = refl
one_gathered (Some y) = refl

pub gathered_more : {X Y : Type 0} (h : X → Option Y) (xs : List X) (i : ℕ) (x : X) (old new : List Y) → i < length xs → x ≡ get_or xs i x
    → new ≡ old ++ option_to_list (h x) → old ≡ filter_map h (take i xs) → new ≡ filter_map h (take (i + 1) xs)
gathered_more h xs i x old new here is added was =
    added ∙ ap (λ l. l ++ option_to_list (h x)) was ∙ ap (λ l. filter_map h (take i xs) ++ l) (one_gathered (h x))
    ∙ sym (ap (filter_map h) (taken xs i x here is) ∙ filter_map-append h (take i xs) (x ∷ []))
