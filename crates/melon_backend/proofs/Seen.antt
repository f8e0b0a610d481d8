-- What the code lists, as it stands for what is told.
use Rattle.std.proofs.Common.{◌≡◌, ℕ, zero, suc, ◌<◌, List, [], ◌∷◌, length, map, get_or, refl, sym, ap, subst, arith}
use Rattle.std.specs.List.{AllByRecursion}
use Rattle.melon_raw.specs.Rows.{Key}
use Rattle.melon_wire.specs.Keys.{key_at}
use Rattle.melon_backend.specs.declared.listed.Listed.{Listed}
use Rattle.melon_backend.specs.declared.named.Named.{Named}
use Rattle.melon_backend.specs.Listing.{Telling, key_told, tellings_seen, namings_seen, IsOfTable}

abbrev pub key_seen : Listed → Key
key_seen l = key_at 0 l.id.now

pub keys_seen : (listed : List Listed) → map key_seen listed ≡ map key_told (tellings_seen listed)
keys_seen [] = refl
keys_seen (l ∷ ls) = ap (λ ks. key_seen l ∷ ks) (keys_seen ls)

-- a named record is of a declared table
pub declared_here : (n : ℕ) (named : List Named) (i : ℕ) (one : Named) → AllByRecursion (IsOfTable n) (namings_seen named) → i < length named → one ≡ get_or named i one → one.table < n
declared_here n [] i one all within is = absurd (omega (arith, within))
declared_here n (l ∷ ls) zero one all within is = subst (λ (x : Named). x.table < n) (sym is) all.0
declared_here n (l ∷ ls) (suc i) one all within is = declared_here n ls i one all.1 (omega (arith, within)) is

-- each listed id is told of in its own place
pub all_plain : (listed : List Listed) → AllByRecursion (λ (t : Telling). t.key ≡ key_at 0 t.key.id) (tellings_seen listed)
all_plain [] = tt
all_plain (l ∷ ls) = (refl, all_plain ls)
