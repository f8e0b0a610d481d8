-- Where an observer stands.
use Rattle.std.proofs.Common.{◌≡◌, ℕ, List, map, position, bytes_eq, sym, Option, Some, None}
use Rattle.melon_change.proofs.Someness.{position-map}
use Rattle.melon_machine.specs.Refusals.{observer_refusal}
use Rattle.melon_machine.specs.State.{KeptObserver, KeptApp, as_kept}
use Rattle.melon_machine.specs.Apps.{Told, told, place_in, unless_told}

pub named_place : (name : List ℕ) (observers : List KeptObserver) → position (λ (o : KeptObserver). bytes_eq o.name name) observers ≡ place_in name (map (λ (o : KeptObserver). o.name) observers)
named_place name observers = sym (position-map (λ (n : List ℕ). bytes_eq n name) (λ (o : KeptObserver). o.name) observers)

-- a refused name, and one that is taken
pub refused_named : (observer : List ℕ) (app : KeptApp) (number : ℕ) (fault : Option ℕ) (done : Told KeptApp) → Some number ≡ fault → told app (observer_refusal number observer) ≡ unless_told as_kept observer app fault done
refused_named observer app number fault done e = λ i. unless_told as_kept observer app (e i) done

pub opened_named : (observer : List ℕ) (app : KeptApp) (fault : Option ℕ) (done : Told KeptApp) → None ≡ fault → done ≡ unless_told as_kept observer app fault done
opened_named observer app fault done e = λ i. unless_told as_kept observer app (e i) done
