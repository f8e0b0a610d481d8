-- An app in which an observer takes its turns.
use Rattle.std.proofs.Common.{◌≡◌, ℕ, zero, suc, ◌≤◌, List, [], ◌∷◌, map, length, get_or, set, true, false, bytes_eq, inl, inr, refl, sym, ap, ◌∙◌, subst, arith}
use Rattle.std.specs.Prelude.{Option, Some, None, option_map, slice_get, if◌then◌else◌}
use Rattle.std.specs.List.{AllByRecursion}
use Rattle.std.proofs.lemmas.List.{map-set}
use Rattle.std.proofs.lemmas.Option.{slice_get-map}
use Rattle.melon_schema.specs.Names.{is_id}
use Rattle.melon_script.specs.SeenLine as lines
use Rattle.melon_script.specs.declared.item.Item.{Item}
use Rattle.melon_machine.specs.Calls.{Done, with_end}
use Rattle.melon_machine.specs.Legal.{IsLegalApp, AreKeptAs}
use Rattle.melon_machine.specs.Refusals.{app_refusal, observer_refusal}
use Rattle.melon_machine.specs.Showing.{turn_items}
use Rattle.melon_machine.specs.State.{App, Observer, named, observed_by, history_of, store_of, KeptObserver, KeptApp, kept_app, observer_kept, app_kept, with_history, as_kept, apps_kept}
use Rattle.melon_machine.specs.Apps.{Told, told, place_of, on_found, on_place, place_in, turned, turns_of, turns_at, turn_app, app_step, kept_told, kept_apps}
use Rattle.melon_machine.specs.Outcomes.{stepped, ends_with}
use Rattle.melon_machine.proofs.Legality.{legal_set, observed_legal, within_set}
use Rattle.melon_machine.proofs.Simulated.{names_same, place_same, legal_at}
use Rattle.melon_world.specs.Handled.{watch_bound, observer_bound, place_bound, app_bound, apps_bound, turn_bound, IsTurnedOn, IsAppLeft, AreTurnedOn, AreLeft, StandsAt}
use Rattle.melon_world.proofs.Meeting.{slice_get_or, put_same}
use Rattle.melon_world.proofs.Places.{named_place}
use Rattle.std.proofs.lemmas.List.Quantifiers.{position-Some}
use Rattle.std.proofs.lemmas.Slice.Eq.{bytes_eq-Decides}

some_is : {X : Type 0} {x y : X} → Some x ≡ Some y → x ≡ y
some_is e = grind (arith, e)

-- the observer at a place stands within the history
within_at : (n : ℕ) (observers : List Observer) (place : ℕ) (o : Observer) → slice_get observers place ≡ Some o → AllByRecursion (λ (o : Observer). o.at ≤ n) observers → o.at ≤ n
within_at n [] place o here h = absurd (grind (arith, here))
within_at n (p ∷ observers) zero o here h = subst (λ (q : Observer). q.at ≤ n) (some_is here) h.0
within_at n (p ∷ observers) (suc place) o here h = within_at n observers place o here h.1

-- what stands at a place of a mapped list
mapped_at : {A B : Type 0} (f : A → B) (xs : List A) (place : ℕ) (y : B) → slice_get (map f xs) place ≡ Some y → (x : A) × (slice_get xs place ≡ Some x) × (f x ≡ y)
mapped_at {A} {B} f xs place y h = by (slice_get xs place) refl (sym (slice_get-map f xs place) ∙ h)
  where
    by : (found : Option A) → slice_get xs place ≡ found → option_map f found ≡ Some y → (x : A) × (slice_get xs place ≡ Some x) × (f x ≡ y)
    by None e m = absurd (grind (arith, m))
    by (Some x) e m = (x, e, some_is m)

-- ---- one app

module _ (a : App) (app : KeptApp) (same : app_kept a ≡ app) (observer : List ℕ) where
  names_are : map (λ (o : Observer). o.name) a.observers ≡ map (λ (o : KeptObserver). o.name) app.observers
  names_are = sym (names_same (history_of a) a.observers) ∙ ap (λ (w : KeptApp). map (λ (o : KeptObserver). o.name) w.observers) same

  -- no observer has the name
  pub none_told : (name : List ℕ) → is_id observer ≡ true → None ≡ place_in observer (map (λ (o : KeptObserver). o.name) app.observers) → kept_told (turn_app name observer a) ≡ told app (observer_refusal 2 observer)
  none_told name good none =
      ap (λ b. kept_told (if b then turns_at name observer a (place_in observer (map (λ (o : Observer). o.name) a.observers)) else told a (observer_refusal 4 observer))) good
      ∙ ap (λ p. kept_told (turns_at name observer a p)) (ap (place_in observer) names_are ∙ sym none)
      ∙ ap (λ (w : KeptApp). told w (observer_refusal 2 observer)) same

  pub bad_told : (name : List ℕ) → is_id observer ≡ false → kept_told (turn_app name observer a) ≡ told app (observer_refusal 4 observer)
  bad_told name bad =
      ap (λ b. kept_told (if b then turns_at name observer a (place_in observer (map (λ (o : Observer). o.name) a.observers)) else told a (observer_refusal 4 observer))) bad
      ∙ ap (λ (w : KeptApp). told w (observer_refusal 4 observer)) same

module _ (app : KeptApp) (observer : List ℕ) (place : ℕ) (k : KeptObserver) (at : Some place ≡ place_in observer (map (λ (o : KeptObserver). o.name) app.observers)) (here : k ≡ get_or app.observers place k) where
  pub there : slice_get app.observers place ≡ Some k
  there = slice_get_or app.observers place k (position-Some (λ (o : KeptObserver). bytes_eq o.name observer) app.observers place k (named_place observer app.observers ∙ sym at)).0 ∙ ap Some (sym here)

  pub bound_is : app_bound observer (Some app) ≡ watch_bound app.store k.watch
  bound_is = ap (place_bound app) (sym at) ∙ ap (observer_bound app.store) there

  module _ (a : App) (same : app_kept a ≡ app) (legal : IsLegalApp a) where
    pub found : (o : Observer) × (slice_get a.observers place ≡ Some o) × (observer_kept (history_of a) o ≡ k)
    found = mapped_at (observer_kept (history_of a)) a.observers place k (ap (λ (w : KeptApp). slice_get w.observers place) same ∙ there)

    pub within : found.0.at ≤ length a.entries
    within = within_at (length a.entries) a.observers place found.0 found.1 legal.within

    -- another observer in its place
    pub kept_set : (o : Observer) (left : KeptObserver) → left ≡ observer_kept (history_of a) o → app_kept (observed_by a (set a.observers place o)) ≡ kept_app app.store app.queue (set app.observers place left)
    kept_set o left is =
        (λ i. kept_app (store_of a) a.queue (map-set (observer_kept (history_of a)) a.observers place o i))
        ∙ (λ i. kept_app (same i).store (same i).queue (set (same i).observers place (sym is i)))

    pub turns_told : (name : List ℕ) (left : KeptObserver) (items : List Item) → is_id observer ≡ true → left ≡ observer_kept (history_of a) (turned a found.0)
        → items ≡ turn_items a.schema.tables name found.0.name (history_of a) found.0.at found.0.watch
        → kept_told (turn_app name observer a) ≡ record { app = kept_app app.store app.queue (set app.observers place left); items = items }
    turns_told name left items good is shown =
        ap (λ b. kept_told (if b then turns_at name observer a (place_in observer (map (λ (o : Observer). o.name) a.observers)) else told a (observer_refusal 4 observer))) good
        ∙ ap (λ p. kept_told (turns_at name observer a p)) (ap (place_in observer) (names_are a app same observer) ∙ sym at)
        ∙ ap (λ f. kept_told (turns_of name a place f observer)) found.1
        ∙ (λ i. record { app = kept_set (turned a found.0) left is i; items = sym shown i })

    -- its name is the one that was looked for
    named_so : found.0.name ≡ observer
    named_so = ap (λ (o : KeptObserver). o.name) found.2 ∙ (bytes_eq-Decides k.name observer).0
        (ap (λ (o : KeptObserver). bytes_eq o.name observer) here ∙ (position-Some (λ (o : KeptObserver). bytes_eq o.name observer) app.observers place k (named_place observer app.observers ∙ sym at)).1)

    pub left_turned : (left : KeptObserver) → StandsAt a found.0 left → IsTurnedOn observer a (kept_app app.store app.queue (set app.observers place left))
    left_turned left s =
        let o = found.0 in
        let now = named observer o.watch s.at in
        record {
          next = observed_by a (set a.observers place now);
          gone = record { place = place; old = o; at = s.at; there = found.1; called = named_so; later = s.later; within = s.within; is = refl };
          is = sym (kept_set now left (s.is ∙ ap (λ (n : List ℕ). observer_kept (history_of a) (named n o.watch s.at)) named_so));
        }

-- ---- all apps

module _ (apps : List KeptApp) (name : List ℕ) (place : ℕ) (k : KeptApp) (at : Some place ≡ place_of as_kept name apps) (here : k ≡ get_or apps place k) where
  app_there : slice_get apps place ≡ Some k
  app_there = slice_get_or apps place k (position-Some (λ (s : KeptApp). bytes_eq s.store.name name) apps place k (sym at)).0 ∙ ap Some (sym here)

  pub line_bound_is : (observer : List ℕ) → turn_bound apps name observer ≡ app_bound observer (Some k)
  line_bound_is observer = ap (apps_bound apps observer) (sym at) ∙ ap (app_bound observer) app_there

  module _ (machines : List App) (h : AreKeptAs machines apps) where
    pub app_found : (a : App) × (slice_get machines place ≡ Some a) × (app_kept a ≡ k)
    app_found = mapped_at app_kept machines place k (ap (λ (w : List KeptApp). slice_get w place) h.same ∙ app_there)

    pub found_legal : IsLegalApp app_found.0
    found_legal = legal_at machines place app_found.0 app_found.1 h.legal

    place_is : place_of with_history name machines ≡ Some place
    place_is = sym (place_same name machines) ∙ ap (place_of as_kept name) h.same ∙ sym at

    set_is : (b : App) (left : KeptApp) → app_kept b ≡ left → apps_kept (set machines place b) ≡ set apps place left
    set_is b left is = map-set app_kept machines place b ∙ (λ i. set (h.same i) place (is i))

    pub turn_called : (observer : List ℕ) (left : KeptApp) (items : List Item) → kept_told (turn_app name observer app_found.0) ≡ record { app = left; items = items }
        → with_end kept_apps (app_step machines (lines.Turn name observer)) ≡ Done (ends_with (set apps place left) items)
    unfolding app_step
    turn_called observer left items is =
        ap (λ p. with_end kept_apps (on_place with_history machines name (λ app. Done (turn_app name observer app)) p)) place_is
        ∙ ap (λ f. with_end kept_apps (on_found with_history machines name (λ app. Done (turn_app name observer app)) place f)) app_found.1
        ∙ (λ i. Done (ends_with (set_is (turn_app name observer app_found.0).app left (ap (λ (t : Told KeptApp). t.app) is) i) (ap (λ (t : Told KeptApp). t.items) is i)))

    app_named : app_found.0.name ≡ name
    app_named = ap (λ (w : KeptApp). w.store.name) app_found.2 ∙ (bytes_eq-Decides k.store.name name).0
        (ap (λ (w : KeptApp). bytes_eq w.store.name name) here ∙ (position-Some (λ (w : KeptApp). bytes_eq w.store.name name) apps place k (sym at)).1)

    left_on : (observer : List ℕ) (left : KeptApp) → IsTurnedOn observer app_found.0 left → AreTurnedOn name observer machines (set apps place left)
    left_on observer left turned =
        let a = app_found.0 in
        let g = turned.gone in
        let now = named observer g.old.watch g.at in
        record {
          place = place;
          app = a;
          next = turned.next;
          there = app_found.1;
          called = app_named;
          gone = g;
          after = record {
            same = set_is turned.next left (sym turned.is);
            legal = legal_set machines place turned.next h.legal
                (subst IsLegalApp (sym g.is) (observed_legal a found_legal (set a.observers g.place now) (within_set a found_legal a.observers g.place now g.within found_legal.within)));
          };
        }

  -- what a turn of the app leaves of all
  pub apps_left : (observer : List ℕ) (left : KeptApp) → IsAppLeft observer k left → AreLeft name observer apps (set apps place left)
  apps_left observer left (inl unchanged) = inl (put_same apps place k left here unchanged)
  apps_left observer left (inr turned) = inr (λ machines h. left_on machines h observer left (turned (app_found machines h).0 (app_found machines h).2 (found_legal machines h)))

-- no app of that name is open
pub turn_missing : (apps : List KeptApp) (name observer : List ℕ) (machines : List App) → AreKeptAs machines apps → None ≡ place_of as_kept name apps
    → with_end kept_apps (app_step machines (lines.Turn name observer)) ≡ Done (stepped apps (app_refusal 2 name))
unfolding app_step
turn_missing apps name observer machines h none =
    ap (λ p. with_end kept_apps (on_place with_history machines name (λ app. Done (turn_app name observer app)) p)) (sym (place_same name machines) ∙ ap (place_of as_kept name) h.same ∙ sym none)
    ∙ ap (λ (w : List KeptApp). Done (stepped w (app_refusal 2 name))) h.same
