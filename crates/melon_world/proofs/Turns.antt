-- Turns of observers.
use Rattle.std.proofs.Common.{◌≡◌, ℕ, ◌≤◌, List, [], ◌∷◌, map, length, false, refl, sym, ap, ◌∙◌, subst, arith}
use Rattle.std.specs.Prelude.{Result, Ok, Err, IfOk}
use Rattle.std.specs.List.{list_any}
use Rattle.melon_schema.specs.declared.schema.TableSchema.{TableSchema}
use Rattle.melon_table.specs.Seen.{rows_of}
use Rattle.melon_change.specs.declared.history.Entry.{Entry}
use Rattle.melon_change.specs.History.{History, replay}
use Rattle.melon_board.specs.Boards.{SeenBoard}
use Rattle.melon_board.specs.Stores.{SeenStore}
use Rattle.melon_query.specs.declared.query.Query.{Query}
use Rattle.melon_views.specs.declared.emission.Shape.{Shape}
use Rattle.melon_views.specs.declared.emission.Turn.{Turn}
use Rattle.melon_views.specs.declared.emission.Turn.TheVariants.{Emit, Still}
use Rattle.melon_views.specs.Laws.{IsHistory}
use Rattle.melon_views.specs.Standing.{Observed, Stands}
use Rattle.melon_observe.specs.Journals.{history, Follows}
use Rattle.melon_relation.specs.Watching.{Watched, Watches}
use Rattle.melon_machine.specs.Legal.{IsLegalApp}
use Rattle.melon_machine.specs.Refusals.{is_of_keeper}
use Rattle.melon_machine.specs.Showing.{answer_turn}
use Rattle.melon_views.specs.Turns.{turns_from}
use Rattle.melon_views.specs.Views.{view}
use Rattle.melon_relation.specs.Watching.{parent_view, watch_turn}
use Rattle.melon_script.specs.declared.item.Item.{Item}
use Rattle.melon_machine.specs.Showing.{owner_turns, turn_items}
use Rattle.melon_machine.specs.State.{App, Watch, Answer, Owner, Answers, Owns, kept_at, store_of, history_of}
use Rattle.melon_world.specs.Handled.{StandsOn}

-- two things that hold of a value
pub if_both : {T E : Type 0} (r : Result T E) (P Q R : T → Type 0) → ((x : T) → P x → Q x → R x) → IfOk r P → IfOk r Q → IfOk r R
if_both (Ok x) P Q R f p q = f x p q
if_both (Err e) P Q R f p q = tt

-- ---- what is printed

-- no turn tells that the keeper failed
quiet_turn : (tables : List TableSchema) (app name : List ℕ) (q : Query) (s : Shape) (turn : Turn) → is_of_keeper (answer_turn tables app name q s turn) ≡ false
quiet_turn tables app name q s (Emit n e) = refl
quiet_turn tables app name q s (Still n) = refl

pub quiet_turns : (tables : List TableSchema) (app name : List ℕ) (q : Query) (s : Shape) (turns : List Turn) → list_any is_of_keeper (map (answer_turn tables app name q s) turns) ≡ false
quiet_turns tables app name q s [] = refl
quiet_turns tables app name q s (turn ∷ turns) = rw (quiet_turn tables app name q s turn) (quiet_turns tables app name q s turns)

-- ---- the history of a store's board

module _ (a : App) (store : SeenStore) (same : store_of a ≡ store) (legal : IsLegalApp a) (board : SeenBoard) (rows : rows_of board.tables ≡ store.rows) (entries : board.entries ≡ store.entries) where
  pub entries_are : a.entries ≡ board.entries
  entries_are = ap (λ (s : SeenStore). s.entries) same ∙ sym entries

  pub history_is : history_of a ≡ history a.opening board.entries
  history_is = λ i. record { opening = a.opening; entries = entries_are i }

  pub follows : Follows a.schema.tables a.opening board
  follows = record {
    legal = subst (λ (es : List Entry). IsHistory a.schema.tables (history a.opening es)) entries_are (record { ascend = legal.ascend; legal = legal.legal.legal });
    replayed = ap (replay a.opening) (sym entries_are) ∙ (ap (λ (s : SeenStore). s.rows) same ∙ sym rows);
  }

-- ---- what is watched

-- what an observer of a query keeps, and whose
pub stood : (h : History) (at : ℕ) (watch : Watch) (old : Observed) → at ≤ length h.entries → kept_at h at watch ≡ Answers old → Stands h old × (watch ≡ Answer old.query old.shape) × (at ≡ old.at)
stood h at (Answer q s) old within is =
    let e = observed_is is in (
      subst (Stands h) e (record { within = within; keeps = refl }),
      ap (λ (o : Observed). Answer o.query o.shape) e,
      ap (λ (o : Observed). o.at) e,
    )
  where
    observed_is : {a b : Observed} → Answers a ≡ Answers b → a ≡ b
    observed_is e = grind (arith, e)
stood h at (Owner r) old within is = absurd (grind (arith, is))

answered_at : (h : History) (watch : Watch) (old new : Observed) → watch ≡ Answer old.query old.shape → Stands h new → new.query ≡ old.query → new.shape ≡ old.shape → Answers new ≡ kept_at h new.at watch
answered_at h watch old new is stands q s =
    (λ i. Answers (record { query = q i; shape = s i; at = new.at; kept = (stands.keeps ∙ (λ j. view (q j) (s j) h new.at)) i })) ∙ ap (kept_at h new.at) (sym is)

pub watched : (h : History) (at : ℕ) (watch : Watch) (old : Watched) → at ≤ length h.entries → kept_at h at watch ≡ Owns old → Watches h old × (watch ≡ Owner old.relation) × (at ≡ old.at)
watched h at (Answer q s) old within is = absurd (grind (arith, is))
watched h at (Owner r) old within is =
    let e = watched_is is in (
      subst (Watches h) e (record { within = within; keeps = refl }),
      ap (λ (w : Watched). Owner w.relation) e,
      ap (λ (w : Watched). w.at) e,
    )
  where
    watched_is : {a b : Watched} → Owns a ≡ Owns b → a ≡ b
    watched_is e = grind (arith, e)

owned_at : (h : History) (watch : Watch) (old new : Watched) → watch ≡ Owner old.relation → Watches h new → new.relation ≡ old.relation → Owns new ≡ kept_at h new.at watch
owned_at h watch old new is stands r = (λ i. Owns (record { relation = r i; at = new.at; kept = (stands.keeps ∙ (λ j. parent_view (r j) h new.at)) i })) ∙ ap (kept_at h new.at) (sym is)

-- ---- what a turn leaves

module _ (h : History) (at : ℕ) (watch : Watch) (within : at ≤ length h.entries) where
  pub answer_stands : (old new : Observed) → kept_at h at watch ≡ Answers old → (Stands h old → Stands h new) → (old.at ≤ length h.entries → old.at ≤ new.at) → new.query ≡ old.query → new.shape ≡ old.shape → StandsOn h at watch (Answers new)
  answer_stands old new is stands goes q s =
      let was = stood h at watch old within is in
      let now = stands was.0 in
      record { at = new.at; later = omega (arith, was.2, goes was.0.within); within = now.within; is = answered_at h watch old new was.1 now q s }

  pub owner_stands : (old new : Watched) → kept_at h at watch ≡ Owns old → (Watches h old → Watches h new) → (old.at ≤ length h.entries → old.at ≤ new.at) → new.relation ≡ old.relation → StandsOn h at watch (Owns new)
  owner_stands old new is stands goes r =
      let was = watched h at watch old within is in
      let now = stands was.0 in
      record { at = new.at; later = omega (arith, was.2, goes was.0.within); within = now.within; is = owned_at h watch old new was.1 now r }

  module _ (tables : List TableSchema) (app name : List ℕ) (items : List Item) where
    pub answer_turned : (old new : Observed) → kept_at h at watch ≡ Answers old → (Stands h old → Stands h new) → new.query ≡ old.query → new.shape ≡ old.shape → new.at ≡ length h.entries
        → (Stands h old → items ≡ map (answer_turn tables app name old.query old.shape) (turns_from old.query old.shape h old.at))
        → (Answers new ≡ kept_at h (length h.entries) watch) × (items ≡ turn_items tables app name h at watch)
    answer_turned old new is stands q s end shown =
        let was = stood h at watch old within is in (
          answered_at h watch old new was.1 (stands was.0) q s ∙ ap (λ n. kept_at h n watch) end,
          shown was.0 ∙ (λ i. turn_items tables app name h (sym was.2 i) (sym was.1 i)),
        )

    pub owner_turned : (old new : Watched) → kept_at h at watch ≡ Owns old → (Watches h old → Watches h new) → new.relation ≡ old.relation → new.at ≡ length h.entries
        → (Watches h old → items ≡ owner_turns tables app name old.relation (length h.entries) (watch_turn old.relation h old.at))
        → (Owns new ≡ kept_at h (length h.entries) watch) × (items ≡ turn_items tables app name h at watch)
    owner_turned old new is stands r end shown =
        let was = watched h at watch old within is in (
          owned_at h watch old new was.1 (stands was.0) r ∙ ap (λ n. kept_at h n watch) end,
          shown was.0 ∙ (λ i. turn_items tables app name h (sym was.2 i) (sym was.1 i)),
        )
