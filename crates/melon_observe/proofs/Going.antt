-- Turns that are taken one after another.
use Rattle.std.proofs.Common.{◌≡◌, ℕ, ◌+◌, ◌<◌, ◌≤◌, List, [], ◌∷◌, ◌++◌, length, true, false, refl, sym, ap, ◌∙◌, subst, arith}
use Rattle.std.proofs.lemmas.Bool.{false≢true}
use Rattle.std.proofs.lemmas.List.{append_assoc}
use Rattle.melon_schema.specs.declared.schema.TableSchema.{TableSchema}
use Rattle.melon_raw.specs.Rows.{Rows}
use Rattle.melon_query.specs.Simple.{is_simple}
use Rattle.melon_change.specs.History.{History}
use Rattle.melon_board.specs.Boards.{SeenBoard}
use Rattle.melon_views.specs.declared.emission.Turn.{Turn}
use Rattle.melon_views.specs.declared.emission.Turn.TheVariants.{Emit, Still}
use Rattle.melon_views.specs.Due.{turn_from, number_of}
use Rattle.melon_views.specs.Turns.{followed, turns_from, is_still, IsAhead}
use Rattle.melon_views.specs.Standing.{Observed, Stands, moved}
use Rattle.melon_views.proofs.Standings.{turns_keep}
use Rattle.melon_views.proofs.Turning.{turns_follow}
use Rattle.melon_observe.specs.Journals.{history, Follows, changes_between}
use Rattle.melon_observe.proofs.Between.{between_parts, between_to_end}

-- What one turn gave, and what it left.
pub record IsTurn (board : SeenBoard) (now next : Observed) (t : Turn) (steps later : ℕ) : Type 0 where
  pub turned : (schema : List TableSchema) (opening : Rows) → Follows schema opening board → Stands (history opening board.entries) now → t ≡ turn_from now.query now.shape (history opening board.entries) now.at
  pub moves : next ≡ moved t now
  pub ahead : IsAhead now.at (length board.entries) t
  pub cost : is_simple now.query ≡ true → later ≤ steps + changes_between now.at (number_of t) board.entries

-- What was observed at first, and what is observed now.
pub record IsSince (board : SeenBoard) (was now : Observed) : Type 0 where
  pub query : now.query ≡ was.query
  pub shape : now.shape ≡ was.shape
  pub stands : (schema : List TableSchema) (opening : Rows) → Follows schema opening board → Stands (history opening board.entries) was → Stands (history opening board.entries) now

-- The turns so far, with what they cost.
pub record HasTurned (board : SeenBoard) (was now : Observed) (turns : List Turn) (first steps : ℕ) : Type 0 where
  pub since : IsSince board was now
  pub later : was.at ≤ now.at
  pub turned : (schema : List TableSchema) (opening : Rows) → Follows schema opening board → Stands (history opening board.entries) was
      → turns ++ turns_from now.query now.shape (history opening board.entries) now.at ≡ turns_from was.query was.shape (history opening board.entries) was.at
  pub cost : is_simple was.query ≡ true → steps ≤ first + changes_between was.at now.at board.entries

-- All turns, with what they cost.
pub record HasEnded (board : SeenBoard) (was next : Observed) (turns : List Turn) (first steps : ℕ) : Type 0 where
  pub end : next.at ≡ length board.entries
  pub turned : (schema : List TableSchema) (opening : Rows) → Follows schema opening board → Stands (history opening board.entries) was → turns ≡ turns_from was.query was.shape (history opening board.entries) was.at
  pub cost : is_simple was.query ≡ true → steps ≤ first + changes_between was.at (length board.entries) board.entries

pub since_start : (board : SeenBoard) (o : Observed) → IsSince board o o
since_start board o = record { query = refl; shape = refl; stands = λ schema opening follows stood. stood }

pub turned_start : (board : SeenBoard) (o : Observed) (turns : List Turn) (first : ℕ) → turns ≡ [] → HasTurned board o o turns first first
turned_start board o turns first none = record {
  since = since_start board o;
  later = omega arith;
  turned = λ schema opening follows stood. ap (λ (ts : List Turn). ts ++ turns_from o.query o.shape (history opening board.entries) o.at) none;
  cost = λ simple. omega arith;
}

pub turn_is : (board : SeenBoard) (now next : Observed) (t : Turn) (steps later : ℕ)
    → ((schema : List TableSchema) (opening : Rows) → Follows schema opening board → Stands (history opening board.entries) now → t ≡ turn_from now.query now.shape (history opening board.entries) now.at)
    → next ≡ moved t now → IsAhead now.at (length board.entries) t → (is_simple now.query ≡ true → later ≤ steps + changes_between now.at (number_of t) board.entries) → IsTurn board now next t steps later
turn_is board now next t steps later turned moves ahead cost = record { turned = turned; moves = moves; ahead = ahead; cost = cost }

query_moved : (t : Turn) (o : Observed) → (moved t o).query ≡ o.query
query_moved (Emit n e) o = refl
query_moved (Still n) o = refl

shape_moved : (t : Turn) (o : Observed) → (moved t o).shape ≡ o.shape
shape_moved (Emit n e) o = refl
shape_moved (Still n) o = refl

-- one turn more
pub since_more : (board : SeenBoard) (was now next : Observed) (t : Turn) (steps later : ℕ) → IsSince board was now → IsTurn board now next t steps later → IsSince board was next
since_more board was now next t steps later since turn = record {
  query = ap (λ (o : Observed). o.query) turn.moves ∙ (query_moved t now ∙ since.query);
  shape = ap (λ (o : Observed). o.shape) turn.moves ∙ (shape_moved t now ∙ since.shape);
  stands = λ schema opening follows stood.
      let h : History = history opening board.entries in
      let stand = since.stands schema opening follows stood in
      subst (λ (o : Observed). Stands h o) (sym (turn.moves ∙ ap (λ u. moved u now) (turn.turned schema opening follows stand))) (turns_keep h now stand);
}

module _ (board : SeenBoard) (was now : Observed) (turns : List Turn) (first : ℕ) where
  -- what is behind the turns so far begins with this one
  begins : (t : Turn) (next : Observed) (steps later : ℕ) → HasTurned board was now turns first steps → IsTurn board now next t steps later
      → (schema : List TableSchema) (opening : Rows) → Follows schema opening board → Stands (history opening board.entries) was
      → turns ++ followed (turns_from now.query now.shape (history opening board.entries)) t ≡ turns_from was.query was.shape (history opening board.entries) was.at
  begins t next steps later so_far turn schema opening follows stood =
      let h : History = history opening board.entries in
      let stand = so_far.since.stands schema opening follows stood in
      ap (λ (ts : List Turn). turns ++ ts) (ap (followed (turns_from now.query now.shape h)) (turn.turned schema opening follows stand) ∙ sym (turns_follow now.query now.shape h now.at stand.within))
      ∙ so_far.turned schema opening follows stood

  -- a turn that emits
  pub turned_more : (t : Turn) (next : Observed) (steps later : ℕ) → is_still t ≡ false → HasTurned board was now turns first steps → IsTurn board now next t steps later
      → HasTurned board was next (turns ++ t ∷ []) first later
  turned_more (Still n) next steps later emits so_far turn = absurd (false≢true (sym emits))
  turned_more (Emit n e) next steps later emits so_far turn =
      let at : next.at ≡ n = ap (λ (o : Observed). o.at) turn.moves in
      let query : next.query ≡ now.query = ap (λ (o : Observed). o.query) turn.moves in
      let shape : next.shape ≡ now.shape = ap (λ (o : Observed). o.shape) turn.moves in
      record {
        since = since_more board was now next (Emit n e) steps later so_far.since turn;
        later = omega (arith, at, so_far.later, turn.ahead.0);
        turned = λ schema opening follows stood.
            let h : History = history opening board.entries in
            ap (λ (o : Observed). (turns ++ Emit n e ∷ []) ++ turns_from o.query o.shape h o.at) turn.moves
            ∙ append_assoc turns (Emit n e ∷ []) (turns_from now.query now.shape h n)
            ∙ begins (Emit n e) next steps later so_far turn schema opening follows stood;
        cost = λ simple.
            let parts = between_parts was.at now.at n board.entries so_far.later (omega (arith, turn.ahead.0)) in
            let up : later ≤ first + changes_between was.at n board.entries = omega (arith, so_far.cost simple, turn.cost (ap is_simple so_far.since.query ∙ simple), parts) in
            subst (λ (k : ℕ). later ≤ first + changes_between was.at k board.entries) (sym at) up;
      }

  -- no turn goes back
  pub later_than : (t : Turn) (next : Observed) (steps later : ℕ) → HasTurned board was now turns first steps → IsTurn board now next t steps later → was.at ≤ length board.entries → was.at ≤ next.at
  later_than (Emit n e) next steps later so_far turn within = let at : next.at ≡ n = ap (λ (o : Observed). o.at) turn.moves in omega (arith, at, so_far.later, turn.ahead.0)
  later_than (Still n) next steps later so_far turn within = let at : next.at ≡ n = ap (λ (o : Observed). o.at) turn.moves in omega (arith, at, turn.ahead, within)

  -- the turn that is still
  pub turned_last : (t : Turn) (next : Observed) (steps later : ℕ) → is_still t ≡ true → HasTurned board was now turns first steps → IsTurn board now next t steps later
      → HasEnded board was next (turns ++ t ∷ []) first later
  turned_last (Emit n e) next steps later still so_far turn = absurd (false≢true still)
  turned_last (Still n) next steps later still so_far turn = record {
    end = ap (λ (o : Observed). o.at) turn.moves ∙ turn.ahead;
    turned = begins (Still n) next steps later so_far turn;
    cost = λ simple.
        let there : changes_between now.at n board.entries ≡ changes_between now.at (length board.entries) board.entries = ap (λ (k : ℕ). changes_between now.at k board.entries) turn.ahead in
        omega (arith, so_far.cost simple, turn.cost (ap is_simple so_far.since.query ∙ simple), there, between_to_end was.at now.at board.entries so_far.later);
  }

  -- what remains falls
  pub falls : (t : Turn) (next : Observed) (steps later : ℕ) → is_still t ≡ false → IsTurn board now next t steps later → (now.at < next.at) × (next.at ≤ length board.entries)
  falls (Still n) next steps later emits turn = absurd (false≢true (sym emits))
  falls (Emit n e) next steps later emits turn = let at : next.at ≡ n = ap (λ (o : Observed). o.at) turn.moves in (omega (arith, at, turn.ahead.0), omega (arith, at, turn.ahead.1))
