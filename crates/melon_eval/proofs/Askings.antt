-- What the `on`s of each kind of condition ask.
use Rattle.std.proofs.Common.{◌≡◌, ℕ, ◌+◌, ◌<◌, suc, List, [], ◌∷◌, ◌++◌, length, get_or, take, Bool, ◌&&◌, not, cond, nat_eq, map, filter, ap, sym, ◌∙◌, refl, append-nil, append_assoc, add-one, arith}
use Rattle.std.proofs.lemmas.List.Elements.{filter-append}
use Rattle.melon_query.specs.Tuples.{Tuple, alone}
use Rattle.melon_query.specs.Meaning.{holds, every, all_hold}
use Rattle.melon_query.specs.declared.query.Compare.{Compare}
use Rattle.melon_query.specs.declared.query.Join.{Join}
use Rattle.melon_query.specs.declared.query.Cond.{Cond}
use Rattle.melon_query.specs.declared.query.Cond.TheVariants.{rolls-Compare, rolls-All, rolls-Any, rolls-On}
use Rattle.melon_query.specs.declared.query.Cond.TheVariants as cond
use Rattle.melon_query.specs.declared.query.Cond.TheOpen.{Cond-F}
use Rattle.melon_query.specs.declared.query.Cond.TheFolds.{fold-roll-Cond}
use Rattle.melon_query.specs.declared.query.Cond.TheViews.{roll-Cond}
use denote.Hole.Carrier.{roll}
use Rattle.melon_eval.specs.Asking.{Asked, Read, truths, all_asks, read, read_step, asks_of, asks_nothing, asks_something}
use Rattle.melon_eval.proofs.Monotone.{truth_is}
use Rattle.melon_eval.specs.declared.asks.Ask.{Ask}
use Rattle.melon_eval.specs.Seen.{seen_ask, seen_asks, conds_at}
use Rattle.melon_eval.specs.Parts.{AreParts}
use Rattle.melon_eval.specs.declared.asks.Parts.{Parts}
use Rattle.melon_eval.proofs.Steps.{taken}

asks-map : (ps : List Cond) → all_asks (map read ps) ≡ asks_of ps
asks-map [] = refl
asks-map (p ∷ ps) = ap (λ l. (read p).asks ++ l) (asks-map ps)

truths-map : (ps : List Cond) → truths (map read ps) ≡ map holds ps
truths-map [] = refl
truths-map (p ∷ ps) = ap (λ f. f ∷ truths (map read ps)) (truth_is p) ∙ ap (λ fs. holds p ∷ fs) (truths-map ps)

pub asks-Compare : (by : Compare) → (read (cond.Compare by)).asks ≡ []
unfolding roll-Cond roll
asks-Compare by = ap (λ c. (read c).asks) (rolls-Compare by) ∙ ap (λ (r : Read). r.asks) (fold-roll-Cond Read read_step (Cond-F.Compare by))

pub asks-All : (ps : List Cond) → (read (cond.All ps)).asks ≡ asks_of ps
unfolding roll-Cond roll
asks-All ps = ap (λ c. (read c).asks) (rolls-All ps) ∙ ap (λ (r : Read). r.asks) (fold-roll-Cond Read read_step (Cond-F.All ps)) ∙ asks-map ps

pub asks-Any : (ps : List Cond) → (read (cond.Any ps)).asks ≡ asks_of ps
unfolding roll-Cond roll
asks-Any ps = ap (λ c. (read c).asks) (rolls-Any ps) ∙ ap (λ (r : Read). r.asks) (fold-roll-Cond Read read_step (Cond-F.Any ps)) ∙ asks-map ps

pub asks-On : (table : ℕ) (join : Join) (ps : List Cond) → (read (cond.On table join ps)).asks ≡ record { table = table; parts = map holds ps } ∷ []
unfolding roll-Cond roll
asks-On table join ps =
    ap (λ c. (read c).asks) (rolls-On table join ps) ∙ ap (λ (r : Read). r.asks) (fold-roll-Cond Read read_step (Cond-F.On table join ps))
    ∙ ap (λ (fs : List (Tuple → Bool)). record { table = table; parts = fs } ∷ []) (truths-map ps)

pub ruleset equations = (asks-Compare, asks-All, asks-Any, asks-On, append-nil)

pub every-map : (ps : List Cond) (tuple : Tuple) → every (map holds ps) tuple ≡ all_hold ps tuple
every-map [] tuple = refl
every-map (p ∷ ps) tuple = ap (λ b. holds p tuple && b) (every-map ps tuple)

pub seen_push : (asks : List Ask) (ask : Ask) → seen_asks (asks ++ ask ∷ []) ≡ seen_asks asks ++ seen_ask ask ∷ []
seen_push [] ask = refl
seen_push (a ∷ asks) ask = ap (λ l. seen_ask a ∷ l) (seen_push asks ask)

-- an `on` more
pub on_more : (old new : List Ask) (table : ℕ) (join : Join) (c : Cond) (ask : Ask) (parts : List Cond) → c ≡ cond.On table join parts → new ≡ old ++ ask ∷ [] → ask.table ≡ table → ask.conds.now ≡ parts
    → seen_asks new ≡ seen_asks old ++ (read c).asks
on_more old new table join c ask parts is added same_table same_parts =
    ap seen_asks added ∙ seen_push old ask
    ∙ ap (λ (t : ℕ). seen_asks old ++ record { table = t; parts = map holds ask.conds.now } ∷ []) same_table
    ∙ ap (λ (ps : List Cond). seen_asks old ++ record { table = table; parts = map holds ps } ∷ []) same_parts
    ∙ sym (ap (λ (asked : List Asked). seen_asks old ++ asked) (ap (λ (d : Cond). (read d).asks) is ∙ asks-On table join parts))

-- ---- one condition more

asks_of-append : (xs ys : List Cond) → asks_of (xs ++ ys) ≡ asks_of xs ++ asks_of ys
asks_of-append [] ys = refl
asks_of-append (x ∷ xs) ys = ap (λ l. (read x).asks ++ l) (asks_of-append xs ys) ∙ sym (append_assoc (read x).asks (asks_of xs) (asks_of ys))

pub parts_more : (conds : List Cond) (i : ℕ) (c : Cond) (old new : Parts) → i < length conds → c ≡ get_or conds i c
    → conds_at new.plain.items ≡ conds_at old.plain.items ++ filter asks_nothing (c ∷ [])
    → conds_at new.joining.items ≡ conds_at old.joining.items ++ filter asks_something (c ∷ [])
    → seen_asks new.asks.items ≡ seen_asks old.asks.items ++ (read c).asks
    → AreParts (take i conds) old → AreParts (take (i + 1) conds) new
parts_more conds i c old new here is plain joining asks h = record {
  plain = plain ∙ ap (λ l. l ++ filter asks_nothing (c ∷ [])) h.plain ∙ sym (ap (filter asks_nothing) (taken conds i c here is) ∙ filter-append asks_nothing (take i conds) (c ∷ []));
  joining = joining ∙ ap (λ l. l ++ filter asks_something (c ∷ [])) h.joining ∙ sym (ap (filter asks_something) (taken conds i c here is) ∙ filter-append asks_something (take i conds) (c ∷ []));
  asks = asks ∙ ap (λ l. l ++ (read c).asks) h.asks ∙ sym (ap asks_of (taken conds i c here is) ∙ asks_of-append (take i conds) (c ∷ []) ∙ ap (λ l. asks_of (take i conds) ++ l) (append-nil (read c).asks));
}
