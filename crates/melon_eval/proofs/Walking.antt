-- The walk over what is offered.
use Rattle.std.proofs.Common.{◌≡◌, ℕ, ◌+◌, ◌<◌, ◌≤◌, List, [], ◌∷◌, ◌++◌, length, drop, get_or, Bool, true, false, ◌||◌, Option, Some, None, map, ap, sym, ◌∙◌, refl, append_assoc, append-nil, arith}
use Rattle.std.proofs.Math.ListN.{drop_of_length-le}
use Rattle.std.specs.List.{list_any, flat_map}
use Rattle.std.specs.Borrow.{Bor}
use Rattle.melon_raw.specs.declared.raw.Raw.{Raw}
use Rattle.melon_query.specs.declared.query.Cond.{Cond}
use Rattle.melon_query.specs.Tuples.{Member}
use Rattle.melon_query.specs.Meaning.{all_hold}
use Rattle.melon_eval.specs.Chosen.{with_choice}
use Rattle.melon_eval.specs.Offers.{Offer, with_member, members_of, some_offered}
use Rattle.melon_eval.specs.Seen.{rows_at}
use Rattle.melon_eval.proofs.Covered.{any-flat_map, any-map, any-same}
use Rattle.melon_eval.proofs.Steps.{splits}

or_false : (a : Bool) → a || false ≡ a
or_false true = refl
or_false false = refl

-- what one row of a table makes of the rest
abbrev pub tried : List Cond → Raw → List Member → ℕ → List Offer → Option Raw → Bool
tried conds main chosen table later row = some_offered conds main (with_choice chosen table row) later

module _ (conds : List Cond) (main : Raw) (chosen : List Member) where
  pub at_nothing : (offers : List Offer) → length offers ≡ 0 → all_hold conds (record { main = main; members = chosen }) ≡ some_offered conds main chosen offers
  unfolding some_offered
  at_nothing [] none = sym (or_false (all_hold conds (record { main = main; members = chosen ++ [] })) ∙ ap (λ (ms : List Member). all_hold conds (record { main = main; members = ms })) (append-nil chosen))
  at_nothing (o ∷ os) none = absurd (omega (arith, none))

  one_tried : (table : ℕ) (later : List Offer) (row : Option Raw) → list_any (λ ms. all_hold conds (record { main = main; members = chosen ++ ms })) (with_member table (members_of later) row) ≡ tried conds main chosen table later row
  unfolding some_offered
  one_tried table later row =
      any-map (λ ms. all_hold conds (record { main = main; members = chosen ++ ms })) (λ (ms : List Member). record { table = table; row = row } ∷ ms) (members_of later)
      ∙ any-same _ _ (λ ms. ap (λ (all : List Member). all_hold conds (record { main = main; members = all })) (sym (append_assoc chosen (record { table = table; row = row } ∷ []) ms))) (members_of later)

  pub some_offered-cons : (o : Offer) (later : List Offer) → some_offered conds main chosen (o ∷ later) ≡ list_any (tried conds main chosen o.table later) o.rows
  unfolding some_offered
  some_offered-cons o later =
      any-flat_map (λ ms. all_hold conds (record { main = main; members = chosen ++ ms })) (with_member o.table (members_of later)) o.rows
      ∙ any-same _ _ (one_tried o.table later) o.rows

-- the loop over the other rows
abbrev pub left_from : (Option Raw → Bool) → List (Bor Raw) → Bool
left_from test rows = list_any test (map Some (rows_at rows))

pub first_found : (test : Option Raw → Bool) (first : Option Raw) (others : List (Bor Raw)) → test first ≡ true → true ≡ list_any test (first ∷ map Some (rows_at others))
first_found test first others e = sym (ap (λ b. b || left_from test others) e)

pub first_in_vain : (test : Option Raw → Bool) (first : Option Raw) (others : List (Bor Raw)) → test first ≡ false → left_from test others ≡ list_any test (first ∷ map Some (rows_at others))
first_in_vain test first others e = sym (ap (λ b. b || left_from test others) e)
