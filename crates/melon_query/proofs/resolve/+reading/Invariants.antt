use Rattle.std.proofs.Common.{◌≡◌, ◌∷◌, ◌++◌, [], Ok, drop}
use Rattle.melon_schema.specs.Faults.{◌>>=◌, in_turn}
use Rattle.melon_query.specs.Reading.{cond_in, conds_in}
use Rattle.melon_query.specs.Setting.{names_of}
use Rattle.melon_query.proofs.resolve.+reading.Given as goal

-- what is left is still to be read
abbrev pub invariant-conds_in-loop-form : goal.invariant-conds_in-loop-form
invariant-conds_in-loop-form l =
    in_turn (λ made form. cond_in (names_of l.setting) form l.columns l.reach >>= λ c. Ok (made ++ c ∷ [])) l.conds (drop l.form-index l.forms) ≡ conds_in (names_of l.setting) l.forms l.columns l.reach
