use Rattle.std.proofs.Common.{◌≡◌, ◌∷◌, ◌++◌, Ok, [], drop}
use Rattle.melon_schema.specs.Faults.{◌>>=◌, in_turn, each_read}
use Rattle.melon_query.specs.Reading.{sort_key}
use Rattle.melon_query.proofs.query_reader.sort_keys.Given as goal

-- what is left is still to be read
abbrev pub invariant-loop-form : goal.invariant-loop-form
invariant-loop-form l = in_turn (λ made form. sort_key l.columns form >>= λ key. Ok (made ++ key ∷ [])) l.keys (drop l.form-index l.forms) ≡ each_read (sort_key l.columns) l.forms
