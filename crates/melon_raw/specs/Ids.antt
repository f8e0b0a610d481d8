-- When a text is read as an id.
use Rattle.std.specs.Prelude.{◌≡◌, ℕ, List, Result, Ok, Err, true, false}
use Rattle.melon_schema.specs.Names.{is_id}
use Rattle.melon_raw.specs.declared.id.IdFault.{IdFault}
use Rattle.melon_raw.specs.declared.id.IdFault.TheVariants.{Bad, Memory}

-- the id is the text; Bad comes exactly where the text is none
abbrev pub Identifies : List ℕ → Result (List ℕ) IdFault → Type 0
Identifies text (Ok id) = (is_id text ≡ true) × (id ≡ text)
Identifies text (Err Bad) = is_id text ≡ false
Identifies text (Err Memory) = Unit {0}
