-- A script: the forms of its lines, up to the first line outside the grammar.
use Rattle.std.specs.Prelude.{◌≡◌, ◌⊎◌, true, false, ℕ, ◌+◌, List, [], ◌∷◌, Option, Some, None, if◌then◌else◌}
use Rattle.melon_script.specs.SeenLine.{SeenLine}
use Rattle.melon_script.specs.Forms.{line_of, is_blank}
use Rattle.melon_script.specs.Lines.{lines_of}

-- it is blank, or within the grammar
abbrev pub IsLine : List ℕ → Type 0
IsLine bytes = (is_blank bytes ≡ true) ⊎ ((is_blank bytes ≡ false) × ((line : SeenLine) × (line_of bytes ≡ Some line)))

-- it is outside the grammar
abbrev pub IsOutside : List ℕ → Type 0
IsOutside bytes = (is_blank bytes ≡ false) × (line_of bytes ≡ None)

abbrev pub first_form : Option SeenLine → List SeenLine → List SeenLine
first_form None later = []
first_form (Some line) later = line ∷ later

-- a blank line does nothing
abbrev pub forms_of : List (List ℕ) → List SeenLine
forms_of [] = []
forms_of (bytes ∷ more) = if is_blank bytes then forms_of more else first_form (line_of bytes) (forms_of more)

unfoldable pub forms_in : List ℕ → List SeenLine
forms_in script = forms_of (lines_of script)

abbrev pub or_bad : ℕ → Option SeenLine → Option ℕ → Option ℕ
or_bad number None later = Some number
or_bad number (Some line) later = later

-- the number of the first line outside the grammar, where this many lines stand before
abbrev pub bad_from : ℕ → List (List ℕ) → Option ℕ
bad_from number [] = None
bad_from number (bytes ∷ more) = if is_blank bytes then bad_from (number + 1) more else or_bad (number + 1) (line_of bytes) (bad_from (number + 1) more)

-- blank lines are counted
unfoldable pub bad_line : List ℕ → Option ℕ
bad_line script = bad_from 0 (lines_of script)
