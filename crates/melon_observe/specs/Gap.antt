-- Members on both sides of a gap: those before it, and those behind it from the last on.
use Rattle.std.specs.Prelude.{List, ◌++◌, reverse}
use Rattle.melon_query.specs.declared.shown.Shown.{Shown}

-- all members in their order
abbrev pub whole : List Shown → List Shown → List Shown
whole before behind = before ++ reverse behind
