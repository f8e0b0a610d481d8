-- The forms of a line, with the content of `schema`, `ops` and `query` as JSON data.
use Rattle.std.specs.Prelude.{ℕ, List, Option}
use Rattle.serde_json.specs.Data.{Data}
use Rattle.melon_script.specs.declared.line.LineShape.{LineShape}

pub data SeenLine : Type 0 where
  Open : List ℕ → Data → SeenLine
  Close : List ℕ → SeenLine
  Enter : List ℕ → List ℕ → SeenLine
  Nest : List ℕ → List ℕ → SeenLine
  Leave : List ℕ → List ℕ → SeenLine
  Write : List ℕ → Data → Option (List ℕ) → SeenLine
  Fetch : List ℕ → List ℕ → Data → SeenLine
  Rows : List ℕ → List ℕ → SeenLine
  Observe : List ℕ → List ℕ → List ℕ → Data → LineShape → SeenLine
  Watch : List ℕ → List ℕ → List ℕ → List ℕ → List ℕ → SeenLine
  Turn : List ℕ → List ℕ → SeenLine
  Drop : List ℕ → List ℕ → SeenLine
  Parent : List ℕ → List ℕ → List ℕ → List ℕ → SeenLine
  Children : List ℕ → List ℕ → List ℕ → List ℕ → SeenLine
  Backend : Data → SeenLine
  Server : List ℕ → SeenLine
