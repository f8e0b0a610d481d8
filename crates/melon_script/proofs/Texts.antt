-- JSON that is read and written.
use Rattle.std.proofs.Common.{◌≡◌, ℕ, List, [], ◌∷◌, length, map, Bool, true, false, Some, None, String, Global, refl, arith}
use Rattle.std.proofs.Common.{codes}
use Rattle.serde_json.specs.Data.{Members, no_members, put, string}
use Rattle.serde_json.specs.View.{items_of}
use Rattle.serde_json.specs.Written.{has_float, items_have_float, members_have_float}
use Rattle.melon_raw.specs.Encoding.{datum_data}
use Rattle.melon_raw.specs.declared.datum.OpField.{OpField}
use Rattle.melon_raw.proofs.Encoded.{no_float-put, no_float-datum}
use Rattle.melon_script.specs.Printed.{with_fields, given_row_data}
use Rattle.melon_script.specs.declared.item.GivenRow.{GivenRow}

-- a list of texts has no float
pub no_float : (ids : List (List ℕ)) → items_have_float (items_of (map string ids)) ≡ false
no_float [] = refl
no_float (id ∷ ids) = no_float ids

-- nor has a row's object
no_float-with_fields : (fields : List OpField) (ms : Members) → members_have_float ms ≡ false → members_have_float (with_fields fields ms) ≡ false
no_float-with_fields [] ms h = h
no_float-with_fields (f ∷ fs) ms h = no_float-with_fields fs (put f.column (datum_data f.value) ms) (no_float-put f.column (datum_data f.value) ms (no_float-datum f.value) h)

pub no_float-row : (row : GivenRow) → has_float (given_row_data row) ≡ false
no_float-row row = no_float-with_fields row.fields (put (codes "id") (string row.id) no_members) (no_float-put (codes "id") (string row.id) no_members refl refl)
