-- What is kept of one store, and what a batch does to it.
use Rattle.std.specs.Prelude.{ℕ, Bool, ◌&&◌, if◌then◌else◌, List, [], ◌∷◌}
use Rattle.std.specs.Ordering.{nat_cmp, on, then_cmp}
use Rattle.std.specs.Cmp.Lexicographic.{slice_cmp}
use Rattle.std.specs.declared.cmp.Ordering.{Ordering}
use Rattle.melon_outside.specs.declared.kept.Kept.{Kept}
use Rattle.melon_outside.specs.declared.kept.KeptBatch.{KeptBatch}
use Rattle.melon_outside.specs.declared.kept.KeptKey.{KeptKey}
use Rattle.melon_outside.specs.declared.kept.KeptRow.{KeptRow}
use Rattle.melon_outside.specs.declared.kept.KeptValue.{KeptValue}
use Rattle.melon_outside.specs.Ascending.{with_item, without_key, ascends}

-- texts go by their bytes
abbrev pub text_cmp : List ℕ → List ℕ → Ordering
text_cmp a b = slice_cmp nat_cmp a b

-- rows go by their tables' names, and in a table by their ids
abbrev pub key_cmp : KeptKey → KeptKey → Ordering
key_cmp = then_cmp (on (λ k. k.table) text_cmp) (on (λ k. k.id) text_cmp)

abbrev pub key_of : KeptRow → KeptKey
key_of row = record { table = row.table; id = row.id }

abbrev pub name_of : KeptValue → List ℕ
name_of value = value.name

-- a store of which nothing is kept
abbrev pub nothing : Kept
nothing = record { rows = []; values = [] }

-- the rows ascend by table and id, and the values by name, none of them twice
abbrev pub is_in_order : Kept → Bool
is_in_order kept = ascends key_cmp key_of kept.rows && ascends text_cmp name_of kept.values

abbrev pub cleared : Kept → Kept
cleared kept = record { rows = []; values = kept.values }

abbrev pub without_row : KeptKey → Kept → Kept
without_row k kept = record { rows = without_key key_cmp key_of k kept.rows; values = kept.values }

abbrev pub with_row : KeptRow → Kept → Kept
with_row row kept = record { rows = with_item key_cmp key_of row kept.rows; values = kept.values }

abbrev pub with_value : KeptValue → Kept → Kept
with_value value kept = record { rows = kept.rows; values = with_item text_cmp name_of value kept.values }

abbrev pub cleared_if : Bool → Kept → Kept
cleared_if clear kept = if clear then cleared kept else kept

abbrev pub removed : List KeptKey → Kept → Kept
removed [] kept = kept
removed (k ∷ ks) kept = removed ks (without_row k kept)

abbrev pub filled : List KeptRow → Kept → Kept
filled [] kept = kept
filled (row ∷ rows) kept = filled rows (with_row row kept)

abbrev pub valued : List KeptValue → Kept → Kept
valued [] kept = kept
valued (value ∷ values) kept = valued values (with_value value kept)

-- the batch done in the order of its fields
abbrev pub batched : KeptBatch → Kept → Kept
batched batch kept = valued batch.values (filled batch.puts (removed batch.removes (cleared_if batch.clear kept)))
