-- A batch does to the rows and to the values what it does to each of them.
use Rattle.std.proofs.Common.{◌≡◌, ℕ, Bool, true, false, ◌&&◌, List, [], ◌∷◌, if◌then◌else◌, refl, sym, ap, ap₂, ◌∙◌, rules}
use Rattle.std.specs.Cmp.{IsTotalOrder}
use Rattle.std.proofs.lemmas.Cmp.{nat_list_cmp_total}
use Rattle.melon_outside.specs.declared.kept.Kept.{Kept}
use Rattle.melon_outside.specs.declared.kept.KeptBatch.{KeptBatch}
use Rattle.melon_outside.specs.declared.kept.KeptKey.{KeptKey}
use Rattle.melon_outside.specs.declared.kept.KeptRow.{KeptRow}
use Rattle.melon_outside.specs.declared.kept.KeptValue.{KeptValue}
use Rattle.melon_outside.specs.Ascending.{with_items, without_keys, ascends}
use Rattle.melon_outside.specs.Kept.{key_cmp, key_of, name_of, text_cmp, is_in_order, cleared_if, removed, filled, valued, batched}
use Rattle.melon_outside.proofs.Order.{and_true, up, ascends-up, up_withs, up_withouts}
use Rattle.melon_outside.proofs.Places.{key_total}

-- the rows before the removals
abbrev pub rows_left : Bool → List KeptRow → List KeptRow
rows_left clear rows = if clear then [] else rows

pub removed-parts : (ks : List KeptKey) (kept : Kept) → removed ks kept ≡ record { rows = without_keys key_cmp key_of ks kept.rows; values = kept.values }
removed-parts [] kept = refl
removed-parts (k ∷ ks) kept = removed-parts ks _

pub filled-parts : (rows : List KeptRow) (kept : Kept) → filled rows kept ≡ record { rows = with_items key_cmp key_of rows kept.rows; values = kept.values }
filled-parts [] kept = refl
filled-parts (r ∷ rows) kept = filled-parts rows _

pub valued-parts : (values : List KeptValue) (kept : Kept) → valued values kept ≡ record { rows = kept.rows; values = with_items text_cmp name_of values kept.values }
valued-parts [] kept = refl
valued-parts (v ∷ values) kept = valued-parts values _

pub cleared_if-parts : (clear : Bool) (kept : Kept) → cleared_if clear kept ≡ record { rows = rows_left clear kept.rows; values = kept.values }
cleared_if-parts true kept = refl
cleared_if-parts false kept = refl

pub batched-parts : (batch : KeptBatch) (kept : Kept)
    → batched batch kept ≡ record { rows = with_items key_cmp key_of batch.puts (without_keys key_cmp key_of batch.removes (rows_left batch.clear kept.rows)); values = with_items text_cmp name_of batch.values kept.values }
batched-parts batch kept =
    ap (λ k. valued batch.values (filled batch.puts (removed batch.removes k))) (cleared_if-parts batch.clear kept)
    ∙ ap (λ k. valued batch.values (filled batch.puts k)) (removed-parts batch.removes _)
    ∙ ap (valued batch.values) (filled-parts batch.puts _)
    ∙ valued-parts batch.values _

left_ascends : (clear : Bool) (rows : List KeptRow) → ascends key_cmp key_of rows ≡ true → ascends key_cmp key_of (rows_left clear rows) ≡ true
left_ascends true rows h = refl
left_ascends false rows h = h

-- what is in order stays so
pub batched-in_order : (batch : KeptBatch) (kept : Kept) → is_in_order kept ≡ true → is_in_order (batched batch kept) ≡ true
batched-in_order batch kept h =
    let both = and_true (ascends key_cmp key_of kept.rows) (ascends text_cmp name_of kept.values) h in
    let rows = ascends-up key_cmp key_of key_total _ (up_withs key_cmp key_of key_total batch.puts _ (up_withouts key_cmp key_of key_total batch.removes _ (up key_cmp key_of key_total _ (left_ascends batch.clear kept.rows both.0)))) in
    let values = ascends-up text_cmp name_of nat_list_cmp_total _ (up_withs text_cmp name_of nat_list_cmp_total batch.values _ (up text_cmp name_of nat_list_cmp_total kept.values both.1)) in
    ap is_in_order (batched-parts batch kept) ∙ ap₂ ◌&&◌ rows values
