use Rattle.std.proofs.Common.{◌≡◌, List, ℕ, ap, ap₂, sym, ◌∙◌}
use Rattle.melon_outside.specs.declared.kept.Kept.{Kept}
use Rattle.melon_outside.specs.declared.kept.KeptStore.{KeptStore}
use Rattle.melon_outside.specs.declared.kept.KeptRow.{KeptRow}
use Rattle.melon_outside.specs.declared.kept.KeptValue.{KeptValue}
use Rattle.melon_outside.specs.Ascending.{with_items, ascends}
use Rattle.melon_outside.specs.Kept.{key_cmp, key_of, name_of, text_cmp}
use Rattle.melon_outside.specs.Shelved.{shown}
use Rattle.melon_outside.proofs.Order.{and_true, with_items-nil}
use Rattle.melon_outside.proofs.Places.{key_total}
use Rattle.melon_outside.proofs.shelf.shelf_of.Goals as goal

made : (name : List ℕ) (rows : List KeptRow) (values : List KeptValue) (store : KeptStore) → name ≡ store.name → rows ≡ store.kept.rows → values ≡ store.kept.values
    → record { name = name; kept = record { rows = rows; values = values } } ≡ store
made name rows values store n r v =
    ap₂ (λ (m : List ℕ) (k : Kept). let s : KeptStore = record { name = m; kept = k } in s) n (ap₂ (λ (a : List KeptRow) (b : List KeptValue). let k : Kept = record { rows = a; values = b } in k) r v)

pub returns : goal.returns
returns c =
    let store = c.args.store.now in
    let both = and_true (ascends key_cmp key_of store.kept.rows) (ascends text_cmp name_of store.kept.values) c.requires in
    let rows : shown c.change.new.places.entries ≡ store.kept.rows =
    rw (c.as_slice.ensures) at c.in_ok-change.ensures.ok
    ∙ ap (λ es. with_items key_cmp key_of store.kept.rows (shown es)) c.new-places.ensures.empty ∙ with_items-nil key_cmp key_of key_total store.kept.rows both.0 in
    made c.in_ok-copy.field-0 (shown c.change.new.places.entries) c.in_ok-copy-2.field-0 store c.in_ok-copy.ensures rows c.in_ok-copy-2.ensures
