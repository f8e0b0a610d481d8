use Rattle.std.proofs.Common.{◌≡◌, ℕ, List, true, cond, length, bytes_eq, string_bytes, refl, ap, ◌∙◌, subst, sym}
use Rattle.std.specs.HashSet as bag
use Rattle.std.proofs.lemmas.Option.{slice_get_read}
use Rattle.std.proofs.lemmas.Map.Text.{hash_set_updates_text}
use Rattle.melon_change.specs.Named.{Ids}
use Rattle.melon_change.proofs.Naming.{named_also}
use Rattle.melon_change.proofs.named.name_record.Goals as goal

pub returns-clause-names : goal.returns-clause-names
returns-clause-names c =
    let sets = c.args.named.now.items in
    let here = slice_get_read sets (length sets) c.args.table c.index_mut.result.now refl c.requires c.index_mut.ensures.value in
    let text : string_bytes c.in_ok-text.text ≡ c.args.id.now = c.in_ok-text.ensures.ok ∙ c.as_str.ensures in
    let all = hash_set_updates_text (string_bytes c.in_ok-text.text) c.index_mut.result.now c.insert.new.self true c.in_ok-new.ensures.updates in
    named_also sets c.args.table c.index_mut.result.now c.insert.new.self c.args.id.now here
    (subst (λ (id : List ℕ). (cs : List ℕ) → bag.contains_text c.insert.new.self cs ≡ cond (bytes_eq id cs) true (bag.contains_text c.index_mut.result.now cs)) text all)
