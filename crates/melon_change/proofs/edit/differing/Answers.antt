use Rattle.std.proofs.Common.{◌≡◌, ◌-◌, ◌+◌, ◌<◌, ℕ, List, length, true, Bool, cond, get_or, not, filter, sym, ap, ◌∙◌, subst, arith}
use Rattle.std.specs.List.{range_with_len}
use Rattle.std.proofs.lemmas.List.{get_or_read}
use Rattle.melon_raw.specs.declared.datum.Datum.{Datum}
use Rattle.melon_raw.specs.declared.datum.Datum.TheVariants.{Null}
use Rattle.melon_raw.specs.Datum.{datum_eq}
use Rattle.melon_change.specs.Edited.{by_name, put_column, differs}
use Rattle.melon_change.proofs.ByName.{by_name-front}
use Rattle.melon_change.proofs.edit.differing.Goals as goal

pub loop-c-preserved : goal.loop-c-preserved
loop-c-preserved c =
    let columns = c.args.columns.now in
    let before = c.args.before.now in
    let after = c.args.after.now in
    let n = length columns in
    let m = c.loop-c.c - 1 in
    let below : m < n = omega (arith, c.loop-c.auto.c, c.loop-c-test.true) in
    let next : m + 1 ≡ c.loop-c.c = omega (arith, c.loop-c-test.true) in
    let ours : c.index-before-c.result ≡ get_or before m Null = get_or_read before m c.index-before-c.result (omega (arith, below, c.requires.before)) c.index-before-c.is Null in
    let theirs : c.index-after-c.result ≡ get_or after m Null = get_or_read after m c.index-after-c.result (omega (arith, below, c.requires.after)) c.index-after-c.is Null in
    let rest = subst (λ (k : ℕ). c.loop-c.places.items ≡ by_name columns (filter (differs before after) (range_with_len k (n - k)))) (sym next) c.loop-c.invariant in
    c.in_ok-put_differing.ensures
    ∙ (ap (λ (d : Datum). cond (not (datum_eq d c.index-after-c.result)) (put_column columns m c.loop-c.places.items) c.loop-c.places.items) ours
    ∙ (ap (λ (d : Datum). cond (not (datum_eq (get_or before m Null) d)) (put_column columns m c.loop-c.places.items) c.loop-c.places.items) theirs
    ∙ (ap (λ (ps : List ℕ). cond (differs before after m) (put_column columns m ps) ps) rest
    ∙ sym (by_name-front columns (differs before after) n m below))))
