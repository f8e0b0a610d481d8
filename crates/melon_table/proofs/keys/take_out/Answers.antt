use Rattle.std.proofs.Common.{◌≢◌, ◌-◌, ◌<◌, ℕ, Some, List, length, get_or, refl, sym, ap, subst, ◌∙◌, arith}
use Rattle.std.specs.List.{remove}
use Rattle.std.proofs.lemmas.Option.{slice_get_read}
use Rattle.melon_table.specs.declared.keys.Late.{Late}
use Rattle.melon_table.specs.Late.{joined, AreLate, IsCut}
use Rattle.melon_table.proofs.Joined.{no_late, key_late, key_settled, settled_within, take_late, take_keys, take_late_less, late-remove, late_read}
use Rattle.melon_table.proofs.keys.take_out.Goals.{else-before-len-via-then-before-len+else-index-place, else-before-len-via-else-before-len}
use Rattle.melon_table.proofs.keys.take_out.Goals as goal

pub returns-then-index-place-clause-was : goal.returns-then-index-place-clause-was
returns-then-index-place-clause-was c =
    let late = c.args.late.now.items in
    let i = c.late_before-before.result in
    let cut = subst (λ (l : List Late). IsCut c.args.place l i) c.as_slice.ensures.value c.late_before-before.ensures.cut in
    let within : i < length late = omega (arith, c.if-before-len.true, c.len.ensures, c.args.late.now.ok.0) in
    key_late c.args.settled.now.items late c.args.place i c.requires.late cut c.late_before-before.ensures.few within (ap (λ (x : Late). x.behind) (late_read late i c.index.result.now within c.index.ensures) ∙ c.if-index-place.true)
    ∙ ap (λ (x : Late). Some x.key) (late_read late i c.remove.result within c.remove.ensures.value)

pub returns-then-index-place-clause-keys : goal.returns-then-index-place-clause-keys
returns-then-index-place-clause-keys c =
    let late = c.args.late.now.items in
    let i = c.late_before-before.result in
    let cut = subst (λ (l : List Late). IsCut c.args.place l i) c.as_slice.ensures.value c.late_before-before.ensures.cut in
    let within : i < length late = omega (arith, c.if-before-len.true, c.len.ensures, c.args.late.now.ok.0) in
    ap (joined 0 c.args.settled.now.items) c.remove.ensures.items
    ∙ take_late c.args.settled.now.items late c.args.place i c.requires.late cut c.late_before-before.ensures.few within (ap (λ (x : Late). x.behind) (late_read late i c.index.result.now within c.index.ensures) ∙ c.if-index-place.true)

pub returns-then-index-place-clause-late : goal.returns-then-index-place-clause-late
returns-then-index-place-clause-late c =
    let high = length c.args.settled.now.items in
    subst (λ (l : List Late). AreLate 0 high l) (sym c.remove.ensures.items) (late-remove high 0 c.args.late.now.items c.late_before-before.result c.requires.late)

pub remove-requires-2 : goal.remove-requires-2
remove-requires-2 c =
    let late = c.args.late.now.items in
    let i = c.late_before-before.result in
    let cut = subst (λ (l : List Late). IsCut c.args.place l i) c.as_slice.ensures.value c.late_before-before.ensures.cut in
    let off : i < length late → (get_or late i no_late).behind ≢ c.args.place - i = elim c.else-before-len.branch [
      | else-before-len-via-then-before-len+else-index-place w ↦ λ within here. w.if-index-place.false (ap (λ (x : Late). x.behind) (sym (late_read late i w.index.result.now within w.index.ensures)) ∙ here)
      | else-before-len-via-else-before-len w ↦ λ within. absurd (omega (arith, within, w.if-before-len.false, c.len.ensures, c.args.late.now.ok.0))
    ] in
    let there = settled_within c.args.settled.now.items late c.args.place i c.requires.late cut c.late_before-before.ensures.few off c.requires.within in
    omega (arith, there, c.args.settled.now.ok.0)

pub returns-clause-was : goal.returns-clause-was
returns-clause-was c =
    let late = c.args.late.now.items in
    let i = c.late_before-before.result in
    let cut = subst (λ (l : List Late). IsCut c.args.place l i) c.as_slice.ensures.value c.late_before-before.ensures.cut in
    let off : i < length late → (get_or late i no_late).behind ≢ c.args.place - i = elim c.else-before-len.branch [
      | else-before-len-via-then-before-len+else-index-place w ↦ λ within here. w.if-index-place.false (ap (λ (x : Late). x.behind) (sym (late_read late i w.index.result.now within w.index.ensures)) ∙ here)
      | else-before-len-via-else-before-len w ↦ λ within. absurd (omega (arith, within, w.if-before-len.false, c.len.ensures, c.args.late.now.ok.0))
    ] in
    let settled = c.args.settled.now.items in
    key_settled settled late c.args.place i c.requires.late cut c.late_before-before.ensures.few off
    ∙ slice_get_read settled (length settled) (c.args.place - i) c.remove-2.result refl (settled_within settled late c.args.place i c.requires.late cut c.late_before-before.ensures.few off c.requires.within) c.remove-2.ensures.value

pub returns-clause-keys : goal.returns-clause-keys
returns-clause-keys c =
    let late = c.args.late.now.items in
    let i = c.late_before-before.result in
    let cut = subst (λ (l : List Late). IsCut c.args.place l i) c.as_slice.ensures.value c.late_before-before.ensures.cut in
    let off : i < length late → (get_or late i no_late).behind ≢ c.args.place - i = elim c.else-before-len.branch [
      | else-before-len-via-then-before-len+else-index-place w ↦ λ within here. w.if-index-place.false (ap (λ (x : Late). x.behind) (sym (late_read late i w.index.result.now within w.index.ensures)) ∙ here)
      | else-before-len-via-else-before-len w ↦ λ within. absurd (omega (arith, within, w.if-before-len.false, c.len.ensures, c.args.late.now.ok.0))
    ] in
    ap (λ (s : List ℕ). joined 0 s c.count_less.new.late.items) c.remove-2.ensures.items
    ∙ (ap (joined 0 (remove c.args.settled.now.items (c.args.place - i))) c.count_less.ensures.items
    ∙ take_keys c.args.settled.now.items late c.args.place i c.requires.late cut c.late_before-before.ensures.few off c.requires.within)

pub returns-clause-late : goal.returns-clause-late
returns-clause-late c =
    let late = c.args.late.now.items in
    let i = c.late_before-before.result in
    let cut = subst (λ (l : List Late). IsCut c.args.place l i) c.as_slice.ensures.value c.late_before-before.ensures.cut in
    let off : i < length late → (get_or late i no_late).behind ≢ c.args.place - i = elim c.else-before-len.branch [
      | else-before-len-via-then-before-len+else-index-place w ↦ λ within here. w.if-index-place.false (ap (λ (x : Late). x.behind) (sym (late_read late i w.index.result.now within w.index.ensures)) ∙ here)
      | else-before-len-via-else-before-len w ↦ λ within. absurd (omega (arith, within, w.if-before-len.false, c.len.ensures, c.args.late.now.ok.0))
    ] in
    subst (λ (s : List ℕ). AreLate 0 (length s) c.count_less.new.late.items) (sym c.remove-2.ensures.items)
    (subst (λ (l : List Late). AreLate 0 (length (remove c.args.settled.now.items (c.args.place - i))) l) (sym c.count_less.ensures.items)
    (take_late_less c.args.settled.now.items late c.args.place i c.requires.late cut c.late_before-before.ensures.few off c.requires.within))
