use Rattle.std.proofs.Common.{◌≡◌, ℕ, List, false, sym, ap, ◌∙◌}
use Rattle.std.specs.List.{list_any}
use Rattle.melon_raw.specs.Rows.{has}
use Rattle.melon_query.specs.Simple.{tables_of}
use Rattle.melon_change.specs.declared.change.Change.{Change}
use Rattle.melon_change.specs.declared.history.Entry.{Entry}
use Rattle.melon_views.specs.Members.{touches}
use Rattle.melon_views.specs.Standing.{Observed}
use Rattle.melon_observe.proofs.Between.{fails_more}
use Rattle.melon_observe.proofs.reloading.Reloading.is_touched.Goals as goal

pub loop-place-preserved : goal.loop-place-preserved
unfolding touches
loop-place-preserved g c =
    let o = c.args.self.now in
    let e = c.entry-entry.result.now in
    let reads = c.as_slice.ensures ∙ (c.self.invariant.reads ∙ ap (λ (x : Observed). tables_of x.query) c.self.view_is) in
    let miss : touches o.query e.set ≡ false =
    sym (
    c.if-touches.ensures
    ∙ (ap (λ (places : List ℕ). list_any (λ (d : Change). has d.table places) c.as_slice-in-loop-place.result.now) reads
    ∙ ap (list_any (λ (d : Change). has d.table (tables_of o.query))) c.as_slice-in-loop-place.ensures)
    ) in
    fails_more (λ (x : Entry). touches o.query x.set) c.args.board.now.entries o.at c.loop-place.place e c.entry-entry.ensures.entry miss c.loop-place.invariant
