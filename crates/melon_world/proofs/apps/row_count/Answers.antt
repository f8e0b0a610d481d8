use Rattle.std.proofs.Common.{◌≡◌, ◌∙◌, ◌+◌, ◌-◌, ◌^◌, [], ap, arith, min, drop, length}
use Rattle.std.specs.Prelude.{sum_by, option_map}
use Rattle.std.proofs.lemmas.List.{length-map}
use Rattle.std.proofs.lemmas.Option.{slice_get-map}
use Rattle.melon_table.specs.Seen.{SeenTable, rows_of}
use Rattle.melon_machine.specs.Apps.{row_count}
use Rattle.melon_world.proofs.Dropped.{count_more, past_all}
use Rattle.melon_world.proofs.apps.row_count.Goals as goal

pub loop-place-preserved : goal.loop-place-preserved
loop-place-preserved c = (
  ap (λ n. min (n + sum_by length (drop (c.loop-place.place + 1) (rows_of c.args.tables.now))) (2 ^ 64 - 1))
      (c.saturating_add-count.ensures ∙ ap (λ n. min (c.loop-place.count + n) (2 ^ 64 - 1)) c.len.ensures.len)
      ∙ count_more (rows_of c.args.tables.now) c.loop-place.place c.loop-place.count (row_count (rows_of c.args.tables.now)) c.of.result.now.rows
      (slice_get-map (λ (t : SeenTable). t.rows) c.args.tables.now c.loop-place.place ∙ ap (option_map (λ (t : SeenTable). t.rows)) c.of.ensures)
      c.loop-place.invariant.0,
  omega (arith, c.saturating_add-count.ensures),
)

pub returns : goal.returns
returns c =
    let none : drop c.loop-place.place (rows_of c.args.tables.now) ≡ [] =
    past_all (rows_of c.args.tables.now) c.loop-place.place (omega (arith, c.loop-place-test.false, c.len-place-end.ensures, length-map c.args.tables.now (λ (t : SeenTable). t.rows))) in
    let sums : sum_by length (drop c.loop-place.place (rows_of c.args.tables.now)) ≡ 0 = ap (sum_by length) none in
    omega (arith, sums, c.loop-place.invariant.0, c.loop-place.invariant.1)
