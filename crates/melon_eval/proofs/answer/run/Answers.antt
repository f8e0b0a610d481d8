use Rattle.std.proofs.Common.{List, ap, ◌∙◌}
use Rattle.std.proofs.lemmas.Result.{IfOk-weaker}
use Rattle.melon_raw.specs.declared.raw.Raw.{Raw}
use Rattle.melon_table.specs.Seen.{rows_of as all_rows}
use Rattle.melon_query.specs.declared.query.Cond.{Cond}
use Rattle.melon_query.specs.Fresh.{is_chosen}
use Rattle.melon_eval.specs.Pages.{page_of}
use Rattle.melon_eval.specs.Planned.{planned}
use Rattle.melon_eval.proofs.Answering.{none_answered, answered}
use Rattle.melon_eval.proofs.answer.run.Goals as goal

pub returns-in_default : goal.returns-in_default
returns-in_default g c = record { answer = c.new.ensures ∙ none_answered c.args.query.now (all_rows c.args.tables.now) c.in_default.ensures }

pub returns : goal.returns
returns g c =
    let q = c.args.query.now in
    let tables = all_rows c.args.tables.now in
    record {
      answer =
          IfOk-weaker c.ids_of.result _ _
          (λ ids is. is ∙ answered q tables (planned c.in_ok-plan.plan) c.in-Some.table.now.rows c.in_ok-rows.rows.items c.page.result.now
          (λ main. c.in_ok-plan.ensures main ∙ ap (λ (conds : List Cond). is_chosen conds tables main) c.as_slice.ensures)
          c.in-Some.ensures c.in_ok-rows.ensures (c.page.ensures ∙ ap (page_of q) c.as_slice-2.ensures.value))
          c.ids_of.ensures;
    }
