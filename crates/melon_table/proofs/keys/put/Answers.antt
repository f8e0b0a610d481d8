use Rattle.std.proofs.Common.{List, length, sym, ap, subst, ◌∙◌}
use Rattle.melon_table.specs.declared.keys.Late.{Late}
use Rattle.melon_table.specs.Late.{joined, AreLate, IsCut}
use Rattle.melon_table.proofs.Joined.{put_keys, put_late}
use Rattle.melon_table.proofs.keys.put.Goals as goal

pub returns-clause-keys : goal.returns-clause-keys
returns-clause-keys c =
    let i = c.late_before-before.result in
    let cut = subst (λ (l : List Late). IsCut c.args.place l i) c.as_slice.ensures.value c.late_before-before.ensures.cut in
    ap (joined 0 c.args.settled.now.items) c.insert_reserved.ensures.items
    ∙ put_keys c.args.settled.now.items c.args.late.now.items c.args.place i c.requires.late cut c.late_before-before.ensures.few c.args.key c.requires.within

pub returns-clause-late : goal.returns-clause-late
returns-clause-late c =
    let i = c.late_before-before.result in
    let cut = subst (λ (l : List Late). IsCut c.args.place l i) c.as_slice.ensures.value c.late_before-before.ensures.cut in
    subst (λ (l : List Late). AreLate 0 (length c.args.settled.now.items) l) (sym c.insert_reserved.ensures.items)
    (put_late c.args.settled.now.items c.args.late.now.items c.args.place i c.requires.late cut c.late_before-before.ensures.few c.args.key c.requires.within)
