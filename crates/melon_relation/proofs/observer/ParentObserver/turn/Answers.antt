use Rattle.std.proofs.Common.{◌≡◌, List, length, sym, ap, ◌∙◌, subst}
use Rattle.melon_table.specs.Seen.{SeenTable, rows_of}
use Rattle.melon_views.specs.declared.parent.Parent.{Parent}
use Rattle.melon_relation.specs.declared.relation.Relation.{Relation}
use Rattle.melon_relation.specs.Relations.{parent_in}
use Rattle.melon_relation.specs.Watching.{Watched, Watches, watch_moved}
use Rattle.melon_relation.proofs.Compared.{not_changed, changed_to}
use Rattle.melon_relation.proofs.Histories.{opened_on_board}
use Rattle.melon_relation.proofs.observer.ParentObserver.turn.Goals as goal

pub returns-in_default-clause-moved : goal.returns-in_default-clause-moved
returns-in_default-clause-moved c =
    let w = c.args.self.now in
    let tables = c.tables.result.now in
    let relation = ap (λ (x : Watched). x.relation) c.self.view_is in
    let same = not_changed c.self.inside.kept (parent_in c.self.inside.relation (rows_of tables)) (sym c.in_ok-changed.ensures ∙ c.in_default.is) in
    let kept : c.self.inside.kept ≡ parent_in w.relation (rows_of c.args.board.now.tables) =
    sym same ∙ (ap (λ (r : Relation). parent_in r (rows_of tables)) relation ∙ ap (λ (ts : List SeenTable). parent_in w.relation (rows_of ts)) c.tables.ensures) in
    λ i. record { relation = relation i; at = c.len-end.ensures i; kept = kept i }

pub returns-in_default-clause-stands : goal.returns-in_default-clause-stands
returns-in_default-clause-stands c = λ h journal stand.
    let w = c.args.self.now in
    let tables = c.tables.result.now in
    let relation = ap (λ (x : Watched). x.relation) c.self.view_is in
    let same = not_changed c.self.inside.kept (parent_in c.self.inside.relation (rows_of tables)) (sym c.in_ok-changed.ensures ∙ c.in_default.is) in
    let kept : c.self.inside.kept ≡ parent_in w.relation (rows_of c.args.board.now.tables) =
    sym same ∙ (ap (λ (r : Relation). parent_in r (rows_of tables)) relation ∙ ap (λ (ts : List SeenTable). parent_in w.relation (rows_of ts)) c.tables.ensures) in
    let there : watch_moved (length c.args.board.now.entries) (rows_of c.args.board.now.tables) w ≡ record { relation = c.self.inside.relation; at = c.len-end.result; kept = c.self.inside.kept } =
    λ i. record { relation = (sym relation) i; at = (sym c.len-end.ensures) i; kept = (sym kept) i } in
    subst (λ (x : Watched). Watches h x) there (opened_on_board h c.args.board.now journal w.relation)

pub returns-clause-moved : goal.returns-clause-moved
returns-clause-moved c =
    let w = c.args.self.now in
    let tables = c.tables.result.now in
    let relation = ap (λ (x : Watched). x.relation) c.self.view_is in
    let given = changed_to c.self.inside.kept (parent_in c.self.inside.relation (rows_of tables)) c.in-Some.parent (sym c.in_ok-changed.ensures ∙ c.in-Some.is) in
    let kept : c.in_ok-kept.kept ≡ parent_in w.relation (rows_of c.args.board.now.tables) =
    c.in_ok-kept.ensures ∙ (given ∙ (ap (λ (r : Relation). parent_in r (rows_of tables)) relation ∙ ap (λ (ts : List SeenTable). parent_in w.relation (rows_of ts)) c.tables.ensures)) in
    λ i. record { relation = relation i; at = c.len-end.ensures i; kept = kept i }

pub returns-clause-stands : goal.returns-clause-stands
returns-clause-stands c = λ h journal stand.
    let w = c.args.self.now in
    let tables = c.tables.result.now in
    let relation = ap (λ (x : Watched). x.relation) c.self.view_is in
    let given = changed_to c.self.inside.kept (parent_in c.self.inside.relation (rows_of tables)) c.in-Some.parent (sym c.in_ok-changed.ensures ∙ c.in-Some.is) in
    let kept : c.in_ok-kept.kept ≡ parent_in w.relation (rows_of c.args.board.now.tables) =
    c.in_ok-kept.ensures ∙ (given ∙ (ap (λ (r : Relation). parent_in r (rows_of tables)) relation ∙ ap (λ (ts : List SeenTable). parent_in w.relation (rows_of ts)) c.tables.ensures)) in
    let there : watch_moved (length c.args.board.now.entries) (rows_of c.args.board.now.tables) w ≡ record { relation = c.self.inside.relation; at = c.len-end.result; kept = c.in_ok-kept.kept } =
    λ i. record { relation = (sym relation) i; at = (sym c.len-end.ensures) i; kept = (sym kept) i } in
    subst (λ (x : Watched). Watches h x) there (opened_on_board h c.args.board.now journal w.relation)
