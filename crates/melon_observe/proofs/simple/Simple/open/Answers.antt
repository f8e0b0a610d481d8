use Rattle.std.proofs.Common.{◌≡◌, ℕ, List, true, sym, ap, ◌∙◌, subst}
use Rattle.melon_raw.specs.Rows.{Rows}
use Rattle.melon_raw.specs.Rows as rows
use Rattle.melon_table.specs.Seen.{SeenTable}
use Rattle.melon_table.specs.Seen as tables
use Rattle.melon_query.specs.Tuples.{rows_of}
use Rattle.melon_views.specs.Views.{shown}
use Rattle.melon_views.specs.Members.{columns_of, told}
use Rattle.melon_views.proofs.Chosen.{members, shown_told}
use Rattle.melon_observe.specs.Members.{is_ascending, have_cells}
use Rattle.melon_observe.proofs.Shows.{read_ascending, read_cells}
use Rattle.melon_observe.proofs.simple.Simple.open.Goals as goal

pub invariant_of-simple : goal.invariant_of-simple
invariant_of-simple c =
    let q = c.args.query in
    let s = c.args.shape in
    let now : Rows = tables.rows_of c.args.board.now.tables in
    let asc : rows.is_ascending (rows_of q.table now) ≡ true =
    subst (λ (ts : List SeenTable). rows.is_ascending (rows_of q.table (tables.rows_of ts)) ≡ true) c.tables.ensures c.members_of.ensures.ascending in
    let is : c.in_ok-members.members.items ≡ members q (columns_of s) now =
    c.in_ok-members.ensures.members
    ∙ (ap (λ (columns : List ℕ). members q columns (tables.rows_of c.tables.result.now)) c.columns_of.ensures ∙ ap (λ (ts : List SeenTable). members q (columns_of s) (tables.rows_of ts)) c.tables.ensures) in
    record {
      simple = c.requires;
      ascending = ap is_ascending is ∙ read_ascending q (columns_of s) now asc;
      cells = ap (have_cells s) is ∙ read_cells q s now;
    }

pub returns-clause-observer : goal.returns-clause-observer
returns-clause-observer c =
    let q = c.args.query in
    let s = c.args.shape in
    let now : Rows = tables.rows_of c.args.board.now.tables in
    let asc : rows.is_ascending (rows_of q.table now) ≡ true =
    subst (λ (ts : List SeenTable). rows.is_ascending (rows_of q.table (tables.rows_of ts)) ≡ true) c.tables.ensures c.members_of.ensures.ascending in
    let is : c.in_ok-members.members.items ≡ members q (columns_of s) now =
    c.in_ok-members.ensures.members
    ∙ (ap (λ (columns : List ℕ). members q columns (tables.rows_of c.tables.result.now)) c.columns_of.ensures ∙ ap (λ (ts : List SeenTable). members q (columns_of s) (tables.rows_of ts)) c.tables.ensures) in
    let kept : told s c.in_ok-members.members.items ≡ shown q s now = ap (told s) is ∙ sym (shown_told q s now c.requires asc) in
    λ i. record { query = q; shape = s; at = c.len.ensures i; kept = kept i }

pub returns-clause-emission : goal.returns-clause-emission
returns-clause-emission c =
    let q = c.args.query in
    let s = c.args.shape in
    let now : Rows = tables.rows_of c.args.board.now.tables in
    let asc : rows.is_ascending (rows_of q.table now) ≡ true =
    subst (λ (ts : List SeenTable). rows.is_ascending (rows_of q.table (tables.rows_of ts)) ≡ true) c.tables.ensures c.members_of.ensures.ascending in
    let is : c.in_ok-members.members.items ≡ members q (columns_of s) now =
    c.in_ok-members.ensures.members
    ∙ (ap (λ (columns : List ℕ). members q columns (tables.rows_of c.tables.result.now)) c.columns_of.ensures ∙ ap (λ (ts : List SeenTable). members q (columns_of s) (tables.rows_of ts)) c.tables.ensures) in
    let copied : c.in_ok-copies_of.field-0.items ≡ members q (columns_of s) now = c.in_ok-copies_of.ensures.items ∙ (c.as_slice.ensures.value ∙ is) in
    c.in_ok-emission.ensures ∙ (ap (told s) copied ∙ sym (shown_told q s now c.requires asc))
