use Rattle.std.proofs.Common.{◌≡◌, List, [], ◌∷◌, ◌++◌, Option, Some, None, refl, ap, sym, subst, ◌∙◌}
use Rattle.std.specs.Prelude.{IsSome}
use Rattle.melon_raw.specs.declared.raw.Raw.{Raw}
use Rattle.melon_table.specs.Seen.{rows_of, columns_of}
use Rattle.melon_change.specs.declared.change.Change.{Change}
use Rattle.melon_change.specs.declared.history.Entry.{Entry}
use Rattle.melon_change.specs.Changes.{after_set}
use Rattle.melon_board.specs.Boards.{SeenBoard, rewound, IsNext, AreNow}
use Rattle.melon_board.specs.Inside.{board_in}
use Rattle.melon_board.proofs.Rewound.{next_now, opening_same, history_more}
use Rattle.melon_board.proofs.board.Board.install.Goals as goal

pub apply-requires-clause-now : goal.apply-requires-clause-now
apply-requires-clause-now c =
    let tables = c.self.inside.tables in
    let next : IsNext (columns_of tables) (rows_of tables) c.args.entry = subst (λ (b : SeenBoard). IsNext (columns_of b.tables) (rows_of b.tables) c.args.entry) (sym c.self.view_is) c.requires.next in
    subst (λ (set : List Change). AreNow (columns_of tables) (rows_of tables) set) (sym c.as_slice.ensures) (next_now (columns_of tables) (rows_of tables) c.args.entry next)

pub returns-in-Some-clause-opening : goal.returns-in-Some-clause-opening
returns-in-Some-clause-opening c =
    let tables = c.self.inside.tables in
    let next : IsNext (columns_of tables) (rows_of tables) c.args.entry = subst (λ (b : SeenBoard). IsNext (columns_of b.tables) (rows_of b.tables) c.args.entry) (sym c.self.view_is) c.requires.next in
    let rows : rows_of c.apply.new.tables ≡ after_set (rows_of tables) c.args.entry.set = c.apply.ensures.rows ∙ ap (after_set (rows_of tables)) c.as_slice.ensures in
    ap (λ (es : List Entry). rewound (rows_of c.apply.new.tables) es) c.push_reserved.ensures
    ∙ (opening_same (columns_of tables) (rows_of tables) c.args.entry next c.self.inside.entries.items (rows_of c.apply.new.tables) rows
    ∙ ap (λ (b : SeenBoard). b.opening) c.self.view_is)

pub invariant_of-self : goal.invariant_of-self
invariant_of-self c =
    let tables = c.self.inside.tables in
    let next : IsNext (columns_of tables) (rows_of tables) c.args.entry = subst (λ (b : SeenBoard). IsNext (columns_of b.tables) (rows_of b.tables) c.args.entry) (sym c.self.view_is) c.requires.next in
    let rows : rows_of c.apply.new.tables ≡ after_set (rows_of tables) c.args.entry.set = c.apply.ensures.rows ∙ ap (after_set (rows_of tables)) c.as_slice.ensures in
    let opening : rewound (rows_of c.apply.new.tables) c.push_reserved.new.entries.items ≡ rewound (rows_of tables) c.self.inside.entries.items =
    ap (λ (es : List Entry). rewound (rows_of c.apply.new.tables) es) c.push_reserved.ensures
    ∙ opening_same (columns_of tables) (rows_of tables) c.args.entry next c.self.inside.entries.items (rows_of c.apply.new.tables) rows in
    record {
      history =
          history_more (board_in c.self.inside) (board_in (record { tables = c.apply.new.tables; entries = c.push_reserved.new.entries; ready = c.take.new.self })) c.args.entry c.self.invariant.history next
          opening rows c.apply.ensures.columns c.push_reserved.ensures;
      place = λ some. let no : IsSome {T = List (Option Raw)} None = subst (λ (o : Option (List (Option Raw))). IsSome o) c.take.ensures.after some in cc;
    }

pub returns-in-Some-clause-history : goal.returns-in-Some-clause-history
returns-in-Some-clause-history c = (invariant_of-self c).history
