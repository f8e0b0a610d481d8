-- Changes done one after another.
use Rattle.std.proofs.Common.{◌≡◌, ℕ, ◌+◌, ◌<◌, ◌≤◌, List, [], ◌∷◌, length, get_or, set, Bool, true, ◌&&◌, ◌==◌, Option, Some, None, refl, ap, sym, subst, ◌∙◌, arith, length-set}
use Rattle.std.proofs.lemmas.Bool.{eq-eqb}
use Rattle.melon_schema.specs.declared.schema.ColumnSchema.{ColumnSchema}
use Rattle.melon_raw.specs.declared.raw.Raw.{Raw}
use Rattle.melon_raw.specs.Rows.{Rows, at}
use Rattle.melon_table.specs.Seen.{SeenTable, rows_of, columns_of}
use Rattle.melon_change.specs.declared.change.Change.{Change}
use Rattle.melon_change.specs.Changes.{key, key_of, change_of, with_after, after_change, after_set}
use Rattle.melon_change.specs.History.{KeepsId}
use Rattle.melon_board.specs.Boards.{afters, is_new, makes_row, spare_at, one_if, used_in, rows_made, HasRoom, IsNow, AreNow}
use Rattle.melon_board.proofs.Keyed.{none_step, at-after_change_other}

-- what is to be done stays of the rows now
pub after_now : (columns : List (List ColumnSchema)) (rows : Rows) (c : Change) (cs : List Change) → KeepsId c.id c.after → change_of (key_of c) cs ≡ None → AreNow columns rows cs → AreNow columns (after_change rows c) cs
after_now columns rows c [] keeps apart now = tt
after_now columns rows c (d ∷ ds) keeps apart now =
    let one = none_step (key_of c) d ds apart in (
      record {
        within = subst (λ (n : ℕ). d.table < n) (sym (length-set rows c.table (with_after c.id c.after (get_or rows c.table [])))) now.0.within;
        before_is = now.0.before_is ∙ sym (at-after_change_other rows c (key_of d) keeps one.0);
        keeps_id = now.0.keeps_id;
        fits = now.0.fits;
      },
      now.1,
      after_now columns rows c ds keeps one.1 now.2,
    )

-- How far the changes are done.
pub record Applying (start : List SeenTable) (all : List Change) (tables : List SeenTable) (left : List Change) (rows : List (Option Raw)) : Type 0 where
  pub copied : rows ≡ afters left
  pub room : HasRoom tables left
  pub now : AreNow (columns_of tables) (rows_of tables) left
  pub done : after_set (rows_of tables) left ≡ after_set (rows_of start) all
  pub columns : columns_of tables ≡ columns_of start

module _ (start : List SeenTable) (all : List Change) (tables new : List SeenTable) (c : Change) (cs : List Change) (r : Option Raw) (rs : List (Option Raw)) (so_far : Applying start all tables (c ∷ cs) (r ∷ rs)) where
  pub row_is : r ≡ c.after
  row_is = let e : r ∷ rs ≡ c.after ∷ afters cs = so_far.copied in cc

  rest_is : rs ≡ afters cs
  rest_is = let e : r ∷ rs ≡ c.after ∷ afters cs = so_far.copied in cc

  -- the row after makes a record where the change does
  pub makes_is : is_new (at (rows_of tables) (key c.table c.id)) r ≡ makes_row c
  makes_is = ap (λ (o : Option Raw). is_new o r) (sym so_far.now.0.before_is) ∙ ap (is_new c.before) row_is

  pub room_here : is_new (at (rows_of tables) (key c.table c.id)) r ≡ true → 0 < spare_at tables c.table
  room_here new =
      let makes : makes_row c ≡ true = sym makes_is ∙ new in
      let used : used_in c.table c.table (makes_row c) ≡ 1 = ap (λ (b : Bool). one_if (b && (c.table == c.table))) makes ∙ ap one_if (eq-eqb c.table c.table refl) in
      omega (arith, used, so_far.room c.table)

  pub applied_more : rows_of new ≡ set (rows_of tables) c.table (with_after c.id r (get_or (rows_of tables) c.table [])) → columns_of new ≡ columns_of tables
      → ((u : ℕ) → spare_at tables u ≤ spare_at new u + used_in u c.table (is_new (at (rows_of tables) (key c.table c.id)) r)) → Applying start all new cs rs
  applied_more rows_is columns_is less =
      let rows' : rows_of new ≡ after_change (rows_of tables) c = rows_is ∙ ap (λ (a : Option Raw). set (rows_of tables) c.table (with_after c.id a (get_or (rows_of tables) c.table []))) row_is in
      let later : AreNow (columns_of tables) (after_change (rows_of tables) c) cs = after_now (columns_of tables) (rows_of tables) c cs so_far.now.0.keeps_id so_far.now.1 so_far.now.2 in
      record {
        copied = rest_is;
        room = λ u. let same = ap (λ (b : Bool). used_in u c.table b) makes_is in omega (arith, less u, so_far.room u, same);
        now =
            subst (λ (k : List (List ColumnSchema)). AreNow k (rows_of new) cs) (sym columns_is)
            (subst (λ (q : Rows). AreNow (columns_of tables) q cs) (sym rows') later);
        done = ap (λ (q : Rows). after_set q cs) rows' ∙ so_far.done;
        columns = columns_is ∙ so_far.columns;
      }

pub applied_all : (start : List SeenTable) (all : List Change) (tables : List SeenTable) (left : List Change) → Applying start all tables left [] → rows_of tables ≡ after_set (rows_of start) all
applied_all start all tables [] so_far = so_far.done
applied_all start all tables (c ∷ cs) so_far = let e : [] ≡ c.after ∷ afters cs = so_far.copied in cc

pub applied_short : (start : List SeenTable) (all : List Change) (tables : List SeenTable) (r : Option Raw) (rs : List (Option Raw)) → Applying start all tables [] (r ∷ rs) → ⊥
applied_short start all tables r rs so_far = let e : r ∷ rs ≡ [] = so_far.copied in cc
