-- Each condition that was read is sound, and its `on`s stand for associations of the main table.
use Rattle.std.proofs.Common.{◌≡◌, ℕ, List, [], ◌∷◌, ◌++◌, length, Bool, true, false, not, ◌&&◌, ◌||◌, ◌==◌, nat_lt, Option, Some, None, is_some, is_none, unwrap_or, Result, Ok, Err, map, refl, sym, ap, subst, ◌∙◌, true≢false}
use Rattle.std.specs.List.{AllByRecursion, list_all}
use Rattle.melon_schema.specs.Faults.{◌>>=◌, unless, or_fault, in_turn}
use Rattle.melon_schema.specs.Places.{table_named, declared_table}
use Rattle.melon_schema.specs.declared.schema.ColumnSchema.{ColumnSchema}
use Rattle.melon_schema.specs.declared.schema.TableSchema.{TableSchema}
use Rattle.melon_raw.specs.Rows.{table_at}
use Rattle.melon_query.specs.declared.query.Compare.{Compare}
use Rattle.melon_query.specs.declared.query.Join.{Join}
use Rattle.melon_query.specs.declared.query.Joined.{Joined}
use Rattle.melon_query.specs.declared.query.Cond.{Cond}
use Rattle.melon_query.specs.declared.query.Cond.TheVariants as cond
use Rattle.melon_query.specs.declared.query_fault.QueryFault.{QueryFault}
use Rattle.melon_query.specs.declared.query_fault.QueryFault.TheVariants.{Form, UnknownTable, NoAssociation, UndeclaredJoin}
use Rattle.melon_query.specs.declared.cond_form.CompareForm.{CompareForm}
use Rattle.melon_query.specs.declared.cond_form.CondForm.{CondForm, map-CondForm}
use Rattle.melon_query.specs.declared.cond_form.CondForm.TheOpen.{CondForm-F}
use Rattle.melon_query.specs.declared.cond_form.CondForm.TheFolds.{fold-roll-CondForm, ind-CondForm}
use Rattle.melon_query.specs.declared.resolve.Reach.{Reach}
use Rattle.melon_query.specs.declared.resolve.Reach.TheVariants.{Top, Below, Within}
use Rattle.melon_query.specs.Meaning.{ons}
use Rattle.melon_query.specs.Fresh.{all_ons}
use Rattle.melon_query.specs.Reading.{Names, is_within, may_stand, part_of, join_with, compare_in, compared, all_of, any_of, parts_read, on_by, cond_step, cond_in}
use Rattle.melon_query.specs.Sound.{is_sound, all_sound, is_join}
use Rattle.melon_query.proofs.Founds.{both, ok_same, bind_ok, unless_ok, or_fault_ok, table_found, all_push, all_append}
use Rattle.melon_query.proofs.Sounds.{comparison_sound, join_declared}
use Rattle.melon_query.proofs.SoundSteps.{is_sound-Compare, is_sound-All, is_sound-Any, is_sound-On}
use Rattle.melon_query.proofs.Ons.{ons-Compare, ons-All, ons-Any, ons-On}

abbrev Reader : Type 0
Reader = List ColumnSchema → Reach → Result Cond QueryFault

-- an `on` may stand here
abbrev pub may_of : Reach → Bool
may_of reach = not (is_within reach)

may_of-part : (reach : Reach) → may_of (part_of reach) ≡ may_of reach
may_of-part Top = refl
may_of-part Below = refl
may_of-part Within = refl

-- the association of the main table with the table at a place
abbrev pub join_at : Names → ℕ → Option Join
join_at names place = join_with names.main (table_at names.tables place) (table_at names.tables place).name

abbrev pub HasItsJoin : Names → Joined → Type 0
HasItsJoin names j = join_at names j.table ≡ Some j.join

pub record IsGood (names : Names) (columns : List ColumnSchema) (may : Bool) (c : Cond) : Type 0 where
  pub sound : is_sound names.tables names.main.columns c columns may ≡ true
  pub joins : AllByRecursion (HasItsJoin names) (ons c)

module _ (names : Names) where
  pub all_are_sound : (columns : List ColumnSchema) (may : Bool) (cs : List Cond) → AllByRecursion (IsGood names columns may) cs → all_sound names.tables names.main.columns cs columns may ≡ true
  all_are_sound columns may [] h = refl
  all_are_sound columns may (c ∷ cs) h = both (is_sound names.tables names.main.columns c columns may) _ h.0.sound (all_are_sound columns may cs h.1)

  pub all_have_joins : (columns : List ColumnSchema) (may : Bool) (cs : List Cond) → AllByRecursion (IsGood names columns may) cs → AllByRecursion (HasItsJoin names) (all_ons cs)
  all_have_joins columns may [] h = tt
  all_have_joins columns may (c ∷ cs) h = all_append (HasItsJoin names) (ons c) (all_ons cs) h.0.joins (all_have_joins columns may cs h.1)

  -- what a reader reads is good
  abbrev GivesGood : Reader → Type 0
  GivesGood read = (columns : List ColumnSchema) (reach : Reach) (c : Cond) → read columns reach ≡ Ok c → IsGood names columns (may_of reach) c

  abbrev Parts : Type 0
  Parts = List ((form : CondForm) × GivesGood (cond_in names form))

  abbrev readers : Parts → List Reader
  readers ps = map (cond_in names) (map (λ p. p.0) ps)

  parts_good : (columns : List ColumnSchema) (reach : Reach) (ps : Parts) (made cs : List Cond) → AllByRecursion (IsGood names columns (may_of reach)) made
      → in_turn (λ (made : List Cond) (part : Reader). part columns reach >>= λ c. Ok (made ++ c ∷ [])) made (readers ps) ≡ Ok cs → AllByRecursion (IsGood names columns (may_of reach)) cs
  parts_good columns reach [] made cs good h = subst (λ (x : List Cond). AllByRecursion (IsGood names columns (may_of reach)) x) (ok_same QueryFault made cs h) good
  parts_good columns reach (p ∷ ps) made cs good h =
      let a = bind_ok (cond_in names p.0 columns reach >>= λ c. Ok (made ++ c ∷ [])) (λ more. in_turn (λ (made : List Cond) (part : Reader). part columns reach >>= λ c. Ok (made ++ c ∷ [])) more (readers ps)) cs h in
      let b = bind_ok (cond_in names p.0 columns reach) (λ c. Ok (made ++ c ∷ [])) a.0 a.1 in
      parts_good columns reach ps a.0 cs
      (subst (λ (x : List Cond). AllByRecursion (IsGood names columns (may_of reach)) x) (ok_same QueryFault (made ++ b.0 ∷ []) a.0 b.2) (all_push (IsGood names columns (may_of reach)) made b.0 good (p.1 columns reach b.0 b.1)))
      a.2

  read_good : (columns : List ColumnSchema) (reach : Reach) (ps : Parts) (cs : List Cond) → parts_read (readers ps) columns reach ≡ Ok cs → AllByRecursion (IsGood names columns (may_of reach)) cs
  read_good columns reach ps cs h = parts_good columns reach ps [] cs tt h

  compare_good : (columns : List ColumnSchema) (may : Bool) (by : CompareForm) (c : Cond) → compared columns by ≡ Ok c → IsGood names columns may c
  compare_good columns may by c h =
      let a = bind_ok (compare_in columns by) (λ x. Ok (cond.Compare x)) c h in
      subst (λ (x : Cond). IsGood names columns may x) (ok_same QueryFault (cond.Compare a.0) c a.2)
      (record {
        sound = is_sound-Compare names.tables names.main.columns columns may a.0 ∙ comparison_sound columns by a.0 a.1;
        joins = subst (λ (js : List Joined). AllByRecursion (HasItsJoin names) js) (sym (ons-Compare a.0)) tt;
      })

  all_good : (columns : List ColumnSchema) (may : Bool) (cs : List Cond) → AllByRecursion (IsGood names columns may) cs → IsGood names columns may (cond.All cs)
  all_good columns may cs h = record {
    sound = is_sound-All names.tables names.main.columns columns may cs ∙ all_are_sound columns may cs h;
    joins = subst (λ (js : List Joined). AllByRecursion (HasItsJoin names) js) (sym (ons-All cs)) (all_have_joins columns may cs h);
  }

  any_good : (columns : List ColumnSchema) (may : Bool) (cs : List Cond) → AllByRecursion (IsGood names columns may) cs → IsGood names columns may (cond.Any cs)
  any_good columns may cs h = record {
    sound = is_sound-Any names.tables names.main.columns columns may cs ∙ all_are_sound columns may cs h;
    joins = subst (λ (js : List Joined). AllByRecursion (HasItsJoin names) js) (sym (ons-Any cs)) (all_have_joins columns may cs h);
  }

  parts_at : (columns : List ColumnSchema) (reach : Reach) (ps : Parts) (cs : List Cond) → parts_read (readers ps) columns (part_of reach) ≡ Ok cs → AllByRecursion (IsGood names columns (may_of reach)) cs
  parts_at columns reach ps cs h = subst (λ (may : Bool). AllByRecursion (IsGood names columns may) cs) (may_of-part reach) (read_good columns (part_of reach) ps cs h)

  abbrev after_join : Reach → List ℕ → Parts → ℕ → TableSchema → Join → Result Cond QueryFault
  after_join reach table ps place other join = unless (may_stand reach table names.joins) UndeclaredJoin >>= λ declared. parts_read (readers ps) other.columns Within >>= λ conds. Ok (cond.On place join conds)

  abbrev after_other : Reach → List ℕ → Parts → ℕ → TableSchema → Result Cond QueryFault
  after_other reach table ps place other = or_fault (join_with names.main other table) NoAssociation >>= λ join. after_join reach table ps place other join

  abbrev after_place : Reach → List ℕ → Parts → ℕ → Result Cond QueryFault
  after_place reach table ps place = or_fault (declared_table table names.tables) UnknownTable >>= λ other. after_other reach table ps place other

  abbrev after_outer : Reach → List ℕ → Parts → Result Cond QueryFault
  after_outer reach table ps = or_fault (table_named table names.tables) UnknownTable >>= λ place. after_place reach table ps place

  on_good : (columns : List ColumnSchema) (reach : Reach) (table : List ℕ) (ps : Parts) (c : Cond) → on_by names table reach (λ others. parts_read (readers ps) others Within) ≡ Ok c → IsGood names columns (may_of reach) c
  unfolding on_by
  on_good columns reach table ps c h =
      let a = bind_ok (unless (not (is_within reach)) Form) (λ outer. after_outer reach table ps) c h in
      let b = bind_ok (or_fault (table_named table names.tables) UnknownTable) (λ place. after_place reach table ps place) c a.2 in
      let d = bind_ok (or_fault (declared_table table names.tables) UnknownTable) (λ other. after_other reach table ps b.0 other) c b.2 in
      let e = bind_ok (or_fault (join_with names.main d.0 table) NoAssociation) (λ join. after_join reach table ps b.0 d.0 join) c d.2 in
      let f = bind_ok (unless (may_stand reach table names.joins) UndeclaredJoin) (λ declared. parts_read (readers ps) d.0.columns Within >>= λ conds. Ok (cond.On b.0 e.0 conds)) c e.2 in
      let g = bind_ok (parts_read (readers ps) d.0.columns Within) (λ conds. Ok (cond.On b.0 e.0 conds)) c f.2 in
      let found = table_found table names.tables b.0 d.0 (or_fault_ok (table_named table names.tables) UnknownTable b.0 b.1) (or_fault_ok (declared_table table names.tables) UnknownTable d.0 d.1) in
      let joined : join_with names.main d.0 table ≡ Some e.0 = or_fault_ok (join_with names.main d.0 table) NoAssociation e.0 e.1 in
      let parts : AllByRecursion (IsGood names d.0.columns false) g.0 = read_good d.0.columns Within ps g.0 g.1 in
      subst (λ (x : Cond). IsGood names columns (may_of reach) x) (ok_same QueryFault (cond.On b.0 e.0 g.0) c g.2)
      (record {
        sound =
            is_sound-On names.tables names.main.columns columns (may_of reach) b.0 e.0 g.0
            ∙ subst (λ (t : TableSchema). may_of reach && (nat_lt b.0 (length names.tables) && (is_join names.main.columns t.columns e.0 && all_sound names.tables names.main.columns g.0 t.columns false)) ≡ true) found.1
            (both (may_of reach) _ (unless_ok (not (is_within reach)) Form a.0 a.1)
            (both (nat_lt b.0 (length names.tables)) _ found.0
            (both (is_join names.main.columns d.0.columns e.0) _ (join_declared names.main d.0 table e.0 joined) (all_are_sound d.0.columns false g.0 parts))));
        joins = subst (λ (js : List Joined). AllByRecursion (HasItsJoin names) js) (sym (ons-On b.0 e.0 g.0)) (its_join names.main (table_at names.tables b.0) d.0 table e.0 found.1 found.2 joined, tt);
      })
    where
      its_join : (main there other : TableSchema) (table : List ℕ) (join : Join) → other ≡ there → other.name ≡ table → join_with main other table ≡ Some join → join_with main there there.name ≡ Some join
      its_join main there other table join is called h =
          subst (λ (t : TableSchema). join_with main t t.name ≡ Some join) is (ap (λ (n : List ℕ). join_with main other n) called ∙ h)

  good_step : (y : CondForm-F ((form : CondForm) × GivesGood (cond_in names form))) → GivesGood (cond_step names (map-CondForm CondForm Reader (cond_in names) (map-CondForm ((form : CondForm) × GivesGood (cond_in names form)) CondForm (λ e. e.0) y)))
  good_step (CondForm-F.Compare by) columns reach c h = compare_good columns (may_of reach) by c h
  good_step (CondForm-F.All ps) columns reach c h =
      let a = bind_ok (parts_read (readers ps) columns (part_of reach)) (λ cs. Ok (cond.All cs)) c h in
      subst (λ (x : Cond). IsGood names columns (may_of reach) x) (ok_same QueryFault (cond.All a.0) c a.2) (all_good columns (may_of reach) a.0 (parts_at columns reach ps a.0 a.1))
  good_step (CondForm-F.Any ps) columns reach c h =
      let a = bind_ok (parts_read (readers ps) columns (part_of reach)) (λ cs. Ok (cond.Any cs)) c h in
      subst (λ (x : Cond). IsGood names columns (may_of reach) x) (ok_same QueryFault (cond.Any a.0) c a.2) (any_good columns (may_of reach) a.0 (parts_at columns reach ps a.0 a.1))
  good_step (CondForm-F.On table ps) columns reach c h = on_good columns reach table ps c h

  pub cond_good : (form : CondForm) → GivesGood (cond_in names form)
  cond_good = ind-CondForm (λ form. GivesGood (cond_in names form)) (λ x y is.
      subst (λ (r : Reader). GivesGood r) (sym (fold-roll-CondForm Reader (cond_step names) x))
      (subst (λ z. GivesGood (cond_step names z)) (ap (map-CondForm CondForm Reader (cond_in names)) is) (good_step y)))
