-- A query that was read is well formed.
use Rattle.std.proofs.Common.{◌≡◌, ℕ, List, [], ◌∷◌, ◌++◌, length, Bool, true, false, not, ◌&&◌, ◌||◌, ◌==◌, nat_lt, Option, Some, None, is_some, is_none, option_map, unwrap_or, Result, Ok, Err, refl, sym, ap, subst, ◌∙◌}
use Rattle.std.specs.Prelude.{⊤, IfOk}
use Rattle.std.specs.List.{AllByRecursion, list_all}
use Rattle.std.proofs.lemmas.Bool.{eqb-true, eq-eqb}
use Rattle.melon_schema.specs.Faults.{◌>>=◌, unless, or_fault, in_turn, each_read, Gives}
use Rattle.melon_schema.specs.Places.{table_named, declared_table}
use Rattle.melon_schema.specs.declared.schema.ColumnSchema.{ColumnSchema}
use Rattle.melon_schema.specs.declared.schema.TableSchema.{TableSchema}
use Rattle.melon_raw.specs.Rows.{table_at}
use Rattle.melon_query.specs.declared.query.Join.{Join}
use Rattle.melon_query.specs.declared.query.Join.TheVariants.{OwnKey, TheirKey}
use Rattle.melon_query.specs.declared.query.Joined.{Joined}
use Rattle.melon_query.specs.declared.query.Col.{Col}
use Rattle.melon_query.specs.declared.query.Cond.{Cond}
use Rattle.melon_query.specs.declared.query.SortKey.{SortKey}
use Rattle.melon_query.specs.declared.query.Query.{Query}
use Rattle.melon_query.specs.declared.query_fault.QueryFault.{QueryFault}
use Rattle.melon_query.specs.declared.query_fault.QueryFault.TheVariants.{UnknownTable, UnknownColumn, SkipWithoutTake, Memory}
use Rattle.melon_query.specs.declared.cond_form.CondForm.{CondForm}
use Rattle.melon_query.specs.declared.query_form.SortForm.{SortForm}
use Rattle.melon_query.specs.declared.query_form.QueryForm.{QueryForm}
use Rattle.melon_query.specs.declared.resolve.Reach.TheVariants.{Top}
use Rattle.melon_query.specs.Fresh.{all_ons}
use Rattle.melon_query.specs.Reading.{Names, col_named, cond_in, conds_in, joins_named, sort_key, query_in}
use Rattle.melon_query.specs.Sound.{is_column, is_same_join, agree, all_agree, all_sound, is_well_formed}
use Rattle.melon_query.proofs.Founds.{both, ok_same, bind_ok, unless_ok, or_fault_ok, mapped_some, table_found, all_push}
use Rattle.melon_query.proofs.Sounds.{column_declared}
use Rattle.melon_query.proofs.SoundReadings.{IsGood, HasItsJoin, join_at, all_are_sound, all_have_joins, cond_good}

-- ---- one association a table

same_join : (a b : Join) → a ≡ b → is_same_join a b ≡ true
same_join a b h = subst (λ (x : Join). is_same_join a x ≡ true) h (with_itself a)
  where
    with_itself : (x : Join) → is_same_join x x ≡ true
    with_itself (OwnKey place) = eq-eqb place place refl
    with_itself (TheirKey place) = eq-eqb place place refl

some_same : {A : Type 0} (o : Option A) (a b : A) → o ≡ Some a → o ≡ Some b → a ≡ b
some_same o a b h k = cc

agrees : (names : Names) (j k : Joined) → HasItsJoin names j → HasItsJoin names k → agree j k ≡ true
agrees names j k h l = by_table (j.table == k.table) (λ e. same_join j.join k.join (some_same (join_at names j.table) j.join k.join h (ap (join_at names) (eqb-true j.table k.table e) ∙ l))) refl
  where
    by_table : (b : Bool) → (j.table == k.table ≡ true → is_same_join j.join k.join ≡ true) → j.table == k.table ≡ b → not b || is_same_join j.join k.join ≡ true
    by_table true here e = here e
    by_table false here e = refl

all_agree_with : (names : Names) (j : Joined) (js : List Joined) → HasItsJoin names j → AllByRecursion (HasItsJoin names) js → list_all (agree j) js ≡ true
all_agree_with names j [] h k = refl
all_agree_with names j (i ∷ js) h k = both (agree j i) (list_all (agree j) js) (agrees names j i h k.0) (all_agree_with names j js h k.1)

all_agree_from : (names : Names) (js : List Joined) → AllByRecursion (HasItsJoin names) js → all_agree js ≡ true
all_agree_from names [] h = refl
all_agree_from names (j ∷ js) h = both (list_all (agree j) js) (all_agree js) (all_agree_with names j js h.0 h.1) (all_agree_from names js h.1)

-- ---- what was read one after another

abbrev adding : {X Y : Type 0} → (X → Result Y QueryFault) → List Y → X → Result (List Y) QueryFault
adding read made x = read x >>= λ y. Ok (made ++ y ∷ [])

each_good : {X Y : Type 0} (read : X → Result Y QueryFault) (P : Y → Type 0) → ((x : X) (y : Y) → read x ≡ Ok y → P y) → (xs : List X) (made ys : List Y) → AllByRecursion P made → in_turn (adding read) made xs ≡ Ok ys → AllByRecursion P ys
each_good read P gives [] made ys good h = subst (λ zs. AllByRecursion P zs) (ok_same QueryFault made ys h) good
each_good read P gives (x ∷ xs) made ys good h =
    let a = bind_ok (adding read made x) (λ more. in_turn (adding read) more xs) ys h in
    let b = bind_ok (read x) (λ y. Ok (made ++ y ∷ [])) a.0 a.1 in
    each_good read P gives xs a.0 ys (subst (λ zs. AllByRecursion P zs) (ok_same QueryFault (made ++ b.0 ∷ []) a.0 b.2) (all_push P made b.0 good (gives x b.0 b.1))) a.2

abbrev IsSorted : List ColumnSchema → SortKey → Type 0
IsSorted columns key = is_column columns key.column ≡ true

key_sound : (columns : List ColumnSchema) (form : SortForm) (key : SortKey) → sort_key columns form ≡ Ok key → IsSorted columns key
key_sound columns form key h =
    let build : Col → SortKey = λ column. record { column = column; descending = form.descending } in
    let found = mapped_some build (col_named form.column columns) key (or_fault_ok (option_map build (col_named form.column columns)) UnknownColumn key h) in
    subst (λ (k : SortKey). is_column columns k.column ≡ true) found.2 (column_declared form.column columns found.0 found.1)

keys_sound : (columns : List ColumnSchema) (keys : List SortKey) → AllByRecursion (IsSorted columns) keys → list_all (λ key. is_column columns key.column) keys ≡ true
keys_sound columns [] h = refl
keys_sound columns (key ∷ keys) h = both (is_column columns key.column) _ h.0 (keys_sound columns keys h.1)

skip_sound : (skip most : Option ℕ) → is_none skip || is_some most ≡ true → is_some most || (unwrap_or skip 0 == 0) ≡ true
skip_sound None None h = refl
skip_sound None (Some n) h = refl
skip_sound (Some s) None h = cc
skip_sound (Some s) (Some n) h = refl

conds_good : (names : Names) (columns : List ColumnSchema) (forms : List CondForm) (cs : List Cond) → conds_in names forms columns Top ≡ Ok cs → AllByRecursion (IsGood names columns true) cs
unfolding conds_in
conds_good names columns forms cs h = each_good (λ form. cond_in names form columns Top) (IsGood names columns true) (λ form c. cond_good names form columns Top c) forms [] cs tt h

-- ---- the whole

module _ (tables : List TableSchema) (table : List ℕ) (form : QueryForm) (q : Query) where
  abbrev names_with : TableSchema → Names
  names_with main = record { tables = tables; main = main; joins = form.joins }

  abbrev made : ℕ → List Cond → List SortKey → Query
  made place conds sort = record { table = place; conds = conds; sort = sort; take = form.take; skip = unwrap_or form.skip 0 }

  abbrev after_sort : ℕ → List Cond → List SortKey → Result Query QueryFault
  after_sort place conds sort = unless (is_none form.skip || is_some form.take) SkipWithoutTake >>= λ paged. Ok (made place conds sort)

  abbrev after_conds : ℕ → TableSchema → List Cond → Result Query QueryFault
  after_conds place main conds = each_read (sort_key main.columns) form.sort >>= λ sort. after_sort place conds sort

  abbrev after_joins : ℕ → TableSchema → Result Query QueryFault
  after_joins place main = conds_in (names_with main) form.conds main.columns Top >>= λ conds. after_conds place main conds

  abbrev after_main : ℕ → TableSchema → Result Query QueryFault
  after_main place main = joins_named tables main form.joins >>= λ joins. after_joins place main

  abbrev after_place : ℕ → Result Query QueryFault
  after_place place = or_fault (declared_table table tables) UnknownTable >>= λ main. after_main place main

  pub well_formed_in : query_in tables table form ≡ Ok q → is_well_formed tables q ≡ true
  unfolding query_in is_well_formed
  well_formed_in h =
      let a = bind_ok (or_fault (table_named table tables) UnknownTable) (λ place. after_place place) q h in
      let b = bind_ok (or_fault (declared_table table tables) UnknownTable) (λ main. after_main a.0 main) q a.2 in
      let c = bind_ok (joins_named tables b.0 form.joins) (λ joins. after_joins a.0 b.0) q b.2 in
      let d = bind_ok (conds_in (names_with b.0) form.conds b.0.columns Top) (λ conds. after_conds a.0 b.0 conds) q c.2 in
      let e = bind_ok (each_read (sort_key b.0.columns) form.sort) (λ sort. after_sort a.0 d.0 sort) q d.2 in
      let f = bind_ok (unless (is_none form.skip || is_some form.take) SkipWithoutTake) (λ paged. Ok (made a.0 d.0 e.0)) q e.2 in
      let found = table_found table tables a.0 b.0 (or_fault_ok (table_named table tables) UnknownTable a.0 a.1) (or_fault_ok (declared_table table tables) UnknownTable b.0 b.1) in
      let conds : AllByRecursion (IsGood (names_with b.0) b.0.columns true) d.0 = conds_good (names_with b.0) b.0.columns form.conds d.0 d.1 in
      let keys : AllByRecursion (IsSorted b.0.columns) e.0 = each_good (sort_key b.0.columns) (IsSorted b.0.columns) (key_sound b.0.columns) form.sort [] e.0 tt e.1 in
      let page : is_some form.take || (unwrap_or form.skip 0 == 0) ≡ true = skip_sound form.skip form.take (unless_ok (is_none form.skip || is_some form.take) SkipWithoutTake f.0 f.1) in
      subst (λ (x : Query). is_well_formed tables x ≡ true) (ok_same QueryFault (made a.0 d.0 e.0) q f.2)
      (subst (λ (t : TableSchema). nat_lt a.0 (length tables) && (all_sound tables t.columns d.0 t.columns true && (all_agree (all_ons d.0) && (list_all (λ key. is_column t.columns key.column) e.0 && (is_some form.take || (unwrap_or form.skip 0 == 0))))) ≡ true) found.1
      (both (nat_lt a.0 (length tables)) _ found.0
      (both (all_sound tables b.0.columns d.0 b.0.columns true) _ (all_are_sound (names_with b.0) b.0.columns true d.0 conds)
      (both (all_agree (all_ons d.0)) _ (all_agree_from (names_with b.0) (all_ons d.0) (all_have_joins (names_with b.0) b.0.columns true d.0 conds))
      (both (list_all (λ key. is_column b.0.columns key.column) e.0) _ (keys_sound b.0.columns e.0 keys) page)))))

pub given_sound : (tables : List TableSchema) (table : List ℕ) (form : QueryForm) (r : Result Query QueryFault) → Gives Memory r (query_in tables table form) → IfOk r (λ q. is_well_formed tables q ≡ true)
given_sound tables table form (Ok q) h = well_formed_in tables table form q h
given_sound tables table form (Err e) h = tt
