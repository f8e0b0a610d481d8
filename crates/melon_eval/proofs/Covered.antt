-- Choices that meet no `on` that a kept choice of the same table doesn't meet may be left out of the product.
use Rattle.std.proofs.Common.{◌≡◌, ℕ, List, [], ◌∷◌, ◌++◌, Bool, true, false, ◌&&◌, ◌||◌, cond, Option, nat_eq, map, ap, sym, ◌∙◌, refl, inl, inr}
use Rattle.std.specs.List.{AllByRecursion, list_any, flat_map}
use Rattle.std.proofs.lemmas.Bool.{false≢true, eqb-true}
use Rattle.melon_raw.specs.declared.raw.Raw.{Raw}
use Rattle.melon_query.specs.Tuples.{Member, Tuple, member_of, with_each, choices, members_over}
use Rattle.melon_query.specs.Meaning.{holds, all_hold, every_of}
use Rattle.melon_query.specs.declared.query.Cond.{Cond}
use Rattle.melon_query.specs.declared.query.Joined.{Joined}
use Rattle.melon_eval.specs.Asking.{Asked, read, asks_of}
use Rattle.melon_eval.proofs.Covers.{product, IsBelow, SomeByRecursion, IsCovered}
use Rattle.melon_eval.proofs.Monotone.{MeetsMore, read_monotone, truth_is, front, back}

-- lists
or_assoc : (a b c : Bool) → (a || b) || c ≡ a || (b || c)
or_assoc true b c = refl
or_assoc false b c = refl

or_true : (a : Bool) → a || true ≡ true
or_true true = refl
or_true false = refl

pub any-append : {X : Type 0} (f : X → Bool) (xs ys : List X) → list_any f (xs ++ ys) ≡ list_any f xs || list_any f ys
any-append f [] ys = refl
any-append f (x ∷ xs) ys = ap (λ b. f x || b) (any-append f xs ys) ∙ sym (or_assoc (f x) (list_any f xs) (list_any f ys))

pub any-map : {X Y : Type 0} (f : Y → Bool) (g : X → Y) (xs : List X) → list_any f (map g xs) ≡ list_any (λ x. f (g x)) xs
any-map f g [] = refl
any-map f g (x ∷ xs) = ap (λ b. f (g x) || b) (any-map f g xs)

pub any-flat_map : {X Y : Type 0} (f : Y → Bool) (g : X → List Y) (xs : List X) → list_any f (flat_map g xs) ≡ list_any (λ x. list_any f (g x)) xs
any-flat_map f g [] = refl
any-flat_map f g (x ∷ xs) = any-append f (g x) (flat_map g xs) ∙ ap (λ b. list_any f (g x) || b) (any-flat_map f g xs)

pub any-same : {X : Type 0} (f g : X → Bool) → ((x : X) → f x ≡ g x) → (xs : List X) → list_any f xs ≡ list_any g xs
any-same f g e [] = refl
any-same f g e (x ∷ xs) = ap (λ b. b || list_any f xs) (e x) ∙ ap (λ b. g x || b) (any-same f g e xs)

either : (a b : Bool) {G : Type 0} → a || b ≡ true → (a ≡ true → G) → (b ≡ true → G) → G
either true b e f g = f refl
either false b e f g = g e

any-more : {X : Type 0} (f g : X → Bool) → ((x : X) → f x ≡ true → g x ≡ true) → (xs : List X) → list_any f xs ≡ true → list_any g xs ≡ true
any-more f g more [] e = e
any-more f g more (x ∷ xs) e = either (f x) (list_any f xs) e (λ h. ap (λ b. b || list_any g xs) (more x h)) (λ h. ap (λ b. g x || b) (any-more f g more xs h) ∙ or_true (g x))

any_of_some : {X : Type 0} (P : X → Type 0) (f : X → Bool) → ((x : X) → P x → f x ≡ true) → (xs : List X) → SomeByRecursion P xs → list_any f xs ≡ true
any_of_some P f h [] s = absurd s
any_of_some P f h (x ∷ xs) (inl p) = ap (λ b. b || list_any f xs) (h x p)
any_of_some P f h (x ∷ xs) (inr s) = ap (λ b. f x || b) (any_of_some P f h xs s) ∙ or_true (f x)

-- each member is met by at least as much
abbrev AreBelow : List Asked → List Member → List Member → Type 0
AreBelow asks [] [] = Unit {0}
AreBelow asks [] (n ∷ ns) = ⊥
AreBelow asks (m ∷ ms) [] = ⊥
AreBelow asks (m ∷ ms) (n ∷ ns) = (m.table ≡ n.table) × IsBelow asks m.table m.row n.row × AreBelow asks ms ns

below_itself : (asks : List Asked) (table : ℕ) (row : Option Raw) → IsBelow asks table row row
below_itself [] table row = tt
below_itself (a ∷ rest) table row = ((λ same met. met), below_itself rest table row)

all_itself : (asks : List Asked) (ms : List Member) → AreBelow asks ms ms
all_itself asks [] = tt
all_itself asks (m ∷ ms) = (refl, below_itself asks m.table m.row, all_itself asks ms)

head_below : (a : Asked) (rest : List Asked) (ms ns : List Member) → AreBelow (a ∷ rest) ms ns → AreBelow (a ∷ []) ms ns
head_below a rest [] [] h = tt
head_below a rest [] (n ∷ ns) h = h
head_below a rest (m ∷ ms) [] h = h
head_below a rest (m ∷ ms) (n ∷ ns) h = (h.0, (h.1.0, tt), head_below a rest ms ns h.2)

tail_below : (a : Asked) (rest : List Asked) (ms ns : List Member) → AreBelow (a ∷ rest) ms ns → AreBelow rest ms ns
tail_below a rest [] [] h = tt
tail_below a rest [] (n ∷ ns) h = h
tail_below a rest (m ∷ ms) [] h = h
tail_below a rest (m ∷ ms) (n ∷ ns) h = (h.0, h.1.1, tail_below a rest ms ns h.2)

met_by : (a : Asked) (m n : Member) (x y : Option Raw) (b : Bool) → nat_eq m.table a.table ≡ b → nat_eq n.table a.table ≡ b → (a.table ≡ m.table → every_of a.parts m.row ≡ true → every_of a.parts n.row ≡ true) → (every_of a.parts x ≡ true → every_of a.parts y ≡ true) → every_of a.parts (cond (nat_eq m.table a.table) m.row x) ≡ true → every_of a.parts (cond (nat_eq n.table a.table) n.row y) ≡ true
met_by a m n x y true e f here later h =
    ap (λ t. every_of a.parts (cond t n.row y)) f ∙ here (sym (eqb-true m.table a.table e)) (sym (ap (λ t. every_of a.parts (cond t m.row x)) e) ∙ h)
met_by a m n x y false e f here later h =
    ap (λ t. every_of a.parts (cond t n.row y)) f ∙ later (sym (ap (λ t. every_of a.parts (cond t m.row x)) e) ∙ h)

met_more : (a : Asked) (ms ns : List Member) → AreBelow (a ∷ []) ms ns → every_of a.parts (member_of a.table ms) ≡ true → every_of a.parts (member_of a.table ns) ≡ true
met_more a [] [] below e = e
met_more a [] (n ∷ ns) below e = absurd below
met_more a (m ∷ ms) [] below e = absurd below
met_more a (m ∷ ms) (n ∷ ns) below e =
    met_by a m n (member_of a.table ms) (member_of a.table ns) (nat_eq m.table a.table) refl (ap (λ t. nat_eq t a.table) (sym below.0)) below.1.0 (met_more a ms ns below.2) e

meets_more : (asks : List Asked) (t u : Tuple) → AreBelow asks t.members u.members → MeetsMore t u asks
meets_more [] t u below = tt
meets_more (a ∷ rest) t u below = (met_more a t.members u.members (head_below a rest t.members u.members below), meets_more rest t u (tail_below a rest t.members u.members below))

and_both : (a b c d : Bool) → (a ≡ true → c ≡ true) → (b ≡ true → d ≡ true) → a && b ≡ true → c && d ≡ true
and_both true b c d f g e = ap (λ x. x && d) (f refl) ∙ g e
and_both false b c d f g e = absurd (false≢true e)

all_kept : (conds : List Cond) (t u : Tuple) → t.main ≡ u.main → MeetsMore t u (asks_of conds) → all_hold conds t ≡ true → all_hold conds u ≡ true
all_kept [] t u same more e = refl
all_kept (c ∷ cs) t u same more e =
    and_both (holds c t) (all_hold cs t) (holds c u) (all_hold cs u)
    (λ h. ap (λ f. f u) (sym (truth_is c)) ∙ read_monotone c t u same (front _ (read c).asks (asks_of cs) more) (ap (λ f. f t) (truth_is c) ∙ h))
    (all_kept cs t u same (back _ (read c).asks (asks_of cs) more)) e

abbrev pub with_row : Joined → Option Raw → List Member → List Member
with_row j row ms = record { table = j.table; row = row } ∷ ms

pub expanded : (T : List Member → Bool) (choose : Joined → List (Option Raw)) (j : Joined) (js : List Joined) → list_any T (product choose (j ∷ js)) ≡ list_any (λ row. list_any (λ ms. T (with_row j row ms)) (product choose js)) (choose j)
expanded T choose j js =
    any-flat_map T (with_each j (product choose js)) (choose j) ∙ any-same _ _ (λ row. any-map T (with_row j row) (product choose js)) (choose j)

module _ (asks : List Asked) (choose keep : Joined → List (Option Raw)) where
  abbrev Rises : (List Member → Bool) → Type 0
  Rises T = (ms ns : List Member) → AreBelow asks ms ns → T ms ≡ true → T ns ≡ true

  abbrev Reaches : List Joined → Type 0
  Reaches js = (T : List Member → Bool) → Rises T → list_any T (product choose js) ≡ true → list_any T (product keep js) ≡ true

  tried : (j : Joined) (js : List Joined) → Reaches js → (T : List Member → Bool) → Rises T → (rows : List (Option Raw)) → AllByRecursion (λ row. SomeByRecursion (λ other. IsBelow asks j.table row other) (keep j)) rows → list_any (λ row. list_any (λ ms. T (with_row j row ms)) (product choose js)) rows ≡ true → list_any (λ row. list_any (λ ms. T (with_row j row ms)) (product keep js)) (keep j) ≡ true
  tried j js later T rises [] covers e = absurd (false≢true e)
  tried j js later T rises (row ∷ rows) covers e =
      either (list_any (λ ms. T (with_row j row ms)) (product choose js)) (list_any (λ r. list_any (λ ms. T (with_row j r ms)) (product choose js)) rows) e
      (λ h.
      let kept = later (λ ms. T (with_row j row ms)) (λ ms ns below. rises (with_row j row ms) (with_row j row ns) (refl, below_itself asks j.table row, below)) h in
      any_of_some (λ other. IsBelow asks j.table row other) (λ other. list_any (λ ms. T (with_row j other ms)) (product keep js))
      (λ other below. any-more (λ ms. T (with_row j row ms)) (λ ms. T (with_row j other ms)) (λ ms. rises (with_row j row ms) (with_row j other ms) (refl, below, all_itself asks ms)) (product keep js) kept)
      (keep j) covers.0)
      (tried j js later T rises rows covers.1)

  pub covered : (js : List Joined) → AllByRecursion (IsCovered asks choose keep) js → (T : List Member → Bool) → Rises T → list_any T (product choose js) ≡ true → list_any T (product keep js) ≡ true
  covered [] covers T rises e = e
  covered (j ∷ js) covers T rises e =
      expanded T keep j js ∙ tried j js (covered js covers.1) T rises (choose j) covers.0 (sym (expanded T choose j js) ∙ e)

pub members_over-is : (tables : List (List Raw)) (main : Raw) (js : List Joined) → members_over tables main js ≡ product (choices tables main) js
unfolding members_over
members_over-is tables main [] = refl
members_over-is tables main (j ∷ js) = ap (λ (l : List (List Member)). flat_map (with_each j l) (choices tables main j)) (members_over-is tables main js)

same_answer : (a b : Bool) → (a ≡ true → b ≡ true) → (b ≡ true → a ≡ true) → a ≡ b
same_answer true b f g = sym (f refl)
same_answer false true f g = g refl
same_answer false false f g = refl

-- the full product may be cut down to kept choices that cover all, where no kept one meets more than some choice does
pub kept_suffice : (conds : List Cond) (tables : List (List Raw)) (main : Raw) (keep : Joined → List (Option Raw)) (js : List Joined)
    → AllByRecursion (IsCovered (asks_of conds) (choices tables main) keep) js → AllByRecursion (IsCovered (asks_of conds) keep (choices tables main)) js
    → list_any (λ ms. all_hold conds (record { main = main; members = ms })) (members_over tables main js) ≡ list_any (λ ms. all_hold conds (record { main = main; members = ms })) (product keep js)
kept_suffice conds tables main keep js covers within =
    let T = λ (ms : List Member). all_hold conds (record { main = main; members = ms }) in
    let rises = λ (ms ns : List Member) (below : AreBelow (asks_of conds) ms ns) (e : T ms ≡ true). all_kept conds (record { main = main; members = ms }) (record { main = main; members = ns }) refl (meets_more (asks_of conds) (record { main = main; members = ms }) (record { main = main; members = ns }) below) e in
    ap (list_any T) (members_over-is tables main js)
    ∙ same_answer _ _ (covered (asks_of conds) (choices tables main) keep js covers T rises) (covered (asks_of conds) keep (choices tables main) js within T rises)
