-- Places of columns that differ: each of the table, none of them twice.
use Rattle.std.proofs.Common.{◌≡◌, ◌≢◌, ℕ, zero, suc, ◌+◌, ◌<◌, ◌≤◌, ◌==◌, Bool, true, false, not, ◌||◌, ◌&&◌, cond, nat_lt, List, [], ◌∷◌, ◌++◌, length, filter, refl, sym, ap, ◌∙◌, subst, arith, eqb}
use Rattle.std.specs.List.{range_with_len}
use Rattle.std.proofs.lemmas.Bool.{both_ways, false_from_ne_true}
use Rattle.std.proofs.lemmas.Bool.Decides.{Decides-eqb}
use Rattle.melon_schema.specs.declared.schema.ColumnSchema.{ColumnSchema}
use Rattle.melon_raw.specs.declared.datum.Datum.{Datum}
use Rattle.melon_raw.specs.Order.{is_below}
use Rattle.melon_raw.specs.Rows.{has, are_marks}
use Rattle.melon_table.proofs.Order.{split, and_left, and_right, both}
use Rattle.melon_change.specs.Edited.{name_at, put_column, by_name, differs, differing, appended}

not_from : (b : Bool) → not b ≡ true → b ≡ false
not_from true h = cc
not_from false h = refl

from_not : (b : Bool) → b ≡ false → not b ≡ true
from_not b h = ap not h

or_swapped : (a b c : Bool) → (a || (b || c)) ≡ (b || (a || c))
or_swapped true true c = refl
or_swapped true false c = refl
or_swapped false b c = refl

-- ---- in the order of names

has-put_column : (columns : List ColumnSchema) (x c : ℕ) (ds : List ℕ) → has x (put_column columns c ds) ≡ ((x == c) || has x ds)
has-put_column columns x c [] = refl
has-put_column columns x c (d ∷ ds) =
    let ih : has x (put_column columns c ds) ≡ ((x == c) || has x ds) = has-put_column columns x c ds in
    split (is_below (name_at columns d) (name_at columns c)) (λ e. rw e (rw ih (or_swapped (x == d) (x == c) (has x ds)))) (λ e. rw e refl)

pub has-by_name : (columns : List ColumnSchema) (x : ℕ) (cs : List ℕ) → has x (by_name columns cs) ≡ has x cs
has-by_name columns x [] = refl
has-by_name columns x (c ∷ cs) = has-put_column columns x c (by_name columns cs) ∙ ap (λ b. (x == c) || b) (has-by_name columns x cs)

turned : (a b : ℕ) → (a == b) ≡ false → (b == a) ≡ false
turned a b h = grind arith

marks_put : (columns : List ColumnSchema) (n c : ℕ) (ds : List ℕ) → nat_lt c n ≡ true → has c ds ≡ false → are_marks n ds ≡ true → are_marks n (put_column columns c ds) ≡ true
marks_put columns n c [] l h m = rw l refl
marks_put columns n c (d ∷ ds) l h m =
    let apart : (c == d) ≡ false = or_left_false (c == d) (has c ds) h in
    let later : has c ds ≡ false = or_right_false (c == d) (has c ds) h in
    let rest : (not (has d ds) && are_marks n ds) ≡ true = and_right (nat_lt d n) _ m in
    let ih : are_marks n (put_column columns c ds) ≡ true = marks_put columns n c ds l later (and_right (not (has d ds)) _ rest) in
    let fresh : has d (put_column columns c ds) ≡ false = has-put_column columns d c ds ∙ (ap (λ b. b || has d ds) (turned c d apart) ∙ not_from _ (and_left (not (has d ds)) _ rest)) in
    split (is_below (name_at columns d) (name_at columns c))
    (λ e. rw e (both (nat_lt d n) _ (and_left (nat_lt d n) _ m) (both (not (has d (put_column columns c ds))) _ (from_not _ fresh) ih)))
    (λ e. rw e (both (nat_lt c n) _ l (both (not (has c (d ∷ ds))) _ (from_not _ h) m)))
  where
    or_left_false : (a b : Bool) → (a || b) ≡ false → a ≡ false
    or_left_false true b k = cc
    or_left_false false b k = refl

    or_right_false : (a b : Bool) → (a || b) ≡ false → b ≡ false
    or_right_false true b k = cc
    or_right_false false b k = k

marks_by_name : (columns : List ColumnSchema) (n : ℕ) (cs : List ℕ) → are_marks n cs ≡ true → are_marks n (by_name columns cs) ≡ true
marks_by_name columns n [] m = refl
marks_by_name columns n (c ∷ cs) m =
    let rest : (not (has c cs) && are_marks n cs) ≡ true = and_right (nat_lt c n) _ m in
    marks_put columns n c (by_name columns cs) (and_left (nat_lt c n) _ m) (has-by_name columns c cs ∙ not_from _ (and_left (not (has c cs)) _ rest)) (marks_by_name columns n cs (and_right (not (has c cs)) _ rest))

-- ---- those that are kept

has_filter : (p : ℕ → Bool) (x : ℕ) (cs : List ℕ) → has x cs ≡ false → has x (filter p cs) ≡ false
has_filter p x [] h = refl
has_filter p x (c ∷ cs) h =
    let ih : has x cs ≡ false → has x (filter p cs) ≡ false = has_filter p x cs in
    split (x == c) (λ e. absurd (both_ways (has x (c ∷ cs)) h (rw e refl))) (λ e. split (p c) (λ f. rw f (rw e (ih (rw e at h)))) (λ f. rw f (ih (rw e at h))))

passes_filter : (p : ℕ → Bool) (x : ℕ) (cs : List ℕ) → has x (filter p cs) ≡ true → p x ≡ true
passes_filter p x [] h = cc
passes_filter p x (c ∷ cs) h =
    let ih : has x (filter p cs) ≡ true → p x ≡ true = passes_filter p x cs in
    split (p c)
    (λ f. split (x == c) (λ e. ap p ((Decides-eqb x c).0 e) ∙ f) (λ e. ih (rw (f, e) at h)))
    (λ f. ih (rw f at h))

marks_filter : (p : ℕ → Bool) (n : ℕ) (cs : List ℕ) → are_marks n cs ≡ true → are_marks n (filter p cs) ≡ true
marks_filter p n [] m = refl
marks_filter p n (c ∷ cs) m =
    let rest : (not (has c cs) && are_marks n cs) ≡ true = and_right (nat_lt c n) _ m in
    let ih : are_marks n (filter p cs) ≡ true = marks_filter p n cs (and_right (not (has c cs)) _ rest) in
    split (p c)
    (λ f. rw f (both (nat_lt c n) _ (and_left (nat_lt c n) _ m) (both (not (has c (filter p cs))) _ (from_not _ (has_filter p c cs (not_from _ (and_left (not (has c cs)) _ rest)))) ih)))
    (λ f. rw f ih)

-- ---- all places

below_range : (x a k : ℕ) → x < a → has x (range_with_len a k) ≡ false
below_range x a zero h = refl
below_range x a (suc k) h =
    let off : (x == a) ≡ false = grind arith in
    ap (λ b. b || has x (range_with_len (a + 1) k)) off ∙ below_range x (a + 1) k (omega arith)

marks_range : (n a k : ℕ) → a + k ≤ n → are_marks n (range_with_len a k) ≡ true
marks_range n a zero h = refl
marks_range n a (suc k) h =
    let within : nat_lt a n ≡ true = grind arith in
    both (nat_lt a n) _ within (both (not (has a (range_with_len (a + 1) k))) _ (from_not _ (below_range a (a + 1) k (omega arith))) (marks_range n (a + 1) k (omega arith)))

pub marks_differing : (columns : List ColumnSchema) (before after : List Datum) → are_marks (length columns) (differing columns before after) ≡ true
marks_differing columns before after = marks_by_name columns (length columns) _ (marks_filter (differs before after) (length columns) _ (marks_range (length columns) 0 (length columns) (omega arith)))

-- ---- marks and more behind them

has_append : (x : ℕ) (ms ys : List ℕ) → has x (ms ++ ys) ≡ (has x ms || has x ys)
has_append x [] ys = refl
has_append x (m ∷ ms) ys = split (x == m) (λ e. rw e refl) (λ e. rw e (has_append x ms ys))

marks_append : (n : ℕ) (ms ys : List ℕ) → are_marks n ms ≡ true → are_marks n ys ≡ true → ((y : ℕ) → has y ys ≡ true → has y ms ≡ false) → are_marks n (ms ++ ys) ≡ true
marks_append n [] ys m k apart = k
marks_append n (x ∷ ms) ys m k apart =
    let rest : (not (has x ms) && are_marks n ms) ≡ true = and_right (nat_lt x n) _ m in
    let here : has x ms ≡ false = not_from _ (and_left (not (has x ms)) _ rest) in
    let there : has x ys ≡ false = false_from_ne_true (has x ys) (λ e. both_ways (has x (x ∷ ms)) (apart x e) (ap (λ b. b || has x ms) ((Decides-eqb x x).1 refl))) in
    let fresh : has x (ms ++ ys) ≡ false = has_append x ms ys ∙ (ap (λ b. b || has x ys) here ∙ there) in
    both (nat_lt x n) _ (and_left (nat_lt x n) _ m) (both (not (has x (ms ++ ys))) _ (from_not _ fresh)
    (marks_append n ms ys (and_right (not (has x ms)) _ rest) k (λ y e. off (y == x) (has y ms) (apart y e))))
  where
    off : (a b : Bool) → (a || b) ≡ false → b ≡ false
    off true b h = cc
    off false b h = h

-- marks of a table stay such
pub marks_appended : (n : ℕ) (marks columns : List ℕ) → are_marks n marks ≡ true → are_marks n columns ≡ true → are_marks n (appended marks columns) ≡ true
marks_appended n marks columns m k = marks_append n marks (filter (λ c. not (has c marks)) columns) m (marks_filter (λ c. not (has c marks)) n columns k) (λ y e. not_from _ (passes_filter (λ c. not (has c marks)) y columns e))
