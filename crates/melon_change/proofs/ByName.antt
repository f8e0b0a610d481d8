-- Columns put in the order of their names.
use Rattle.std.proofs.Common.{◌≡◌, ℕ, zero, suc, ◌+◌, ◌-◌, ◌<◌, ◌≤◌, ◌==◌, Bool, true, false, not, ◌||◌, ◌&&◌, cond, nat_lt, List, [], ◌∷◌, ◌++◌, length, filter, refl, sym, ap, ◌∙◌, subst, arith, one-add}
use Rattle.std.specs.List.{insert, prefix_len, range_with_len, list_all}
use Rattle.melon_schema.specs.declared.schema.ColumnSchema.{ColumnSchema}
use Rattle.melon_raw.specs.Order.{is_below}
use Rattle.melon_raw.specs.Rows.{has}
use Rattle.melon_table.proofs.Order.{split}
use Rattle.melon_change.specs.Edited.{name_at, put_column, by_name}

pub prefix_len-le : {X : Type 0} (p : X → Bool) (xs : List X) → prefix_len p xs ≤ length xs
prefix_len-le p [] = omega arith
prefix_len-le p (x ∷ xs) = let ih : prefix_len p xs ≤ length xs = prefix_len-le p xs in split (p x) (λ e. rw e (omega (arith, ih))) (λ e. rw e (omega arith))

-- a column is put behind those with names before its own
pub insert-put_column : (columns : List ColumnSchema) (c : ℕ) (ds : List ℕ) → insert ds (prefix_len (λ d. is_below (name_at columns d) (name_at columns c)) ds) c ≡ put_column columns c ds
insert-put_column columns c [] = refl
insert-put_column columns c (d ∷ ds) =
    let ih : insert ds (prefix_len (λ d. is_below (name_at columns d) (name_at columns c)) ds) c ≡ put_column columns c ds = insert-put_column columns c ds in
    split (is_below (name_at columns d) (name_at columns c))
    (λ e. rw (e, one-add) (ap (λ rest. d ∷ rest) ih))
    (λ e. rw e refl)

-- one column more from the front
pub range_front : (n c : ℕ) → c < n → range_with_len c (n - c) ≡ c ∷ range_with_len (c + 1) (n - (c + 1))
range_front n c h = let e : n - c ≡ suc (n - (c + 1)) = omega arith in ap (λ (k : ℕ). range_with_len c k) e

by_name_choice : (columns : List ColumnSchema) (c : ℕ) (rest : List ℕ) (b : Bool) → by_name columns (cond b (c ∷ rest) rest) ≡ cond b (put_column columns c (by_name columns rest)) (by_name columns rest)
by_name_choice columns c rest true = refl
by_name_choice columns c rest false = refl

pub by_name-front : (columns : List ColumnSchema) (p : ℕ → Bool) (n c : ℕ) → c < n
    → by_name columns (filter p (range_with_len c (n - c))) ≡ cond (p c) (put_column columns c (by_name columns (filter p (range_with_len (c + 1) (n - (c + 1)))))) (by_name columns (filter p (range_with_len (c + 1) (n - (c + 1)))))
by_name-front columns p n c h = ap (λ cs. by_name columns (filter p cs)) (range_front n c h) ∙ by_name_choice columns c (filter p (range_with_len (c + 1) (n - (c + 1)))) (p c)
