-- Tables added one after another.
use Rattle.std.proofs.Common.{◌≡◌, ℕ, ◌+◌, ◌<◌, List, [], ◌∷◌, ◌++◌, length, get_or, drop, ap, sym, ◌∙◌, refl}
use Rattle.melon_query.specs.Meaning.{ons}
use Rattle.melon_query.specs.Fresh.{all_ons, with_table, with_tables}
use Rattle.melon_query.specs.declared.query.Joined.{Joined}
use Rattle.melon_query.specs.declared.query.Cond.{Cond}
use Rattle.melon_eval.proofs.Steps.{splits}

pub with_tables-append : (joined xs ys : List Joined) → with_tables joined (xs ++ ys) ≡ with_tables (with_tables joined xs) ys
with_tables-append joined [] ys = refl
with_tables-append joined (x ∷ xs) ys = with_tables-append (with_table joined x) xs ys

-- one condition more
pub tables_more : (joined now : List Joined) (conds : List Cond) (i : ℕ) (cond : Cond) → i < length conds → cond ≡ get_or conds i cond → now ≡ with_tables joined (ons cond) → with_tables now (all_ons (drop (i + 1) conds)) ≡ with_tables joined (all_ons (drop i conds))
tables_more joined now conds i cond here is added =
    ap (λ js. with_tables js (all_ons (drop (i + 1) conds))) added
    ∙ sym (ap (λ cs. with_tables joined (all_ons cs)) (splits conds i cond here is) ∙ with_tables-append joined (ons cond) (all_ons (drop (i + 1) conds)))
