-- A change leaves the rows of every other record.
use Rattle.std.proofs.Common.{◌≡◌, ℕ, zero, suc, ◌==◌, ◌<◌, List, [], ◌∷◌, get_or, set, find, Bool, true, false, ◌&&◌, Option, Some, None, bytes_eq, refl, ap, sym, subst, ◌∙◌, arith, length, length-set, eq-eqb}
use Rattle.melon_raw.specs.declared.raw.Raw.{Raw}
use Rattle.melon_raw.specs.Rows.{Key, is_key, Rows, at, at_id}
use Rattle.melon_change.specs.declared.change.Change.{Change}
use Rattle.melon_change.specs.Changes.{key_of, change_of, with_after, after_change}
use Rattle.melon_change.specs.History.{KeepsId}
use Rattle.melon_table.proofs.Order.{split, bytes_same, both}
use Rattle.melon_table.proofs.ById.{at_id-put_other, at_id-without_other}

pub key_apart : (x y : Key) → is_key x y ≡ false → x.table ≡ y.table → x.id ≡ y.id → ⊥
key_apart x y f tables ids = let no : false ≡ true = sym f ∙ both (x.table == y.table) (bytes_eq x.id y.id) (eq-eqb x.table y.table tables) (bytes_same x.id y.id ids) in cc

some_none : (c : Change) → Some c ≡ None → ⊥
some_none c e = cc

-- no later change has the key
pub none_step : (x : Key) (d : Change) (ds : List Change) → change_of x (d ∷ ds) ≡ None → (is_key x (key_of d) ≡ false) × (change_of x ds ≡ None)
none_step x d ds h = split (is_key x (key_of d)) (λ e. absurd (some_none d (rw e at h))) (λ e. (e, rw e at h))

other_id : (id gone : List ℕ) (after : Option Raw) (rows : List Raw) → KeepsId gone after → (id ≡ gone → ⊥) → at_id id (with_after gone after rows) ≡ at_id id rows
other_id id gone None rows keeps apart = at_id-without_other gone id rows apart
other_id id gone (Some row) rows keeps apart = at_id-put_other row id rows (λ e. apart (e ∙ keeps))

at_other : (rows : Rows) (t u : ℕ) (id gone : List ℕ) (after : Option Raw) → KeepsId gone after → (u ≡ t → id ≡ gone → ⊥) → at_id id (get_or (set rows t (with_after gone after (get_or rows t []))) u []) ≡ at_id id (get_or rows u [])
at_other [] t u id gone after keeps apart = refl
at_other (rs ∷ rows) zero zero id gone after keeps apart = other_id id gone after rs keeps (apart refl)
at_other (rs ∷ rows) zero (suc u) id gone after keeps apart = refl
at_other (rs ∷ rows) (suc t) zero id gone after keeps apart = refl
at_other (rs ∷ rows) (suc t) (suc u) id gone after keeps apart = at_other rows t u id gone after keeps (λ e. apart (ap suc e))

-- the row of another record is as it was
pub at-after_change_other : (rows : Rows) (c : Change) (x : Key) → KeepsId c.id c.after → is_key (key_of c) x ≡ false → at (after_change rows c) x ≡ at rows x
at-after_change_other rows c x keeps f = at_other rows c.table x.table x.id c.id c.after keeps (λ t i. key_apart (key_of c) x f (sym t) (sym i))
