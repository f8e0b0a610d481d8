-- Room that is made put by put, and rows that are put.
use Rattle.std.proofs.Common.{◌≡◌, ℕ, zero, suc, ◌<◌, List, [], ◌∷◌, ◌++◌, length, map, get_or, Bool, true, false, not, refl, sym, ◌∙◌, subst, arith}
use Rattle.std.specs.List.{AllByRecursion}
use Rattle.std.proofs.lemmas.Bool.{and_parts, and_from}
use Rattle.melon_raw.specs.Rows.{is_key}
use Rattle.melon_wire.specs.Keys.{is_in}
use Rattle.melon_wire.proofs.KeyOrder.{split}
use Rattle.melon_backend.specs.declared.put.Put.{Put}
use Rattle.melon_backend.specs.declared.table.ServerTable.{ServerTable}
use Rattle.melon_backend.specs.Drafts.{key_put, is_ready_at, are_ready, IsPutWithin}

pub within_at : (n : ℕ) (ps : List Put) (i : ℕ) (p : Put) {m : ℕ} → m ≡ n → AllByRecursion (IsPutWithin n) ps → i < length ps → p ≡ get_or ps i p → p.table < m
within_at n [] i p long all within is = absurd (omega (arith, within))
within_at n (q ∷ qs) zero p long all within is = subst (λ (k : ℕ). p.table < k) (sym long) (subst (λ (x : Put). x.table < n) (sym is) all.0)
within_at n (q ∷ qs) (suc i) p long all within is = within_at n qs i p long all.1 (omega (arith, within)) is

pub ready_keeps : (ps : List Put) (old new : List ServerTable) → ((q : Put) → is_ready_at old q ≡ true → is_ready_at new q ≡ true) → are_ready old ps ≡ true → are_ready new ps ≡ true
ready_keeps [] old new keeps all = refl
ready_keeps (p ∷ ps) old new keeps all =
    let t = and_parts (is_ready_at old p) (are_ready old ps) all in
    and_from (is_ready_at new p) (are_ready new ps) (keeps p t.0) (ready_keeps ps old new keeps t.1)

ready_push : (ps : List Put) (p : Put) (tables : List ServerTable) → are_ready tables ps ≡ true → is_ready_at tables p ≡ true → are_ready tables (ps ++ p ∷ []) ≡ true
ready_push [] p tables all is = and_from (is_ready_at tables p) true is refl
ready_push (q ∷ qs) p tables all is =
    let t = and_parts (is_ready_at tables q) (are_ready tables qs) all in
    and_from (is_ready_at tables q) (are_ready tables (qs ++ p ∷ [])) t.0 (ready_push qs p tables t.1 is)

pub ready_more : (ps : List Put) (p : Put) (old new : List ServerTable) → ((q : Put) → is_ready_at old q ≡ true → is_ready_at new q ≡ true) → are_ready old ps ≡ true → is_ready_at new p ≡ true → are_ready new (ps ++ p ∷ []) ≡ true
ready_more ps p old new keeps all is = ready_push ps p new (ready_keeps ps old new keeps all) is

-- those that are left stay ready
pub ready_later : (p : Put) (ps : List Put) (old new : List ServerTable) → ((q : Put) → is_key (key_put p) (key_put q) ≡ false → is_ready_at old q ≡ true → is_ready_at new q ≡ true) → is_in (key_put p) (map key_put ps) ≡ false → are_ready old ps ≡ true → are_ready new ps ≡ true
ready_later p [] old new keeps alone all = refl
ready_later p (q ∷ qs) old new keeps alone all =
    let t = and_parts (is_ready_at old q) (are_ready old qs) all in
    split (is_key (key_put p) (key_put q))
    (λ e. absurd (let h : true ≡ false = sym (rw e refl) ∙ alone in cc))
    (λ e. and_from (is_ready_at new q) (are_ready new qs) (keeps q e t.0) (ready_later p qs old new keeps (sym (rw e refl) ∙ alone) t.1))

pub not_true : (b : Bool) → not b ≡ true → b ≡ false
not_true true h = cc
not_true false h = refl
