-- A batch, operation by operation.
use Rattle.std.proofs.Common.{◌≡◌, ℕ, ◌+◌, List, [], ◌∷◌, ◌++◌, length, Bool, true, false, ◌||◌, Option, Some, None, is_some, find, Result, Ok, Err, refl, sym, ap, ◌∙◌, subst, append_assoc, append-nil, length-append, arith}
use Rattle.melon_schema.specs.Faults.{◌>>=◌, Fails}
use Rattle.melon_schema.specs.declared.schema.TableSchema.{TableSchema}
use Rattle.melon_raw.specs.Rows.{Key, Rows, is_key}
use Rattle.melon_table.proofs.Order.{split}
use Rattle.melon_change.specs.declared.op.Op.{Op}
use Rattle.melon_change.specs.declared.rule.Rule.{Rule}
use Rattle.melon_change.specs.declared.rule.Rule.TheVariants as rule
use Rattle.melon_change.specs.declared.rule.BatchFault.{BatchFault}
use Rattle.melon_change.specs.declared.rule.BatchFault.TheVariants.{UnknownTable, UnknownColumn, BadId, Twice, Taken, NoRow, LongText, TooMany, Memory}
use Rattle.melon_change.specs.declared.change.Change.{Change}
use Rattle.melon_change.specs.Changes.{key_of, change_of, is_among}
use Rattle.melon_change.specs.Rules.{table_in, id_in, fault_of, told_as}
use Rattle.melon_change.specs.Batch.{change_by, changes_behind}

-- the fault of the operation is the one by which its rule is told
pub told_fault : (n : ℕ) (op : Op) (broken : Rule) (form : Result Change Rule) → Fails rule.Memory broken form → Fails Memory (fault_of n (table_in op) (id_in op) broken) (told_as n op form)
told_fault n op rule.UnknownTable form h = λ _. ap (told_as n op) (h (λ e. cc))
told_fault n op (rule.UnknownColumn column) form h = λ _. ap (told_as n op) (h (λ e. cc))
told_fault n op rule.BadId form h = λ _. ap (told_as n op) (h (λ e. cc))
told_fault n op rule.Twice form h = λ _. ap (told_as n op) (h (λ e. cc))
told_fault n op rule.Taken form h = λ _. ap (told_as n op) (h (λ e. cc))
told_fault n op rule.NoRow form h = λ _. ap (told_as n op) (h (λ e. cc))
told_fault n op (rule.LongText column) form h = λ _. ap (told_as n op) (h (λ e. cc))
told_fault n op rule.Memory form h = λ other. absurd (other refl)

-- ---- the changes so far, and those of the operations that are left

abbrev pub front : List Change → Result (List Change) BatchFault → Result (List Change) BatchFault
front made (Ok changes) = Ok (made ++ changes)
front made (Err fault) = Err fault

front_none : (r : Result (List Change) BatchFault) → front [] r ≡ r
front_none (Ok changes) = refl
front_none (Err fault) = refl

front_more : (made : List Change) (c : Change) (r : Result (List Change) BatchFault) → front (made ++ c ∷ []) r ≡ front made (r >>= λ changes. Ok (c ∷ changes))
front_more made c (Ok changes) = ap Ok (append_assoc made (c ∷ []) changes)
front_more made c (Err fault) = refl

-- one change more among those that were made
pub found_more : (x : Key) (made : List Change) (c : Change) → is_among (made ++ c ∷ []) x ≡ (is_key x (key_of c) || is_among made x)
found_more x [] c = split (is_key x (key_of c)) (λ e. rw e refl) (λ e. rw e refl)
found_more x (d ∷ made) c =
    let ih : is_among (made ++ c ∷ []) x ≡ (is_key x (key_of c) || is_among made x) = found_more x made c in
    split (is_key x (key_of d)) (λ e. rw e (sym (or_true (is_key x (key_of c))))) (λ e. rw e ih)
  where
    or_true : (b : Bool) → (b || true) ≡ true
    or_true true = refl
    or_true false = refl

-- How far the batch has come.
pub record Prepared (schema : List TableSchema) (rows : Rows) (ops : List Op) (named : Key → Bool) (made : List Change) (left : List Op) : Type 0 where
  pub names : (x : Key) → named x ≡ is_among made x
  pub count : length made + length left ≡ length ops
  pub whole : front made (changes_behind schema rows made left) ≡ changes_behind schema rows [] ops

module _ (schema : List TableSchema) (rows : Rows) (ops : List Op) (named : Key → Bool) where
  pub at_start : ((x : Key) → named x ≡ false) → Prepared schema rows ops named [] ops
  at_start none = record { names = none; count = omega arith; whole = front_none (changes_behind schema rows [] ops) }

  module _ (made : List Change) (left : List Op) (so : Prepared schema rows ops named made left) where
    same_names : named ≡ is_among made
    same_names = λ i. λ x. so.names x i

    pub at_end : left ≡ [] → changes_behind schema rows [] ops ≡ Ok made
    at_end none = sym so.whole ∙ (ap (λ (l : List Op). front made (changes_behind schema rows made l)) none ∙ ap Ok (append-nil made))

    module _ (op : Op) (rest : List Op) (next : left ≡ op ∷ rest) where
      here : changes_behind schema rows [] ops ≡ front made (changes_behind schema rows made (op ∷ rest))
      here = sym so.whole ∙ ap (λ (l : List Op). front made (changes_behind schema rows made l)) next

      pub at_fault : (fault : BatchFault) → Fails Memory fault (told_as (length made + 1) op (change_by schema rows named op)) → Fails Memory fault (changes_behind schema rows [] ops)
      at_fault fault h other =
          let told : told_as (length made + 1) op (change_by schema rows (is_among made) op) ≡ Err fault = subst (λ (f : Key → Bool). told_as (length made + 1) op (change_by schema rows f op) ≡ Err fault) same_names (h other) in
          here ∙ ap (λ r. front made (r >>= λ change. changes_behind schema rows (made ++ change ∷ []) rest >>= λ changes. Ok (change ∷ changes))) told

      pub at_more : (change : Change) (named' : Key → Bool) → told_as (length made + 1) op (change_by schema rows named op) ≡ Ok change → ((x : Key) → named' x ≡ (is_key x (key_of change) || named x))
          → Prepared schema rows ops named' (made ++ change ∷ []) rest
      at_more change named' h more = record {
        names = λ x. more x ∙ (ap (λ b. is_key x (key_of change) || b) (so.names x) ∙ sym (found_more x made change));
        count = omega (arith, so.count, ap length next, length-append made (change ∷ []));
        whole =
            let told : told_as (length made + 1) op (change_by schema rows (is_among made) op) ≡ Ok change = subst (λ (f : Key → Bool). told_as (length made + 1) op (change_by schema rows f op) ≡ Ok change) same_names h in
            sym (here ∙ (ap (λ r. front made (r >>= λ c. changes_behind schema rows (made ++ c ∷ []) rest >>= λ changes. Ok (c ∷ changes))) told ∙ sym (front_more made change (changes_behind schema rows (made ++ change ∷ []) rest))));
      }
