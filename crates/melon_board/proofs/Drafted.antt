-- What is gathered change by change is the batch and the sums of all changes.
use Rattle.std.proofs.Common.{◌≡◌, ℕ, ◌+◌, ◌<◌, List, [], ◌∷◌, ◌++◌, length, Bool, true, ◌&&◌, nat_lt, Option, Some, None, filter_map, option_to_list, sum_by, refl, ap, sym, ◌∙◌, subst, arith, append_assoc, append-nil, lt-ltb, zero-add, add-zero, add_assoc}
use Rattle.std.specs.List.{cons_option}
use Rattle.std.proofs.lemmas.List.Sums.{sum_by-cons, sum_by-append}
use Rattle.melon_schema.specs.declared.schema.TableSchema.{TableSchema}
use Rattle.melon_raw.specs.Rows.{Rows}
use Rattle.melon_table.proofs.Order.{both}
use Rattle.melon_outside.specs.declared.kept.KeptBatch.{KeptBatch}
use Rattle.melon_outside.specs.declared.kept.KeptKey.{KeptKey}
use Rattle.melon_outside.specs.declared.kept.KeptRow.{KeptRow}
use Rattle.melon_outside.specs.declared.kept.KeptValue.{KeptValue}
use Rattle.melon_change.specs.declared.change.Change.{Change}
use Rattle.melon_change.specs.declared.history.Origin.{Origin}
use Rattle.melon_change.specs.declared.history.Entry.{Entry}
use Rattle.melon_change.specs.History.{AreChanges}
use Rattle.melon_board.specs.declared.draft.Draft.{Draft}
use Rattle.melon_board.specs.Sizes.{before_bytes, after_bytes, change_bytes, set_bytes, journal_bytes}
use Rattle.melon_board.specs.Boards.{are_within}
use Rattle.melon_board.specs.Batches.{removal, filing, kept_batch}
use Rattle.melon_board.specs.Drafts.{no_draft, with_change, drafted}

cons-to_list : {X : Type 0} (o : Option X) (xs : List X) → option_to_list o ++ xs ≡ cons_option o xs
cons-to_list None xs = refl
cons-to_list (Some x) xs = refl

more : {X Y : Type 0} (f : X → Option Y) (ys : List Y) (x : X) (xs : List X) → (ys ++ option_to_list (f x)) ++ filter_map f xs ≡ ys ++ filter_map f (x ∷ xs)
more f ys x xs = append_assoc ys (option_to_list (f x)) (filter_map f xs) ∙ ap (λ zs. ys ++ zs) (cons-to_list (f x) (filter_map f xs))

abbrev batch_with : Bool → List KeptKey → List KeptRow → List KeptValue → KeptBatch
batch_with clear removes puts values = record { clear = clear; removes = removes; puts = puts; values = values }

module _ (schema : List TableSchema) where
  pub removes-drafted : (d : Draft) (cs : List Change) → (drafted schema d cs).batch.removes ≡ d.batch.removes ++ filter_map (removal schema) cs
  removes-drafted d [] = sym (append-nil d.batch.removes)
  removes-drafted d (c ∷ cs) = removes-drafted (with_change schema d c) cs ∙ more (removal schema) d.batch.removes c cs

  pub puts-drafted : (d : Draft) (cs : List Change) → (drafted schema d cs).batch.puts ≡ d.batch.puts ++ filter_map (filing schema) cs
  puts-drafted d [] = sym (append-nil d.batch.puts)
  puts-drafted d (c ∷ cs) = puts-drafted (with_change schema d c) cs ∙ more (filing schema) d.batch.puts c cs

  pub clear-drafted : (d : Draft) (cs : List Change) → (drafted schema d cs).batch.clear ≡ d.batch.clear
  clear-drafted d [] = refl
  clear-drafted d (c ∷ cs) = clear-drafted (with_change schema d c) cs

  pub values-drafted : (d : Draft) (cs : List Change) → (drafted schema d cs).batch.values ≡ d.batch.values
  values-drafted d [] = refl
  values-drafted d (c ∷ cs) = values-drafted (with_change schema d c) cs

  before-from : (d : Draft) (cs : List Change) → (drafted schema d cs).before ≡ d.before + sum_by (before_bytes schema) cs
  before-from d [] = omega arith
  before-from d (c ∷ cs) = omega (arith, before-from (with_change schema d c) cs, sum_by-cons (before_bytes schema) c cs)

  after-from : (d : Draft) (cs : List Change) → (drafted schema d cs).after ≡ d.after + sum_by (after_bytes schema) cs
  after-from d [] = omega arith
  after-from d (c ∷ cs) = omega (arith, after-from (with_change schema d c) cs, sum_by-cons (after_bytes schema) c cs)

  pub before-drafted : (cs : List Change) → (drafted schema no_draft cs).before ≡ sum_by (before_bytes schema) cs
  before-drafted cs = omega (arith, before-from no_draft cs)

  pub after-drafted : (cs : List Change) → (drafted schema no_draft cs).after ≡ sum_by (after_bytes schema) cs
  after-drafted cs = omega (arith, after-from no_draft cs)

  same_batch : (a b : KeptBatch) → a.clear ≡ b.clear → a.removes ≡ b.removes → a.puts ≡ b.puts → a.values ≡ b.values → a ≡ b
  same_batch a b e f g h =
      ap (λ (x : Bool). batch_with x a.removes a.puts a.values) e
      ∙ (ap (λ (x : List KeptKey). batch_with b.clear x a.puts a.values) f
      ∙ (ap (λ (x : List KeptRow). batch_with b.clear b.removes x a.values) g
      ∙ ap (λ (x : List KeptValue). batch_with b.clear b.removes b.puts x) h))

  pub batch-drafted : (cs : List Change) → (drafted schema no_draft cs).batch ≡ kept_batch schema cs
  batch-drafted cs = same_batch (drafted schema no_draft cs).batch (kept_batch schema cs) (clear-drafted no_draft cs) (removes-drafted no_draft cs) (puts-drafted no_draft cs) (values-drafted no_draft cs)

  both_sums : (cs : List Change) → set_bytes schema cs ≡ sum_by (before_bytes schema) cs + sum_by (after_bytes schema) cs
  both_sums [] = refl
  both_sums (c ∷ cs) = omega (arith, both_sums cs, sum_by-cons (change_bytes schema) c cs, sum_by-cons (before_bytes schema) c cs, sum_by-cons (after_bytes schema) c cs)

  pub journal-more : (entries : List Entry) (e : Entry) → journal_bytes schema (entries ++ e ∷ []) ≡ journal_bytes schema entries + (sum_by (before_bytes schema) e.set + sum_by (after_bytes schema) e.set)
  journal-more entries e = omega (arith, sum_by-append (λ (e : Entry). set_bytes schema e.set) entries (e ∷ []), sum_by-cons (λ (e : Entry). set_bytes schema e.set) e [], both_sums e.set)

  pub within_of : (rows : Rows) (origin : Origin) (cs : List Change) → AreChanges schema rows origin cs → are_within (length rows) cs ≡ true
  within_of rows origin [] h = refl
  within_of rows origin (c ∷ cs) h = both (nat_lt c.table (length rows)) (are_within (length rows) cs) (lt-ltb c.table (length rows) h.0.declared) (within_of rows origin cs h.2)
