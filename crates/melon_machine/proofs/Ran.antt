-- A run that goes on by one line.
use Rattle.std.proofs.Common.{◌≡◌, ℕ, ◌+◌, List, [], ◌∷◌, ◌++◌, inl, inr, Bool, true, false, refl, ap, sym, ◌∙◌, subst, append_assoc, append-nil}
use Rattle.melon_outside.specs.Keeping.{Stores}
use Rattle.melon_script.specs.SeenLine.{SeenLine}
use Rattle.std.specs.Prelude.{Option, Some, None, if◌then◌else◌}
use Rattle.melon_script.specs.Forms.{line_of, is_blank}
use Rattle.melon_script.specs.Script.{forms_in, forms_of, first_form, bad_from, or_bad, IsLine}
use Rattle.melon_script.specs.Printed.{answer_text}
use Rattle.melon_script.specs.declared.item.Item.{Item}
use Rattle.melon_machine.specs.Calls.{Calls, Done, Followed, Follows, Begins}
use Rattle.melon_machine.specs.Legal.{IsLegal, IsKeptAs}
use Rattle.melon_machine.specs.State.{Machine, KeptMachine, kept_of, none_open}
use Rattle.melon_machine.specs.Outcomes.{Stepped, ends_with}
use Rattle.melon_machine.specs.Step.{step, kept_step, kept_calls}
use Rattle.melon_machine.specs.Sound.{IsSound}
use Rattle.melon_machine.specs.Run.{by_form, line_calls, Ran, prints_first, goes_on, run_from, run, ComesTo}
use Rattle.melon_machine.proofs.Followed.{same_is, follow_exact, follows_end}
use Rattle.melon_machine.proofs.Lasted.{step_followed}
use Rattle.melon_machine.proofs.Legality.{always_follows}
use Rattle.melon_machine.proofs.Whole.{step_legal}

-- no line was run
pub at_start : (script : List ℕ) (kept : Stores) → ComesTo script kept [] [] none_open kept (forms_in script)
unfolding run
at_start script kept = record { goes = λ later. refl }

prints_twice : (a b : List ℕ) (later : Ran) → prints_first a (prints_first b later) ≡ prints_first (a ++ b) later
prints_twice a b later = λ i. record { text = sym (append_assoc a b later.text) i; after = later.after; kept = later.kept; left = later.left }

-- one line more, as the code has the machine
pub one_more : (script : List ℕ) (was : Stores) (used : List Bool) (printed : List ℕ) (now : Machine) (kept : Stores) (line : SeenLine) (more : List SeenLine)
    (taken : List Bool) (after : KeptMachine) (items : List Item) (kept' : Stores)
    → ComesTo script was used printed now kept (line ∷ more) → Follows (kept_calls (step now line)) kept taken (record { after = after; items = items }) kept'
    → IsLegal now → (next : Machine) × IsKeptAs next after × ComesTo script was (used ++ taken) (printed ++ answer_text items) next kept' more × (IsSound now kept → IsSound next kept')
one_more script was used printed now kept line more taken after items kept' c f legal =
    let end = follows_end kept_step (step now line) kept taken (record { after = after; items = items }) kept' f in (
      end.0.after,
      record { same = ap (λ (s : Stepped KeptMachine). s.after) end.1; legal = always_follows (λ (s : Stepped Machine). IsLegal s.after) (step now line) kept taken end.0 kept' (step_legal now line legal) end.2 },
      record {
        goes = λ later.
            ap (run script was) (append_assoc used taken later)
            ∙ c.goes (taken ++ later)
            ∙ ap (λ (done : Followed (Stepped Machine)). prints_first printed (goes_on done (λ next now left. run_from next now more left))) (follow_exact (step now line) kept taken end.0 kept' later end.2)
            ∙ ap (λ (said : List Item). prints_first printed (prints_first (answer_text said) (run_from end.0.after kept' more later))) (ap (λ (s : Stepped KeptMachine). s.items) end.1)
            ∙ prints_twice printed (answer_text items) (run_from end.0.after kept' more later);
      },
      λ sound. step_followed now line kept taken end.0 kept' sound end.2,
    )

-- nothing is left to run
pub at_end : (script : List ℕ) (was : Stores) (used : List Bool) (printed : List ℕ) (now : Machine) (kept : Stores) → ComesTo script was used printed now kept []
    → run script was used ≡ record { text = printed; after = now; kept = kept; left = [] }
at_end script was used printed now kept c =
    ap (run script was) (sym (append-nil used)) ∙ c.goes [] ∙ (λ i. record { text = append-nil printed i; after = now; kept = kept; left = [] })

-- ---- a line of bytes

forms_blank : (bytes : List ℕ) (more : List (List ℕ)) → is_blank bytes ≡ true → forms_of (bytes ∷ more) ≡ forms_of more
forms_blank bytes more is = ap (λ b. if b then forms_of more else first_form (line_of bytes) (forms_of more)) is

forms_line : (bytes : List ℕ) (more : List (List ℕ)) (form : Option SeenLine) → is_blank bytes ≡ false → line_of bytes ≡ form → forms_of (bytes ∷ more) ≡ first_form form (forms_of more)
forms_line bytes more form not_blank is = ap (λ b. if b then forms_of more else first_form (line_of bytes) (forms_of more)) not_blank ∙ ap (λ f. first_form f (forms_of more)) is

calls_blank : (m : Machine) (bytes : List ℕ) → is_blank bytes ≡ true → kept_calls (line_calls m bytes) ≡ Done (ends_with (kept_of m) [])
calls_blank m bytes is = ap (λ b. kept_calls (if b then Done (ends_with m []) else by_form m (line_of bytes))) is

calls_line : (m : Machine) (bytes : List ℕ) (line : SeenLine) → is_blank bytes ≡ false → line_of bytes ≡ Some line → line_calls m bytes ≡ step m line
calls_line m bytes line not_blank is = ap (λ b. if b then Done (ends_with m []) else by_form m (line_of bytes)) not_blank ∙ ap (by_form m) is

pub calls_of_blank : (m : Machine) (bytes : List ℕ) → is_blank bytes ≡ true → Done (ends_with (kept_of m) []) ≡ kept_calls (line_calls m bytes)
calls_of_blank m bytes is = sym (calls_blank m bytes is)

pub calls_of_line : (m : Machine) (bytes : List ℕ) (line : SeenLine) → is_blank bytes ≡ false → line_of bytes ≡ Some line → kept_calls (step m line) ≡ kept_calls (line_calls m bytes)
calls_of_line m bytes line not_blank is = ap kept_calls (sym (calls_line m bytes line not_blank is))

-- what is begun of a line is begun of its bytes
pub begins_line : (m : Machine) (bytes : List ℕ) (line : SeenLine) (used : List Bool) (was : Stores) → is_blank bytes ≡ false → line_of bytes ≡ Some line → Begins used (step m line) was → Begins used (line_calls m bytes) was
begins_line m bytes line used was not_blank is h = subst (λ (calls : Calls (Stepped Machine)). Begins used calls was) (sym (calls_line m bytes line not_blank is)) h

-- a run that comes to a line of bytes comes to what follows it
pub one_line_more : (script : List ℕ) (was : Stores) (used : List Bool) (printed : List ℕ) (now : Machine) (kept : Stores) (bytes : List ℕ) (more : List (List ℕ))
    (taken : List Bool) (after : KeptMachine) (items : List Item) (kept' : Stores) → IsLine bytes
    → ComesTo script was used printed now kept (forms_of (bytes ∷ more)) → Follows (kept_calls (line_calls now bytes)) kept taken (ends_with after items) kept' → IsLegal now
    → (next : Machine) × IsKeptAs next after × ComesTo script was (used ++ taken) (printed ++ answer_text items) next kept' (forms_of more) × (IsSound now kept → IsSound next kept')
one_line_more script was used printed now kept bytes more taken after items kept' (inl blank) c f legal =
    let done : Follows (Done (ends_with (kept_of now) [])) kept taken (ends_with after items) kept' =
    subst (λ (calls : Calls (Stepped KeptMachine)). Follows calls kept taken (ends_with after items) kept') (calls_blank now bytes blank) f in
    let come : ComesTo script was used printed now kept (forms_of more) = subst (λ (forms : List SeenLine). ComesTo script was used printed now kept forms) (forms_blank bytes more blank) c in
    let quiet : items ≡ [] = sym (ap (λ (s : Stepped KeptMachine). s.items) done.1) in
    let same : kept' ≡ kept = same_is kept' kept done.2 in (
      now,
      record { same = ap (λ (s : Stepped KeptMachine). s.after) done.1; legal = legal },
      subst (λ (k : Stores). ComesTo script was (used ++ taken) (printed ++ answer_text items) now k (forms_of more)) (sym same)
          (subst (λ (u : List Bool). ComesTo script was u (printed ++ answer_text items) now kept (forms_of more)) (sym (append-nil used) ∙ ap (λ (u : List Bool). used ++ u) (sym done.0))
          (subst (λ (t : List ℕ). ComesTo script was used t now kept (forms_of more)) (sym (append-nil printed) ∙ ap (λ (i : List Item). printed ++ answer_text i) (sym quiet)) come)),
      λ sound. subst (IsSound now) (sym same) sound,
    )
one_line_more script was used printed now kept bytes more taken after items kept' (inr line) c f legal =
    one_more script was used printed now kept line.1.0 (forms_of more) taken after items kept'
    (subst (λ (forms : List SeenLine). ComesTo script was used printed now kept forms) (forms_line bytes more (Some line.1.0) line.0 line.1.1) c)
    (subst (λ (calls : Calls (Stepped KeptMachine)). Follows calls kept taken (ends_with after items) kept') (ap kept_calls (calls_line now bytes line.1.0 line.0 line.1.1)) f) legal

-- a run that comes to a line outside the grammar has come to its end
pub at_bad : (script : List ℕ) (was : Stores) (used : List Bool) (printed : List ℕ) (now : Machine) (kept : Stores) (bytes : List ℕ) (more : List (List ℕ)) → is_blank bytes ≡ false → line_of bytes ≡ None
    → ComesTo script was used printed now kept (forms_of (bytes ∷ more)) → ComesTo script was used printed now kept []
at_bad script was used printed now kept bytes more not_blank none c = subst (λ (forms : List SeenLine). ComesTo script was used printed now kept forms) (forms_line bytes more None not_blank none) c

-- ---- the first line outside the grammar

pub bad_later : (number : ℕ) (bytes : List ℕ) (more : List (List ℕ)) → IsLine bytes → bad_from number (bytes ∷ more) ≡ bad_from (number + 1) more
bad_later number bytes more (inl blank) = ap (λ b. if b then bad_from (number + 1) more else or_bad (number + 1) (line_of bytes) (bad_from (number + 1) more)) blank
bad_later number bytes more (inr line) =
    ap (λ b. if b then bad_from (number + 1) more else or_bad (number + 1) (line_of bytes) (bad_from (number + 1) more)) line.0
    ∙ ap (λ f. or_bad (number + 1) f (bad_from (number + 1) more)) line.1.1

pub bad_here : (number : ℕ) (bytes : List ℕ) (more : List (List ℕ)) → is_blank bytes ≡ false → line_of bytes ≡ None → bad_from number (bytes ∷ more) ≡ Some (number + 1)
bad_here number bytes more not_blank none =
    ap (λ b. if b then bad_from (number + 1) more else or_bad (number + 1) (line_of bytes) (bad_from (number + 1) more)) not_blank
    ∙ ap (λ f. or_bad (number + 1) f (bad_from (number + 1) more)) none
