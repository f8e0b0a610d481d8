-- How far a run has come: what it printed, and the lines that it still takes.
use Rattle.std.proofs.Common.{◌≡◌, ℕ, ◌+◌, ◌≤◌, List, [], ◌∷◌, ◌++◌, length, map, Bool, true, false, if◌then◌else◌, ◌⊎◌, inl, inr, refl, sym, ap, subst, ◌∙◌, append-nil, arith}
use Rattle.std.specs.Prelude.{Option, Some, None, Result, Ok}
use Rattle.melon_outside.specs.Kept.{is_in_order}
use Rattle.melon_outside.specs.Keeping.{Stores, AreSame}
use Rattle.melon_outside.specs.Moves.{Grows, GrowsByFront}
use Rattle.melon_outside.specs.SeenKeeper.{SeenKeeper, Answered}
use Rattle.melon_outside.proofs.SeenKeepers.{answered_none, answered_more}
use Rattle.melon_script.specs.SeenLine.{SeenLine}
use Rattle.melon_script.specs.declared.line.Line.{Line}
use Rattle.melon_script.specs.Forms.{is_blank}
use Rattle.melon_script.specs.Seen.{ReadsLine}
use Rattle.melon_script.specs.Lines.{lines_of}
use Rattle.melon_script.specs.Script.{forms_in, forms_of, first_form, bad_from, bad_line, IsLine, IsOutside}
use Rattle.melon_script.specs.Printed.{answer_text}
use Rattle.melon_machine.specs.Calls.{Calls, Done, failures, RoseBy, Follows, Begins}
use Rattle.melon_machine.specs.State.{Machine, KeptMachine, none_open}
use Rattle.melon_machine.specs.Outcomes.{Stepped, ends_with}
use Rattle.melon_machine.specs.Sound.{IsSound}
use Rattle.melon_machine.specs.Step.{step}
use Rattle.melon_machine.specs.Run.{Ran, run, by_form, line_calls, ComesTo}
use Rattle.melon_machine.proofs.Followed.{same_is, rose_more}
use Rattle.melon_machine.proofs.Lasted.{none_sound}
use Rattle.melon_machine.proofs.Ran as machine
use Rattle.melon_script.specs.Seen.{seen}
use Rattle.melon_script.specs.Forms.{line_of}
use Rattle.melon_script.specs.declared.item.Item.{Item}
use Rattle.melon_machine.specs.Legal.{IsKeptAs}
use Rattle.melon_world.specs.Handled.{MeetsAs, InterruptsAs}
use Rattle.melon_cli.specs.Runs as runs
use Rattle.melon_cli.specs.Runs.{RunsWhole, RanSoFar, RunsSoFar, RunsTo, IsBegun, Pends, PendsFront, Takes, IsUntouched}
use Rattle.melon_cli.proofs.Fronts.{pends_all, pends_more, pends_written, pends_cut, pends_front, front_written, written_cut, front_written_cut}

-- The run has come to these lines, and the world has the stores of its apps.
pub record At (script : List ℕ) (was m : Stores) (old new : SeenKeeper) (world : KeptMachine) (rest : List SeenLine) (Shows : List ℕ → Type 0) : Type 0 where
  pub outcomes : List Bool
  pub printed : List ℕ
  pub now : Machine
  pub comes : ComesTo script was outcomes printed now m rest
  pub answered : Answered outcomes old new
  pub rose : RoseBy (failures outcomes) old.faults new.faults
  pub sound : IsSound now m
  pub as_kept : IsKeptAs now world
  pub shows : Shows printed

pub record Progress (script : List ℕ) (old new : SeenKeeper) (before after : Option (List ℕ)) (pending : List ℕ) (world : KeptMachine) (rest : List ℕ) (number : ℕ) : Type 0 where
  pub bad_is : bad_from number (lines_of rest) ≡ bad_line script
  pub goes : (m : Stores) → new.holds m → (was : Stores) × old.holds was × At script was m old new world (forms_of (lines_of rest)) (Pends before after pending)

-- ---- the line that was begun

-- nothing of it was
begun_nothing : (now : Machine) (rest : List SeenLine) (m : Stores) → IsBegun [] now rest m
begun_nothing now [] m = refl
begun_nothing now (line ∷ rest) m = tt

begun_of_done : (end : Stepped Machine) (begun : List Bool) (m : Stores) → Begins begun (Done end) m → begun ≡ []
begun_of_done end [] m h = refl
begun_of_done end (o ∷ begun) m h = absurd h

-- what is begun of a line of bytes is begun of its form
begun_by_form : (blank : Bool) (form : Option SeenLine) (rest : List SeenLine) (now : Machine) (begun : List Bool) (m : Stores) → Begins begun (if blank then Done (ends_with now []) else by_form now form) m → IsBegun begun now (if blank then rest else first_form form rest) m
begun_by_form true form rest now begun m h = subst (λ (b : List Bool). IsBegun b now rest m) (sym (begun_of_done (ends_with now []) begun m h)) (begun_nothing now rest m)
begun_by_form false None rest now begun m h = begun_of_done (ends_with now []) begun m h
begun_by_form false (Some line) rest now begun m h = h

begun_of_bytes : (bytes : List ℕ) (more : List (List ℕ)) (now : Machine) (begun : List Bool) (m : Stores) → Begins begun (line_calls now bytes) m → IsBegun begun now (forms_of (bytes ∷ more)) m
begun_of_bytes bytes more now begun m h = begun_by_form (is_blank bytes) (line_of bytes) (forms_of more) now begun m h

-- ---- how far a run has come

-- it goes no further, but for what was begun of its next line
so_far : {script : List ℕ} {was mid : Stores} (m : Stores) {old between new : SeenKeeper} {world : KeptMachine} {rest : List SeenLine} {P Q : List ℕ → Type 0} (at : At script was mid old between world rest P) (begun : List Bool) → AreSame m mid
    → IsBegun begun at.now rest mid → Answered begun between new → RoseBy (failures begun) between.faults new.faults → ((printed : List ℕ) → P printed → Q printed) → RanSoFar script was m old new rest Q
so_far {script} {was} {mid} m {old} {between} {new} {world} {rest} {P} {Q} at begun same next answered rose more = record {
  outcomes = at.outcomes;
  begun = begun;
  printed = at.printed;
  now = at.now;
  comes = subst (λ (k : Stores). ComesTo script was at.outcomes at.printed at.now k rest) (sym (same_is m mid same)) at.comes;
  next = subst (IsBegun begun at.now rest) (sym (same_is m mid same)) next;
  answered = answered_more old between new at.outcomes begun at.answered answered;
  rose = rose_more at.outcomes begun old.faults between.faults new.faults at.rose rose;
  sound = subst (IsSound at.now) (sym (same_is m mid same)) at.sound;
  shows = more at.printed at.shows;
}

-- nothing was begun
come_to : {script : List ℕ} {was m : Stores} {old new : SeenKeeper} {world : KeptMachine} {rest : List SeenLine} {P Q : List ℕ → Type 0} (at : At script was m old new world rest P) → ((printed : List ℕ) → P printed → Q printed) → RanSoFar script was m old new rest Q
come_to {script} {was} {m} {old} {new} {world} {rest} at more = so_far m at [] (λ name. refl) (begun_nothing at.now rest m) (answered_none new) (omega arith) more

-- the same, shown otherwise
shown_as : {script : List ℕ} {was m : Stores} {old new : SeenKeeper} {rest : List SeenLine} {P Q : List ℕ → Type 0} → RanSoFar script was m old new rest P → ((printed : List ℕ) → P printed → Q printed) → RanSoFar script was m old new rest Q
shown_as r more = record {
  outcomes = r.outcomes;
  begun = r.begun;
  printed = r.printed;
  now = r.now;
  comes = r.comes;
  next = r.next;
  answered = r.answered;
  rose = r.rose;
  sound = r.sound;
  shows = more r.printed r.shows;
}

module _ (script : List ℕ) (old : SeenKeeper) (before : Option (List ℕ)) where
  pub at_start : (pending : List ℕ) (world : KeptMachine) → ((m : Stores) → old.holds m → (name : List ℕ) → is_in_order (m name) ≡ true) → pending ≡ [] → world ≡ none_open → Progress script old old before before pending world script 0
  unfolding bad_line forms_in
  at_start pending world ordered none new = record {
    bad_is = refl;
    goes = λ m told. (
      m,
      told,
      record {
        outcomes = [];
        printed = [];
        now = none_open;
        comes = machine.at_start script m;
        answered = answered_none old;
        rose = omega arith;
        sound = none_sound m (ordered m told);
        as_kept = record { same = sym new; legal = record { apps = tt; server = tt } };
        shows = pends_all before pending [] none;
      },
    );
  }

  module _ (mid : SeenKeeper) (written : Option (List ℕ)) (pending : List ℕ) (world : KeptMachine) (rest : List ℕ) (number : ℕ) (p : Progress script old mid before written pending world rest number)
      (bytes later : List ℕ) (is : lines_of rest ≡ bytes ∷ lines_of later) (new : SeenKeeper) where
    -- one line more, however its text is shown
    line_more : (world' : KeptMachine) (Shows Left : List ℕ → Type 0) → IsLine bytes → Takes (λ m. line_calls m bytes) world world' mid new Shows
        → ((printed text : List ℕ) → Pends before written pending printed → Shows text → Left (printed ++ text))
        → (m : Stores) → new.holds m → (was : Stores) × old.holds was × At script was m old new world' (forms_of (lines_of later)) Left
    line_more world' Shows Left line takes more m told =
        let t = takes m told in
        let g = p.goes t.0 t.1 in
        let at = g.2 in
        let f = t.4 at.now at.as_kept in
        let o = machine.one_line_more script g.0 at.outcomes at.printed at.now t.0 bytes (lines_of later) f.0 world' t.2 m line
        (subst (λ (ls : List (List ℕ)). ComesTo script g.0 at.outcomes at.printed at.now t.0 (forms_of ls)) is at.comes)
        f.1 at.as_kept.legal in (
          g.0,
          g.1,
          record {
            outcomes = at.outcomes ++ f.0;
            printed = at.printed ++ answer_text t.2;
            now = o.0;
            comes = o.2;
            answered = answered_more old mid new at.outcomes f.0 at.answered f.3;
            rose = rose_more at.outcomes f.0 old.faults mid.faults new.faults at.rose f.2;
            sound = o.3 at.sound;
            as_kept = o.1;
            shows = more at.printed (answer_text t.2) at.shows t.3;
          },
        )

    pub after_line : (world' : KeptMachine) (after : Option (List ℕ)) (pending' : List ℕ) → IsLine bytes
        → Takes (λ m. line_calls m bytes) world world' mid new (λ text. Pends written after pending' (pending ++ text)) → Progress script old new before after pending' world' later (number + 1)
    after_line world' after pending' line takes = record {
      bad_is = sym (ap (bad_from number) is ∙ machine.bad_later number bytes (lines_of later) line) ∙ p.bad_is;
      goes = line_more world' (λ text. Pends written after pending' (pending ++ text)) (Pends before after pending') line takes
          (λ printed text shown more. pends_more before written after pending printed text pending' (printed ++ text) shown more refl);
    }

    same_pends : (after : Option (List ℕ)) (pending' : List ℕ) → IsUntouched written after pending pending' → (printed : List ℕ) → Pends before written pending printed → Pends before after pending' printed
    same_pends after pending' u printed shown = subst (λ (a : Option (List ℕ)). Pends before a pending' printed) (sym u.0) (subst (λ (q : List ℕ). Pends before written q printed) (sym u.1) shown)

    -- the line is outside the grammar, and the keeper was asked nothing
    pub at_outside : (after : Option (List ℕ)) (pending' : List ℕ) → IsOutside bytes → IsUntouched written after pending pending' → (bad_line script ≡ Some (number + 1)) × RunsTo script old mid [] (Pends before after pending')
    at_outside after pending' outside untouched = (
      sym p.bad_is ∙ ap (bad_from number) is ∙ machine.bad_here number bytes (lines_of later) outside.0 outside.1,
      λ m told.
          let g = p.goes m told in
          let at = g.2 in (
            g.0,
            g.1,
            come_to (record {
              outcomes = at.outcomes;
              printed = at.printed;
              now = at.now;
              comes = machine.at_bad script g.0 at.outcomes at.printed at.now m bytes (lines_of later) outside.0 outside.1
                  (subst (λ (ls : List (List ℕ)). ComesTo script g.0 at.outcomes at.printed at.now m (forms_of ls)) is at.comes);
              answered = at.answered;
              rose = at.rose;
              sound = at.sound;
              as_kept = at.as_kept;
              shows = at.shows;
            }) (same_pends after pending' untouched),
          ),
    )

    -- memory ran out before the machine did anything, and the line may be begun
    pub stopped_before : (after : Option (List ℕ)) (pending' : List ℕ) → IsUntouched written after pending pending' → InterruptsAs (λ m. line_calls m bytes) world mid new → RunsSoFar script old new (PendsFront before after pending')
    stopped_before after pending' untouched interrupted m told =
        let h = interrupted m told in
        let g = p.goes h.0 h.1 in
        let f = h.3 g.2.now g.2.as_kept in
        let next = subst (λ (ls : List (List ℕ)). IsBegun f.0 g.2.now (forms_of ls) h.0) (sym is) (begun_of_bytes bytes (lines_of later) g.2.now f.0 h.0 f.1) in
        (g.0, g.1, forms_of (lines_of rest), so_far m g.2 f.0 h.2 next f.3 f.2 (λ printed shown. front_kept printed after pending' untouched shown))
      where
        front_kept : (printed : List ℕ) (after : Option (List ℕ)) (pending' : List ℕ) → IsUntouched written after pending pending' → Pends before written pending printed → PendsFront before after pending' printed
        front_kept printed after pending' u shown =
            subst (λ (w : List ℕ). PendsFront before after pending' w) (append-nil printed) (pends_front before after pending' printed [] (same_pends after pending' u printed shown))

    -- memory ran out before the text of the line was added
    pub stopped_after : (world' : KeptMachine) (after : Option (List ℕ)) (pending' : List ℕ) → IsUntouched written after pending pending' → IsLine bytes
        → Takes (λ m. line_calls m bytes) world world' mid new (λ _. Unit {0}) → RunsSoFar script old new (PendsFront before after pending')
    stopped_after world' after pending' u line takes m told =
        let l = line_more world' (λ _. Unit {0}) (PendsFront before after pending') line takes (λ printed text shown _. pends_front before after pending' printed text (same_pends after pending' u printed shown)) m told in
        (l.0, l.1, forms_of (lines_of later), come_to l.2 (λ printed shown. shown))

    pub stopped : (world' : KeptMachine) (after : Option (List ℕ)) (pending' : List ℕ) → IsUntouched written after pending pending'
        → InterruptsAs (λ m. line_calls m bytes) world mid new ⊎ (IsLine bytes × Takes (λ m. line_calls m bytes) world world' mid new (λ _. Unit {0})) → RunsSoFar script old new (PendsFront before after pending')
    stopped world' after pending' u (inl interrupted) = stopped_before after pending' u interrupted
    stopped world' after pending' u (inr taken) = stopped_after world' after pending' u taken.0 taken.1

    -- the output failed
    pub cut_short : (world' : KeptMachine) (after : Option (List ℕ)) → IsLine bytes
        → Takes (λ m. line_calls m bytes) world world' mid new (λ text. GrowsByFront written after (pending ++ text)) → RunsSoFar script old new (GrowsByFront before after)
    cut_short world' after line takes m told =
        let l = line_more world' (λ text. GrowsByFront written after (pending ++ text)) (GrowsByFront before after) line takes
        (λ printed text shown cut. pends_cut before written after pending printed text [] (printed ++ text) shown cut (append-nil (printed ++ text))) m told in
        (l.0, l.1, forms_of (lines_of later), come_to l.2 (λ printed shown. shown))

  module _ (new : SeenKeeper) where
    -- nothing is left
    pub at_end : (after : Option (List ℕ)) (pending : List ℕ) (world : KeptMachine) (rest : List ℕ) (number : ℕ) → Progress script old new before after pending world rest number → length rest ≡ 0
        → (bad_line script ≡ None) × RunsTo script old new [] (Pends before after pending)
    at_end after pending world rest number p none =
        let is : rest ≡ [] = empty_from rest none in (
          sym p.bad_is ∙ ap (λ (r : List ℕ). bad_from number (lines_of r)) is,
          λ m told.
              let g = p.goes m told in
              (g.0, g.1, subst (λ (r : List ℕ). RanSoFar script g.0 m old new (forms_of (lines_of r)) (Pends before after pending)) is (come_to g.2 (λ printed shown. shown))),
        )
      where
        empty_from : (xs : List ℕ) → length xs ≡ 0 → xs ≡ []
        empty_from [] h = refl
        empty_from (x ∷ xs) h = absurd (omega (arith, h))

    pub front_of : (after : Option (List ℕ)) (pending : List ℕ) (rest : List SeenLine) → RunsTo script old new rest (Pends before after pending) → RunsSoFar script old new (PendsFront before after pending)
    front_of after pending rest r m told =
        let g = r m told in
        (g.0, g.1, rest, shown_as g.2 (λ printed shown. subst (λ (w : List ℕ). PendsFront before after pending w) (append-nil printed) (pends_front before after pending printed [] shown)))

    -- ---- the last write

    -- where nothing is left to run, nothing was begun
    all_whole : (outcomes begun : List Bool) → begun ≡ [] → outcomes ++ begun ≡ outcomes
    all_whole outcomes begun none = ap (λ b. outcomes ++ b) none ∙ append-nil outcomes

    pub whole : (written after : Option (List ℕ)) (pending : List ℕ) → RunsTo script old new [] (Pends before written pending) → Grows written after pending → RunsWhole script old new before after
    whole written after pending r grows m told =
        let g = r m told in
        let at = g.2 in
        let only = all_whole at.outcomes at.begun at.next in
        let end = machine.at_end script g.0 at.outcomes at.printed at.now m at.comes in (
          g.0,
          g.1,
          record {
            outcomes = at.outcomes;
            each = λ later. ap (λ (e : Ran). e.left) (at.comes.goes later);
            answered = subst (λ (o : List Bool). Answered o old new) only at.answered;
            rose = subst (λ (o : List Bool). RoseBy (failures o) old.faults new.faults) only at.rose;
            written = subst (λ (t : List ℕ). Grows before after t) (sym (ap (λ (e : Ran). e.text) end)) (pends_written before written after pending at.printed at.shows grows);
            kept = λ name. sym (ap (λ (e : Ran). e.kept name) end);
            sound = subst (λ (e : Ran). IsSound e.after e.kept) (sym end) at.sound;
          },
        )

    pub front_was_written : (written after : Option (List ℕ)) (pending : List ℕ) → RunsSoFar script old new (PendsFront before written pending) → Grows written after pending → RunsSoFar script old new (GrowsByFront before after)
    front_was_written written after pending r grows m told =
        let g = r m told in
        (g.0, g.1, g.2, shown_as g.3 (λ printed shown. front_written before written after pending printed shown grows))

    pub front_was_cut : (written after : Option (List ℕ)) (pending : List ℕ) → RunsSoFar script old new (PendsFront before written pending) → GrowsByFront written after pending → RunsSoFar script old new (GrowsByFront before after)
    front_was_cut written after pending r cut m told =
        let g = r m told in
        (g.0, g.1, g.2, shown_as g.3 (λ printed shown. front_written_cut before written after pending printed shown cut))

-- a blank line asks nothing of the keeper and prints nothing
pub takes_blank : (world : KeptMachine) (bytes : List ℕ) (read : Option Line) (keeper : SeenKeeper) (before : Option (List ℕ)) (pending : List ℕ) → ReadsLine bytes (Ok read) → read ≡ None
    → Takes (λ m. line_calls m bytes) world world keeper keeper (λ text. Pends before before pending (pending ++ text))
takes_blank world bytes read keeper before pending h none m told =
    let blank : is_blank bytes ≡ true = subst (λ (r : Option Line). ReadsLine bytes (Ok r)) none h in (
      m,
      told,
      [],
      pends_all before pending (pending ++ []) (sym (append-nil pending)),
      λ app_machine as_kept. (
        [],
        subst (λ (calls : Calls (Stepped KeptMachine)). Follows calls m [] (ends_with world []) m) (machine.calls_of_blank app_machine bytes blank) (refl, ap (λ (w : KeptMachine). ends_with w []) as_kept.same, λ name. refl),
        omega arith,
        answered_none keeper,
      ),
    )

-- a line that was read
pub takes_line : (world left : KeptMachine) (bytes : List ℕ) (read : Option Line) (line : Line) (old new : SeenKeeper) (Shows : List ℕ → Type 0) → ReadsLine bytes (Ok read) → read ≡ Some line
    → Takes (λ m. step m (seen line)) world left old new Shows → Takes (λ m. line_calls m bytes) world left old new Shows
takes_line world left bytes read line old new Shows h some takes m told =
    let is : (is_blank bytes ≡ false) × (line_of bytes ≡ Some (seen line)) = subst (λ (r : Option Line). ReadsLine bytes (Ok r)) some h in
    let t = takes m told in (
      t.0,
      t.1,
      t.2,
      t.3,
      λ app_machine as_kept.
          let f = t.4 app_machine as_kept in
          (f.0, subst (λ (calls : Calls (Stepped KeptMachine)). Follows calls t.0 f.0 (ends_with left t.2) m) (machine.calls_of_line app_machine bytes (seen line) is.0 is.1) f.1, f.2, f.3),
    )

-- a step whose text is shown so
pub takes_step : (calls : Machine → Calls (Stepped Machine)) (was now : KeptMachine) (old new : SeenKeeper) (items : List Item) (Shows : List ℕ → Type 0) → MeetsAs calls was old new (ends_with now items) → Shows (answer_text items) → Takes calls was now old new Shows
takes_step calls was now old new items Shows met shows m told = (let t = met m told in (t.0, t.1, items, shows, t.2))

-- before a line was read nothing was asked
pub begins_nothing : (calls : Machine → Calls (Stepped Machine)) (world : KeptMachine) (keeper : SeenKeeper) → InterruptsAs calls world keeper keeper
begins_nothing calls world keeper m told = (m, told, λ name. refl, λ app_machine as_kept. ([], tt, omega arith, answered_none keeper))

-- a line that was read and begun
pub begins_line : (world : KeptMachine) (bytes : List ℕ) (read : Option Line) (line : Line) (old new : SeenKeeper) → ReadsLine bytes (Ok read) → read ≡ Some line
    → InterruptsAs (λ m. step m (seen line)) world old new → InterruptsAs (λ m. line_calls m bytes) world old new
begins_line world bytes read line old new h some begins m told =
    let is : (is_blank bytes ≡ false) × (line_of bytes ≡ Some (seen line)) = subst (λ (r : Option Line). ReadsLine bytes (Ok r)) some h in
    let t = begins m told in (
      t.0,
      t.1,
      t.2,
      λ app_machine as_kept.
          let f = t.3 app_machine as_kept in
          (f.0, machine.begins_line app_machine bytes (seen line) f.0 t.0 is.0 is.1 f.1, f.2, f.3),
    )
