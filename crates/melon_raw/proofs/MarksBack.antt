-- Joined marks are read back.
use Rattle.std.proofs.Common.{◌≡◌, ℕ, zero, suc, ◌+◌, ◌<◌, ◌==◌, Bool, true, false, not, ◌&&◌, ◌||◌, cond, nat_lt, List, [], ◌∷◌, ◌++◌, length, Option, Some, None, option_map, bytes_eq, refl, sym, ap, ◌∙◌, subst, arith, append_assoc, append-nil, nat_le}
use Rattle.std.specs.List.{list_any, list_all, position_or_len}
use Rattle.std.proofs.lemmas.Slice.Eq.{bytes_eq-Decides}
use Rattle.std.proofs.lemmas.List.Quantifiers.{position-Some}
use Rattle.melon_schema.specs.Json.{◌>>=◌}
use Rattle.melon_schema.specs.Names.{is_name, continues_name, are_distinct}
use Rattle.melon_schema.specs.Places.{column_named}
use Rattle.melon_schema.specs.Sound.{is_well_named, AreSound}
use Rattle.melon_schema.specs.declared.schema.ColumnSchema.{ColumnSchema}
use Rattle.melon_raw.specs.Rows.{has, are_marks, no_column, column_at}
use Rattle.melon_raw.specs.Encoding.{after_commas, joined, mark_names, marks_text}
use Rattle.melon_raw.specs.Decoding.{longer, pieces, marked_once, marks_named, marks_in}
use Rattle.melon_raw.proofs.Fitting.{both, neither, other_way, are_marks-append}

pub bound : {A B : Type 0} (o : Option A) (f : A → Option B) (y : B) → (o >>= f) ≡ Some y → (x : A) × (o ≡ Some x) × (f x ≡ Some y)
bound None f y h = cc
bound (Some x) f y h = (x, refl, h)

pub mapped : {A B : Type 0} (o : Option A) (f : A → B) (y : B) → option_map f o ≡ Some y → (x : A) × (o ≡ Some x) × (f x ≡ y)
mapped None f y h = cc
mapped (Some x) f y h = (x, refl, cc)

pub falsely : (b : Bool) → not b ≡ true → b ≡ false
falsely true h = cc
falsely false h = refl

pub same_bytes : (a : List ℕ) → bytes_eq a a ≡ true
same_bytes a = (bytes_eq-Decides a a).1 refl

pub other_bytes : (a b : List ℕ) → bytes_eq a b ≡ false → bytes_eq b a ≡ false
other_bytes a b h = by_case (bytes_eq b a) refl
  where
    by_case : (t : Bool) → bytes_eq b a ≡ t → t ≡ false
    by_case true is = let e : bytes_eq a b ≡ true = (bytes_eq-Decides a b).1 (sym ((bytes_eq-Decides b a).0 is)) in cc
    by_case false is = refl

-- ---- texts without commas, joined, are the pieces

abbrev pub no_comma : List ℕ → Bool
no_comma text = list_all (λ b. not (b == 44)) text

abbrev pub no_commas : List (List ℕ) → Bool
no_commas texts = list_all no_comma texts

before_comma : (text rest : List ℕ) (later : List (List ℕ)) → no_comma text ≡ true → pieces rest ≡ [] ∷ later → pieces (text ++ rest) ≡ text ∷ later
before_comma [] rest later h k = k
before_comma (b ∷ bs) rest later h k =
    let t = both (not (b == 44)) (no_comma bs) h in
    ap (λ (x : Bool). cond x ([] ∷ pieces (bs ++ rest)) (longer b (pieces (bs ++ rest)))) (falsely (b == 44) t.0)
    ∙ ap (longer b) (before_comma bs rest later t.1 k)

pieces-after_commas : (texts : List (List ℕ)) → no_commas texts ≡ true → pieces (after_commas texts) ≡ [] ∷ texts
pieces-after_commas [] h = refl
pieces-after_commas (text ∷ texts) h =
    let t = both (no_comma text) (no_commas texts) h in
    ap (λ (ps : List (List ℕ)). [] ∷ ps) (before_comma text (after_commas texts) texts t.0 (pieces-after_commas texts t.1))

pub pieces-joined : (text : List ℕ) (texts : List (List ℕ)) → no_commas (text ∷ texts) ≡ true → pieces (joined (text ∷ texts)) ≡ text ∷ texts
pieces-joined text texts h =
    let t = both (no_comma text) (no_commas texts) h in
    before_comma text (after_commas texts) texts t.0 (pieces-after_commas texts t.1)

-- ---- names hold no comma

no_comma-continues : (b : ℕ) → continues_name b ≡ true → not (b == 44) ≡ true
no_comma-continues b h = by_case (b == 44) refl
  where
    by_case : (t : Bool) → (b == 44) ≡ t → not t ≡ true
    by_case true is =
        let e : b ≡ 44 = grind (arith, is) in
        let c : continues_name 44 ≡ true = subst (λ (x : ℕ). continues_name x ≡ true) e h in
        cc
    by_case false is = refl

no_comma-all : (text : List ℕ) → list_all continues_name text ≡ true → no_comma text ≡ true
no_comma-all [] h = refl
no_comma-all (b ∷ bs) h =
    let t = both (continues_name b) (list_all continues_name bs) h in
    ap (λ (x : Bool). x && no_comma bs) (no_comma-continues b t.0) ∙ no_comma-all bs t.1

pub no_comma-name : (name : List ℕ) → is_name name ≡ true → no_comma name ≡ true
unfolding is_name
no_comma-name name h =
    let a = both (nat_lt 0 (length name)) _ h in
    let b = both (nat_le (length name) 64) _ a.1 in
    let c = both _ (list_all continues_name name) b.1 in
    no_comma-all name c.1

pub filled-name : (name : List ℕ) → is_name name ≡ true → 0 < length name
unfolding is_name
filled-name name h =
    let a = both (nat_lt 0 (length name)) _ h in
    let e : nat_lt 0 (length name) ≡ true = a.0 in
    grind (arith, e)

-- ---- a column by its name

pub named_at : (columns : List ColumnSchema) (m : ℕ) → list_all is_well_named columns ≡ true → m < length columns → is_name (column_at columns m).name ≡ true
named_at [] m h within = absurd (omega (arith, within))
named_at (c ∷ cs) zero h within = (both (is_name c.name) _ (both (is_well_named c) (list_all is_well_named cs) h).0).0
named_at (c ∷ cs) (suc m) h within = named_at cs m (both (is_well_named c) (list_all is_well_named cs) h).1 (omega (arith, within))

none_at : (name : List ℕ) (columns : List ColumnSchema) (m : ℕ) → list_any (λ c. bytes_eq c.name name) columns ≡ false → m < length columns → bytes_eq (column_at columns m).name name ≡ false
none_at name [] m h within = absurd (omega (arith, within))
none_at name (c ∷ cs) zero h within = (neither (bytes_eq c.name name) _ h).0
none_at name (c ∷ cs) (suc m) h within = none_at name cs m (neither (bytes_eq c.name name) _ h).1 (omega (arith, within))

first_named : (columns : List ColumnSchema) (m : ℕ) → are_distinct (λ c. c.name) columns ≡ true → m < length columns
    → position_or_len (λ c. bytes_eq c.name (column_at columns m).name) columns ≡ m
first_named [] m h within = absurd (omega (arith, within))
first_named (c ∷ cs) zero h within = ap (λ (x : Bool). cond (not x) (1 + position_or_len (λ d. bytes_eq d.name c.name) cs) 0) (same_bytes c.name)
first_named (c ∷ cs) (suc m) h within =
    let t = both (not (list_any (λ d. bytes_eq d.name c.name) cs)) (are_distinct (λ d. d.name) cs) h in
    let in_cs : m < length cs = omega (arith, within) in
    let other = other_bytes (column_at cs m).name c.name (none_at c.name cs m (falsely _ t.0) in_cs) in
    let later = first_named cs m t.1 in_cs in
    ap (λ (x : Bool). cond (not x) (1 + position_or_len (λ d. bytes_eq d.name (column_at cs m).name) cs) 0) other
    ∙ omega (arith, later)

pub column_named-at : (columns : List ColumnSchema) (m : ℕ) → are_distinct (λ c. c.name) columns ≡ true → m < length columns → column_named (column_at columns m).name columns ≡ Some m
column_named-at columns m h within =
    let e = first_named columns m h within in
    let t : nat_lt m (length columns) ≡ true = grind (arith, within) in
    ap (λ (k : ℕ). cond (nat_lt k (length columns)) (Some k) None) e ∙ ap (λ (x : Bool). cond x (Some m) None) t

pub column_named-within : (name : List ℕ) (columns : List ColumnSchema) (c : ℕ) → column_named name columns ≡ Some c → c < length columns
column_named-within name columns c h = (position-Some (λ d. bytes_eq d.name name) columns c no_column h).0

-- ---- marks are read back

last_differs : (x m : ℕ) (front back : List ℕ) → has x (front ++ m ∷ back) ≡ false → (x == m) ≡ false
last_differs x m [] back h = (neither (x == m) (has x back) h).0
last_differs x m (f ∷ fs) back h = last_differs x m fs back (neither (x == f) (has x (fs ++ m ∷ back)) h).1

once : (n m : ℕ) (front back : List ℕ) → are_marks n (front ++ m ∷ back) ≡ true → has m front ≡ false
once n m [] back h = refl
once n m (f ∷ fs) back h =
    let a = both (nat_lt f n) _ h in
    let b = both (not (has f (fs ++ m ∷ back))) (are_marks n (fs ++ m ∷ back)) a.1 in
    ap (λ (x : Bool). x || has m fs) (other_way f m (last_differs f m fs back (falsely _ b.0))) ∙ once n m fs back b.1

mark_within : (n m : ℕ) (front back : List ℕ) → are_marks n (front ++ m ∷ back) ≡ true → m < n
mark_within n m [] back h = let e : nat_lt m n ≡ true = (both (nat_lt m n) _ h).0 in grind (arith, e)
mark_within n m (f ∷ fs) back h = mark_within n m fs back (both (not (has f (fs ++ m ∷ back))) (are_marks n (fs ++ m ∷ back)) (both (nat_lt f n) _ h).1).1

module _ (columns : List ColumnSchema) (sound : AreSound columns) where
  marks_back : (front marks : List ℕ) → are_marks (length columns) (front ++ marks) ≡ true → marks_named columns front (mark_names columns marks) ≡ Some (front ++ marks)
  marks_back front [] h = ap Some (sym (append-nil front))
  marks_back front (m ∷ ms) h =
      let regrouped = append_assoc front (m ∷ []) ms in
      ap (λ o. o >>= λ c. marked_once c front >>= λ more. marks_named columns more (mark_names columns ms)) (column_named-at columns m sound.distinct (mark_within (length columns) m front ms h))
      ∙ ap (λ (x : Bool). (cond x None (Some (front ++ m ∷ []))) >>= λ more. marks_named columns more (mark_names columns ms)) (once (length columns) m front ms h)
      ∙ marks_back (front ++ m ∷ []) ms (subst (λ (all : List ℕ). are_marks (length columns) all ≡ true) (sym regrouped) h)
      ∙ ap Some regrouped

  no_commas-names : (marks : List ℕ) → are_marks (length columns) marks ≡ true → no_commas (mark_names columns marks) ≡ true
  no_commas-names [] h = refl
  no_commas-names (m ∷ ms) h =
      let a = both (nat_lt m (length columns)) _ h in
      let b = both (not (has m ms)) (are_marks (length columns) ms) a.1 in
      let within : m < length columns = mark_within (length columns) m [] ms h in
      ap (λ (x : Bool). x && no_commas (mark_names columns ms)) (no_comma-name (column_at columns m).name (named_at columns m sound.named within)) ∙ no_commas-names ms b.1

  -- the marks of a row that fits are read back from their text
  pub marks_in-text : (marks : List ℕ) → are_marks (length columns) marks ≡ true → marks_in columns (marks_text columns marks) ≡ Some marks
  marks_in-text [] h = refl
  marks_in-text (m ∷ ms) h =
      let within : m < length columns = mark_within (length columns) m [] ms h in
      let text : List ℕ = marks_text columns (m ∷ ms) in
      let long : 0 < length text = longer_than (column_at columns m).name (after_commas (mark_names columns ms)) (filled-name (column_at columns m).name (named_at columns m sound.named within)) in
      let filled : (length text == 0) ≡ false = grind (arith, long) in
      ap (λ (x : Bool). cond x (Some []) (marks_named columns [] (pieces text))) filled
      ∙ ap (λ (ps : List (List ℕ)). marks_named columns [] ps) (pieces-joined (column_at columns m).name (mark_names columns ms) (no_commas-names (m ∷ ms) h))
      ∙ marks_back [] (m ∷ ms) h
    where
      longer_than : (xs ys : List ℕ) → 0 < length xs → 0 < length (xs ++ ys)
      longer_than [] ys h = absurd (omega (arith, h))
      longer_than (x ∷ xs) ys h = omega arith

-- ---- what is read are marks

marked_once-is : (c : ℕ) (marks more : List ℕ) (b : Bool) → has c marks ≡ b → cond b None (Some (marks ++ c ∷ [])) ≡ Some more → (has c marks ≡ false) × (marks ++ c ∷ [] ≡ more)
marked_once-is c marks more true is h = cc
marked_once-is c marks more false is h = (is, cc)

are_marks-named : (columns : List ColumnSchema) (front : List ℕ) (names : List (List ℕ)) (marks : List ℕ) → are_marks (length columns) front ≡ true → marks_named columns front names ≡ Some marks → are_marks (length columns) marks ≡ true
are_marks-named columns front [] marks h k = let e : front ≡ marks = cc in subst (λ (all : List ℕ). are_marks (length columns) all ≡ true) e h
are_marks-named columns front (name ∷ names) marks h k =
    let a = bound (column_named name columns) (λ c. marked_once c front >>= λ more. marks_named columns more names) marks k in
    let b = bound (marked_once a.0 front) (λ more. marks_named columns more names) marks a.2 in
    let d = marked_once-is a.0 front b.0 (has a.0 front) refl b.1 in
    let e = are_marks-append (length columns) a.0 front h d.0 (column_named-within name columns a.0 a.1) in
    are_marks-named columns b.0 names marks (subst (λ (all : List ℕ). are_marks (length columns) all ≡ true) d.1 e) b.2

pub are_marks-in : (columns : List ColumnSchema) (text marks : List ℕ) → marks_in columns text ≡ Some marks → are_marks (length columns) marks ≡ true
are_marks-in columns text marks h = by_case (length text == 0) h
  where
    by_case : (b : Bool) → cond b (Some []) (marks_named columns [] (pieces text)) ≡ Some marks → are_marks (length columns) marks ≡ true
    by_case true k = let e : [] ≡ marks = cc in subst (λ (all : List ℕ). are_marks (length columns) all ≡ true) e refl
    by_case false k = are_marks-named columns [] (pieces text) marks refl k
