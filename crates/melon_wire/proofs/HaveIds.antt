-- What is read has ids in the place of ids.
use Rattle.std.proofs.Common.{◌≡◌, ℕ, List, [], ◌∷◌, ◌++◌, map, Bool, true, false, ◌&&◌, Option, Some, None, Result, Ok, Err, IfOk, refl, sym, ap, ◌∙◌, subst, codes}
use Rattle.std.specs.Prelude.{⊤}
use Rattle.std.specs.List.{list_all}
use Rattle.std.proofs.lemmas.Bool.{and_parts}
use Rattle.serde_json.specs.Data.{Data, Members}
use Rattle.serde_json.specs.Find.{get, as_str, as_object}
use Rattle.melon_schema.specs.Bytes.{json_of}
use Rattle.melon_schema.specs.Faults.{◌>>=◌, unless, or_fault, in_turn, each_read, Gives}
use Rattle.melon_schema.specs.Json.{named, has_only, text_at, count_of}
use Rattle.melon_schema.specs.Names.{is_name, is_id}
use Rattle.melon_raw.specs.declared.datum.OpField.{OpField}
use Rattle.melon_wire.specs.declared.changes.Remote.{Remote}
use Rattle.melon_wire.specs.declared.changes.TableChanges.{TableChanges}
use Rattle.melon_wire.specs.declared.changes.Changes.{Changes}
use Rattle.melon_wire.specs.declared.pull.PullReply.{PullReply}
use Rattle.melon_wire.specs.declared.wire_fault.WireFault.{WireFault}
use Rattle.melon_wire.specs.declared.wire_fault.WireFault.TheVariants.{NotJson, Form, Number, Name, BadId, Memory}
use Rattle.melon_wire.specs.Reading.{fields_of, id_in, id_at, row_of, id_of, items_at, table_of, changes_of, reply_of, changes_in, reply_in}
use Rattle.melon_wire.specs.Standing.{ids_listed, has_ids}

-- ---- steps

-- what holds after the second of two steps
later : {A B : Type 0} (Q : Type 0) (r : Result A WireFault) (f : A → Result B WireFault) (y : B) → ((x : A) → r ≡ Ok x → f x ≡ Ok y → Q) → (r >>= f) ≡ Ok y → Q
later Q (Ok x) f y so h = so x refl h
later Q (Err e) f y so h = cc

abbrev AreOk : {A : Type 0} → A → A → Type 0
AreOk {A} a b = let r : Result A WireFault = Ok a in r ≡ Ok b

same_ok : {A : Type 0} (a b : A) → AreOk a b → a ≡ b
same_ok a b h = cc

module _ {Y : Type 0} (p : Y → Bool) where
  all_both : (xs ys : List Y) → list_all p xs ≡ true → list_all p ys ≡ true → list_all p (xs ++ ys) ≡ true
  all_both [] ys h k = k
  all_both (x ∷ xs) ys h k = let t : (p x ≡ true) × (list_all p xs ≡ true) = and_parts (p x) (list_all p xs) h in rw t.0 (all_both xs ys t.1 k)

  all_one : (y : Y) → p y ≡ true → list_all p (y ∷ []) ≡ true
  all_one y h = rw h refl

module _ {X Y : Type 0} (read : X → Result Y WireFault) (p : Y → Bool) (good : (x : X) (y : Y) → read x ≡ Ok y → p y ≡ true) where
  abbrev adding : List Y → X → Result (List Y) WireFault
  adding made x = read x >>= λ y. Ok (made ++ y ∷ [])

  one_good : (x : X) (made more : List Y) → list_all p made ≡ true → adding made x ≡ Ok more → list_all p more ≡ true
  one_good x made more so h = later (list_all p more ≡ true) (read x) (λ y. Ok (made ++ y ∷ [])) more
      (λ y e is. subst (λ (zs : List Y). list_all p zs ≡ true) (same_ok (made ++ y ∷ []) more is) (all_both p made (y ∷ []) so (all_one p y (good x y e)))) h

  turn_good : (xs : List X) (made ys : List Y) → list_all p made ≡ true → in_turn adding made xs ≡ Ok ys → list_all p ys ≡ true
  turn_good [] made ys so h = subst (λ (zs : List Y). list_all p zs ≡ true) (same_ok made ys h) so
  turn_good (x ∷ xs) made ys so h = later (list_all p ys ≡ true) (adding made x) (λ more. in_turn adding more xs) ys (λ more e rest. turn_good xs more ys (one_good x made more so e) rest) h

  each_good : (xs : List X) (ys : List Y) → each_read read xs ≡ Ok ys → list_all p ys ≡ true
  each_good xs ys h = turn_good xs [] ys refl h

-- ---- rows and ids

id_in-good : (text id : List ℕ) → id_in text ≡ Ok id → is_id id ≡ true
id_in-good text id h = by (is_id text) refl h
  where
    by : (b : Bool) → is_id text ≡ b → (unless b BadId >>= λ good. Ok text) ≡ Ok id → is_id id ≡ true
    by true e k = subst (λ (t : List ℕ). is_id t ≡ true) (same_ok text id k) e
    by false e k = cc

id_of-good : (d : Data) (id : List ℕ) → id_of d ≡ Ok id → is_id id ≡ true
id_of-good d id h = later (is_id id ≡ true) (or_fault (as_str d) Form) id_in id (λ text e k. id_in-good text id k) h

id_at-good : (d : Data) (id : List ℕ) → id_at d ≡ Ok id → is_id id ≡ true
id_at-good d id h = later (is_id id ≡ true) (or_fault (text_at (codes "id") d) Form) id_in id (λ text e k. id_in-good text id k) h

abbrev row_from : List ℕ → Members → Result Remote WireFault
row_from id members = fields_of members >>= λ fields. Ok (record { id = id; fields = fields })

abbrev id_of_row : Remote → Bool
id_of_row row = is_id row.id

row_of-good : (d : Data) (row : Remote) → row_of d ≡ Ok row → id_of_row row ≡ true
unfolding row_of
row_of-good d row h =
    let Q : Type 0 = is_id row.id ≡ true in
    later Q (id_at d) (λ id. or_fault (as_object d) Form >>= row_from id) row
    (λ id e h1. later Q (or_fault (as_object d) Form) (row_from id) row
    (λ members u h2. later Q (fields_of members) (λ fields. Ok (record { id = id; fields = fields })) row
    (λ fields v h3. subst (λ (r : Remote). is_id r.id ≡ true) (same_ok (record { id = id; fields = fields }) row h3) (id_at-good d id e)) h2) h1) h

-- ---- tables

ids_of_rows : (rows : List Remote) → list_all id_of_row rows ≡ true → list_all is_id (map (λ r. r.id) rows) ≡ true
ids_of_rows [] h = refl
ids_of_rows (row ∷ rows) h = let t : (is_id row.id ≡ true) × (list_all id_of_row rows ≡ true) = and_parts (is_id row.id) (list_all id_of_row rows) h in rw t.0 (ids_of_rows rows t.1)

abbrev table_made : List ℕ → List Remote → List (List ℕ) → List Remote → TableChanges
table_made name created deleted updated = record { table = name; created = created; updated = updated; deleted = deleted }

abbrev are_ids : TableChanges → Bool
are_ids t = list_all is_id (ids_listed t)

made_good : (name : List ℕ) (created : List Remote) (deleted : List (List ℕ)) (updated : List Remote) → list_all id_of_row created ≡ true → list_all is_id deleted ≡ true → list_all id_of_row updated ≡ true → are_ids (table_made name created deleted updated) ≡ true
made_good name created deleted updated new gone edited =
    all_both is_id (map (λ r. r.id) created) (map (λ r. r.id) updated ++ deleted) (ids_of_rows created new) (all_both is_id (map (λ r. r.id) updated) deleted (ids_of_rows updated edited) gone)

abbrev table_from : List ℕ → List Data → List Data → List Data → Result TableChanges WireFault
table_from name new gone edited = each_read row_of new >>= λ created. each_read id_of gone >>= λ deleted. each_read row_of edited >>= λ updated. Ok (table_made name created deleted updated)

table_from-good : (name : List ℕ) (new gone edited : List Data) (t : TableChanges) → table_from name new gone edited ≡ Ok t → are_ids t ≡ true
table_from-good name new gone edited t h =
    let Q : Type 0 = are_ids t ≡ true in
    later Q (each_read row_of new) (λ created. each_read id_of gone >>= λ deleted. each_read row_of edited >>= λ updated. Ok (table_made name created deleted updated)) t
    (λ created a h1. later Q (each_read id_of gone) (λ deleted. each_read row_of edited >>= λ updated. Ok (table_made name created deleted updated)) t
    (λ deleted b h2. later Q (each_read row_of edited) (λ updated. Ok (table_made name created deleted updated)) t
    (λ updated d h3. subst (λ (u : TableChanges). are_ids u ≡ true) (same_ok (table_made name created deleted updated) t h3)
    (made_good name created deleted updated (each_good row_of id_of_row row_of-good new created a) (each_good id_of is_id id_of-good gone deleted b) (each_good row_of id_of_row row_of-good edited updated d))) h2) h1) h

abbrev members_from : List ℕ → Members → Result TableChanges WireFault
members_from name ms = items_at (codes "created") ms >>= λ new. items_at (codes "deleted") ms >>= λ gone. items_at (codes "updated") ms >>= λ edited. table_from name new gone edited

members_from-good : (name : List ℕ) (ms : Members) (t : TableChanges) → members_from name ms ≡ Ok t → are_ids t ≡ true
members_from-good name ms t h =
    let Q : Type 0 = are_ids t ≡ true in
    later Q (items_at (codes "created") ms) (λ new. items_at (codes "deleted") ms >>= λ gone. items_at (codes "updated") ms >>= λ edited. table_from name new gone edited) t
    (λ new a h1. later Q (items_at (codes "deleted") ms) (λ gone. items_at (codes "updated") ms >>= λ edited. table_from name new gone edited) t
    (λ gone b h2. later Q (items_at (codes "updated") ms) (table_from name new gone) t
    (λ edited d h3. table_from-good name new gone edited t h3) h2) h1) h

abbrev lists_known : Data → Result ⊤ WireFault
lists_known d = unless (has_only (codes "created" ∷ codes "deleted" ∷ codes "updated" ∷ []) d) Form

table_of-good : (m : List ℕ × Data) (t : TableChanges) → table_of m ≡ Ok t → are_ids t ≡ true
unfolding table_of
table_of-good m t h =
    let Q : Type 0 = are_ids t ≡ true in
    later Q (unless (is_name m.0) Name) (λ good. lists_known m.1 >>= λ known. or_fault (as_object m.1) Form >>= members_from m.0) t
    (λ good a h1. later Q (lists_known m.1) (λ known. or_fault (as_object m.1) Form >>= members_from m.0) t
    (λ known b h2. later Q (or_fault (as_object m.1) Form) (members_from m.0) t
    (λ members d h3. members_from-good m.0 members t h3) h2) h1) h

-- ---- the whole

changes_of-good : (d : Data) (changes : Changes) → changes_of d ≡ Ok changes → has_ids changes ≡ true
unfolding changes_of
changes_of-good d changes h =
    let Q : Type 0 = has_ids changes ≡ true in
    later Q (or_fault (as_object d) Form) (λ members. each_read table_of (named members) >>= λ tables. Ok (record { tables = tables })) changes
    (λ members a h1. later Q (each_read table_of (named members)) (λ tables. Ok (record { tables = tables })) changes
    (λ tables b h2. subst (λ (c : Changes). has_ids c ≡ true) (same_ok (record { tables = tables }) changes h2) (each_good table_of are_ids table_of-good (named members) tables b)) h1) h

reply_of-good : (d : Data) (reply : PullReply) → reply_of d ≡ Ok reply → has_ids reply.changes ≡ true
unfolding reply_of
reply_of-good d reply h =
    let Q : Type 0 = has_ids reply.changes ≡ true in
    later Q (or_fault (get (codes "changes") d) Form) (λ content. or_fault (get (codes "timestamp") d) Form >>= λ stamp. changes_of content >>= λ changes. or_fault (count_of stamp) Number >>= λ timestamp. Ok (record { changes = changes; timestamp = timestamp })) reply
    (λ content a h1. later Q (or_fault (get (codes "timestamp") d) Form) (λ stamp. changes_of content >>= λ changes. or_fault (count_of stamp) Number >>= λ timestamp. Ok (record { changes = changes; timestamp = timestamp })) reply
    (λ stamp b h2. later Q (changes_of content) (λ changes. or_fault (count_of stamp) Number >>= λ timestamp. Ok (record { changes = changes; timestamp = timestamp })) reply
    (λ changes e h3. later Q (or_fault (count_of stamp) Number) (λ timestamp. Ok (record { changes = changes; timestamp = timestamp })) reply
    (λ timestamp f h4. subst (λ (r : PullReply). has_ids r.changes ≡ true) (same_ok (record { changes = changes; timestamp = timestamp }) reply h4) (changes_of-good content changes e)) h3) h2) h1) h

-- Bytes that are a changes object name records by ids.
pub changes_have_ids : (bytes : List ℕ) (changes : Changes) → changes_in bytes ≡ Ok changes → has_ids changes ≡ true
changes_have_ids bytes changes h = later (has_ids changes ≡ true) (or_fault (json_of bytes) NotJson) changes_of changes (λ d e k. changes_of-good d changes k) h

-- And so do those that are a reply.
pub reply_has_ids : (bytes : List ℕ) (reply : PullReply) → reply_in bytes ≡ Ok reply → has_ids reply.changes ≡ true
reply_has_ids bytes reply h = later (has_ids reply.changes ≡ true) (or_fault (json_of bytes) NotJson) reply_of reply (λ d e k. reply_of-good d reply k) h

pub changes_taken : (r : Result Changes WireFault) (d : Data) → Gives Memory r (changes_of d) → IfOk r (λ changes. has_ids changes ≡ true)
changes_taken (Ok changes) d h = changes_of-good d changes h
changes_taken (Err fault) d h = tt

pub reply_taken : (r : Result PullReply WireFault) (d : Data) → Gives Memory r (reply_of d) → IfOk r (λ reply. has_ids reply.changes ≡ true)
reply_taken (Ok reply) d h = reply_of-good d reply h
reply_taken (Err fault) d h = tt
