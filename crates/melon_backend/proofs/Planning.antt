-- The plan of a push, part by part.
use Rattle.std.proofs.Common.{◌≡◌, ℕ, List, [], ◌∷◌, map, filter, find, Bool, true, false, not, cond, Option, Some, None, option_map, option_and_then, Result, Ok, Err, IfOk, IfErr, OnOk, OnErr, nat_le, nat_lt, refl, sym, ap, ◌∙◌, subst}
use Rattle.std.specs.Bool.{⊤}
use Rattle.std.specs.List.{filter_map, cons_option}
use Rattle.melon_schema.specs.Faults.{◌>>=◌, unless, Fails}
use Rattle.melon_schema.specs.declared.schema.TableSchema.{TableSchema}
use Rattle.melon_schema.specs.Places.{declared_table}
use Rattle.melon_raw.specs.Rows.{Key, table_at}
use Rattle.melon_wire.specs.Keys.{times, ascending}
use Rattle.melon_outside.specs.declared.kept.KeptRow.{KeptRow}
use Rattle.melon_outside.specs.declared.kept.KeptBatch.{KeptBatch}
use Rattle.melon_wire.specs.declared.changes.TableChanges.{TableChanges}
use Rattle.melon_wire.specs.declared.changes.Changes.{Changes}
use Rattle.melon_wire.specs.Sent.{names_something, has_something}
use Rattle.melon_wire.specs.Standing.{Standing, standing}
use Rattle.melon_log.specs.declared.fault.PushFault.{PushFault}
use Rattle.melon_log.specs.declared.fault.PushFault.TheVariants.{Future, UnknownName, Repeated, Conflict, Gone, LongText, StoreFull, KeeperFault, Memory}
use Rattle.melon_log.specs.declared.server_row.ServerRow.{ServerRow}
use Rattle.melon_log.specs.ServerRows.{ServerRows, at, greatest}
use Rattle.melon_log.specs.Log.{columns_at, fields_sent}
use Rattle.melon_log.specs.Verdict.{if_any, unless_one, is_unknown, columns_sent, keys_of, unknown_in, unknown, repeated, records, is_newer, is_lost, has_long, conflict, gone, long, judged, least_name}
use Rattle.melon_backend.specs.declared.put.Put.{Put}
use Rattle.melon_backend.specs.Rows.{with_puts, stored_bytes}
use Rattle.melon_backend.specs.Backends.{SeenBackend, Plan, asked, value, revision_name}
use Rattle.melon_backend.specs.Pushing.{Naming, naming, namings, put_named, puts, row_filed, push_batch, next_revision, with_push, within_limit, puts_plan, accepted_plan, named_plan, push_plan}
use Rattle.melon_backend.specs.Listing.{conflict_named, gone_named, long_named, refused}
use Rattle.melon_backend.specs.declared.backend.Planned.{Planned}
use Rattle.melon_backend.specs.Pushed.{IsOfRows, IsOfLimit, IsOfPush, IsOfKeeper, IsPushed, IsVerdict}
use Rattle.melon_backend.proofs.Summed.{puts_of}

-- ---- the plan of named records

limit_err : {X : Type 0} (r : Result ⊤ PushFault) (x : X) (f : PushFault) → r ≡ Err f → (r >>= λ within. Ok x) ≡ Err f
limit_err r x f h = ap (λ (q : Result ⊤ PushFault). q >>= λ within. Ok x) h

pub plan_err : (b : SeenBackend) (ns : List Naming) (bytes : ℕ) (f : PushFault) → bytes ≡ stored_bytes b.schema.tables (with_puts b.rows (puts_of b ns)) → Fails Memory f (within_limit bytes) → Fails Memory f (named_plan b ns)
plan_err b ns bytes f is fails other = limit_err (within_limit (stored_bytes b.schema.tables (with_puts b.rows (puts_of b ns)))) _ f (ap within_limit (sym is) ∙ fails other)

pub plan_ok : (b : SeenBackend) (ns : List Naming) (bytes : ℕ) {u : ⊤} → bytes ≡ stored_bytes b.schema.tables (with_puts b.rows (puts_of b ns)) → within_limit bytes ≡ Ok u
    → (r : ℕ) → r ≡ next_revision b.revision → (rows : List KeptRow) → rows ≡ map (row_filed b.schema.tables) (puts_of b ns) → (ps : List Put) → ps ≡ puts_of b ns
    → (batch : KeptBatch) → batch ≡ record { clear = false; removes = []; puts = rows; values = value revision_name r ∷ [] }
    → named_plan b ns ≡ Ok (record { batch = Some batch; after = with_push b r ps })
plan_ok b ns bytes is limit r r_is rows rows_is ps ps_is batch batch_is =
    ap (λ (q : Result ⊤ PushFault). q >>= λ within. Ok (record { batch = Some (push_batch b.schema.tables (next_revision b.revision) (puts_of b ns)); after = with_push b (next_revision b.revision) (puts_of b ns) })) (ap within_limit (sym is) ∙ limit)
    ∙ sym (ap (λ (k : KeptBatch). let p : Result Plan PushFault = Ok (record { batch = Some k; after = with_push b r ps }) in p) batch_is
    ∙ (λ i. Ok (record { batch = Some (record { clear = false; removes = []; puts = rows_is i; values = value revision_name (r_is i) ∷ [] }); after = with_push b (r_is i) (ps_is i) })))

-- ---- the plan of a push

same_puts : (schema : List TableSchema) (rows : ServerRows) (r : ℕ) (c : Changes) (ks : List Key) → filter_map (λ x. put_named schema r (naming schema rows c x)) ks ≡ filter_map (put_named schema r) (map (naming schema rows c) ks)
same_puts schema rows r c [] = refl
same_puts schema rows r c (k ∷ ks) = ap (cons_option (put_named schema r (naming schema rows c k))) (same_puts schema rows r c ks)

accepted_is : (b : SeenBackend) (c : Changes) → names_something c ≡ true → accepted_plan b c ≡ named_plan b (namings b.schema.tables b.rows c)
accepted_is b c h =
    ap (λ (t : Bool). cond t (puts_plan b (next_revision b.revision) (puts b.schema.tables b.rows (next_revision b.revision) c)) (Ok (record { batch = None; after = b }))) h
    ∙ ap (puts_plan b (next_revision b.revision)) (same_puts b.schema.tables b.rows (next_revision b.revision) c (records b.schema.tables c))

pub push_refused : (b : SeenBackend) (t : ℕ) (c : Changes) (f : PushFault) → Fails Memory f (judged b.schema.tables b.revision (at b.rows) t c) → Fails Memory f (push_plan b t c)
unfolding push_plan
push_refused b t c f fails other = ap (λ (q : Result ⊤ PushFault). q >>= λ accepted. accepted_plan b c) (fails other)

module _ (b : SeenBackend) (t : ℕ) (c : Changes) {u : ⊤} (ok : judged b.schema.tables b.revision (at b.rows) t c ≡ Ok u) where
  pub push_accepted : push_plan b t c ≡ accepted_plan b c
  unfolding push_plan
  push_accepted = ap (λ (q : Result ⊤ PushFault). q >>= λ accepted. accepted_plan b c) ok

  pub push_nothing : names_something c ≡ false → push_plan b t c ≡ Ok (record { batch = None; after = b })
  push_nothing h = push_accepted ∙ ap (λ (n : Bool). cond n (puts_plan b (next_revision b.revision) (puts b.schema.tables b.rows (next_revision b.revision) c)) (Ok (record { batch = None; after = b }))) h

  pub push_named : names_something c ≡ true → push_plan b t c ≡ named_plan b (namings b.schema.tables b.rows c)
  push_named h = push_accepted ∙ accepted_is b c h

-- ---- judged by names

one-named : (f : Key → Option PushFault) (g : Naming → Option PushFault) (make : Key → Naming) (same : (k : Key) → f k ≡ g (make k)) (ks : List Key) → unless_one f ks ≡ unless_one g (map make ks)
one-named f g make same [] = refl
one-named f g make same (k ∷ ks) = rw (same k) (ap (λ (r : Result ⊤ PushFault). if_any (g (make k)) >>= λ none. r) (one-named f g make same ks))

pub judged_by_names : (schema : List TableSchema) (now : ℕ) (rows : ServerRows) (t : ℕ) (c : Changes)
    → judged schema now (at rows) t c ≡ (unless (nat_le t now) (Future now) >>= λ past. unless_one (unknown schema) c.tables >>= λ known. unless_one repeated c.tables >>= λ once. refused schema t (namings schema rows c))
unfolding judged refused
judged_by_names schema now rows t c =
    rw (
      one-named (conflict schema (at rows) t (standing schema c)) (conflict_named schema t) (naming schema rows c) (λ k. refl) (records schema c),
      one-named (gone schema (at rows) t (standing schema c)) (gone_named schema t) (naming schema rows c) (λ k. refl) (records schema c),
      one-named (long schema (at rows) t (standing schema c)) (long_named schema) (naming schema rows c) (λ k. refl) (records schema c),
    ) refl

module _ (schema : List TableSchema) (now : ℕ) (rows : ServerRows) (t : ℕ) (c : Changes) {u v : ⊤} (past : nat_le t now ≡ true) (known : unless_one (unknown schema) c.tables ≡ Ok u) (once : unless_one repeated c.tables ≡ Ok v) where
  judged_rest : judged schema now (at rows) t c ≡ refused schema t (namings schema rows c)
  judged_rest =
      judged_by_names schema now rows t c
      ∙ (ap (λ (p : Bool). unless p (Future now) >>= λ past. unless_one (unknown schema) c.tables >>= λ known. unless_one repeated c.tables >>= λ once. refused schema t (namings schema rows c)) past
      ∙ (ap (λ (q : Result ⊤ PushFault). q >>= λ known. unless_one repeated c.tables >>= λ once. refused schema t (namings schema rows c)) known
      ∙ ap (λ (q : Result ⊤ PushFault). q >>= λ once. refused schema t (namings schema rows c)) once))

  pub named_err : (ns : List Naming) → ns ≡ namings schema rows c → (f : PushFault) → Fails Memory f (refused schema t ns) → Fails Memory f (judged schema now (at rows) t c)
  named_err ns is f fails other = judged_rest ∙ (ap (refused schema t) (sym is) ∙ fails other)

  pub named_ok : (ns : List Naming) → ns ≡ namings schema rows c → {w : ⊤} → refused schema t ns ≡ Ok w → judged schema now (at rows) t c ≡ Ok w
  named_ok ns is ok = judged_rest ∙ (ap (refused schema t) (sym is) ∙ ok)

-- ---- what kinds of refusal there are

module _ (Kind : PushFault → Type 0) where
  one-kind : {X : Type 0} (f : X → Option PushFault) (each : (x : X) (e : PushFault) → f x ≡ Some e → Kind e) (xs : List X) (e : PushFault) → unless_one f xs ≡ Err e → Kind e
  one-kind f each [] e h = cc
  one-kind f each (x ∷ xs) e h = go (f x) refl h (one-kind f each xs e)
    where
      go : (o : Option PushFault) → f x ≡ o → (if_any o >>= λ none. unless_one f xs) ≡ Err e → (unless_one f xs ≡ Err e → Kind e) → Kind e
      go None is k later = later k
      go (Some g) is k later = let same : g ≡ e = cc in each x e (is ∙ ap Some same)

  if-kind : (b : Bool) (f e : PushFault) → Kind f → cond b (Some f) None ≡ Some e → Kind e
  if-kind true f e kind h = let same : f ≡ e = cc in subst Kind same kind
  if-kind false f e kind h = cc

  map-kind : {X : Type 0} (make : X → PushFault) (kind : (x : X) → Kind (make x)) (o : Option X) (e : PushFault) → option_map make o ≡ Some e → Kind e
  map-kind make kind None e h = cc
  map-kind make kind (Some x) e h = let same : make x ≡ e = cc in subst Kind same (kind x)

  then-kind : {X : Type 0} (f : X → Option PushFault) (each : (x : X) (e : PushFault) → f x ≡ Some e → Kind e) (o : Option X) (e : PushFault) → option_and_then f o ≡ Some e → Kind e
  then-kind f each None e h = cc
  then-kind f each (Some x) e h = each x e h

  bind-kind : {X : Type 0} (a : Result ⊤ PushFault) (f : Result X PushFault) (e : PushFault) → (a ≡ Err e → Kind e) → (f ≡ Err e → Kind e) → (a >>= λ past. f) ≡ Err e → Kind e
  bind-kind (Ok u) f e first later h = later h
  bind-kind (Err g) f e first later h = let same : g ≡ e = cc in first (ap Err same)

  unless-kind : (b : Bool) (f e : PushFault) → Kind f → unless b f ≡ Err e → Kind e
  unless-kind true f e kind h = cc
  unless-kind false f e kind h = let same : f ≡ e = cc in subst Kind same kind

  ok-kind : {X : Type 0} (x : X) (e : PushFault) → Ok x ≡ Err e → Kind e
  ok-kind x e h = cc

-- ---- what the rows that are kept refuse

unknown-kind : (schema : List TableSchema) (t : TableChanges) (e : PushFault) → unknown schema t ≡ Some e → IsOfRows e
unknown-kind schema t e h = go (declared_table t.table schema) h
  where
    go : (o : Option TableSchema) → unknown_in t o ≡ Some e → IsOfRows e
    go None k = if-kind IsOfRows (has_something t) (UnknownName t.table []) e tt k
    go (Some table) k = map-kind IsOfRows (UnknownName t.table) (λ name. tt) (least_name (filter (is_unknown table.columns) (columns_sent t))) e k

repeated-kind : (t : TableChanges) (e : PushFault) → repeated t ≡ Some e → IsOfRows e
repeated-kind t e h = map-kind IsOfRows (λ (x : Key). Repeated t.table x.id) (λ x. tt) (find (λ x. nat_lt 1 (times x (keys_of t))) (ascending (keys_of t))) e h

module _ (schema : List TableSchema) (row : Key → Option ServerRow) (t : ℕ) (how : Key → Standing) where
  conflict-kind : (x : Key) (e : PushFault) → conflict schema row t how x ≡ Some e → IsOfRows e
  conflict-kind x e h =
      then-kind IsOfRows (λ (r : ServerRow). cond (is_newer t (how x) r) (Some (Conflict (table_at schema x.table).name x.id (greatest r))) None)
      (λ r f k. if-kind IsOfRows (is_newer t (how x) r) (Conflict (table_at schema x.table).name x.id (greatest r)) f tt k) (row x) e h

  gone-kind : (x : Key) (e : PushFault) → gone schema row t how x ≡ Some e → IsOfRows e
  gone-kind x e h =
      then-kind IsOfRows (λ (r : ServerRow). cond (is_lost (how x) r) (Some (Gone (table_at schema x.table).name x.id (greatest r))) None)
      (λ r f k. if-kind IsOfRows (is_lost (how x) r) (Gone (table_at schema x.table).name x.id (greatest r)) f tt k) (row x) e h

  long-kind : (x : Key) (e : PushFault) → long schema row t how x ≡ Some e → IsOfRows e
  long-kind x e h = if-kind IsOfRows (has_long (columns_at schema x.table) (fields_sent (how x))) (LongText (table_at schema x.table).name x.id) e tt h

judged-kind : (schema : List TableSchema) (now : ℕ) (row : Key → Option ServerRow) (t : ℕ) (c : Changes) (e : PushFault) → judged schema now row t c ≡ Err e → IsOfRows e
unfolding judged
judged-kind schema now row t c e h =
    bind-kind IsOfRows (unless (nat_le t now) (Future now)) _ e (unless-kind IsOfRows (nat_le t now) (Future now) e tt)
    (bind-kind IsOfRows (unless_one (unknown schema) c.tables) _ e (one-kind IsOfRows (unknown schema) (unknown-kind schema) c.tables e)
    (bind-kind IsOfRows (unless_one repeated c.tables) _ e (one-kind IsOfRows repeated repeated-kind c.tables e)
    (bind-kind IsOfRows (unless_one (conflict schema row t (standing schema c)) (records schema c)) _ e (one-kind IsOfRows (conflict schema row t (standing schema c)) (conflict-kind schema row t (standing schema c)) (records schema c) e)
    (bind-kind IsOfRows (unless_one (gone schema row t (standing schema c)) (records schema c)) _ e (one-kind IsOfRows (gone schema row t (standing schema c)) (gone-kind schema row t (standing schema c)) (records schema c) e)
    (bind-kind IsOfRows (unless_one (long schema row t (standing schema c)) (records schema c)) _ e (one-kind IsOfRows (long schema row t (standing schema c)) (long-kind schema row t (standing schema c)) (records schema c) e) (ok-kind IsOfRows tt e)))))) h

-- ---- what the limit of the store refuses

accepted-kind : (b : SeenBackend) (c : Changes) (e : PushFault) → accepted_plan b c ≡ Err e → IsOfLimit e
accepted-kind b c e h = go (names_something c) h
  where
    go : (n : Bool) → cond n (puts_plan b (next_revision b.revision) (puts b.schema.tables b.rows (next_revision b.revision) c)) (Ok (record { batch = None; after = b })) ≡ Err e → IsOfLimit e
    go true k =
        let bytes = stored_bytes b.schema.tables (with_puts b.rows (puts b.schema.tables b.rows (next_revision b.revision) c)) in
        bind-kind IsOfLimit (within_limit bytes) _ e (unless-kind IsOfLimit (not (nat_lt 134217728 bytes)) (StoreFull bytes) e tt) (ok-kind IsOfLimit _ e) k
    go false k = cc

-- ---- a refusal is of the one or the other

rows_push : (e : PushFault) → IsOfRows e → IsOfPush e
rows_push (Future n) h = tt
rows_push (UnknownName t n) h = tt
rows_push (Repeated t i) h = tt
rows_push (Conflict t i n) h = tt
rows_push (Gone t i n) h = tt
rows_push (LongText t i) h = tt
rows_push (StoreFull n) h = tt
rows_push KeeperFault h = absurd h
rows_push Memory h = tt

limit_push : (e : PushFault) → IsOfLimit e → IsOfPush e
limit_push (Future n) h = tt
limit_push (UnknownName t n) h = tt
limit_push (Repeated t i) h = tt
limit_push (Conflict t i n) h = tt
limit_push (Gone t i n) h = tt
limit_push (LongText t i) h = tt
limit_push (StoreFull n) h = tt
limit_push KeeperFault h = absurd h
limit_push Memory h = tt

pub push-kind : (b : SeenBackend) (t : ℕ) (c : Changes) (e : PushFault) → push_plan b t c ≡ Err e → IsOfPush e
unfolding push_plan
push-kind b t c e h =
    bind-kind IsOfPush (judged b.schema.tables b.revision (at b.rows) t c) (accepted_plan b c) e
    (λ k. rows_push e (judged-kind b.schema.tables b.revision (at b.rows) t c e k)) (λ k. limit_push e (accepted-kind b c e k)) h

pub never_keeper : (b : SeenBackend) (t : ℕ) (c : Changes) → push_plan b t c ≡ Err KeeperFault → ⊥
never_keeper b t c h = push-kind b t c KeeperFault h

pub push_not_keepers : (f : PushFault) → IsOfPush f → f ≡ KeeperFault → ⊥
push_not_keepers f of_push e = subst IsOfPush e of_push

pub of_push : {X : Type 0} (r : Result X PushFault) (f : PushFault) → Fails Memory f r → (r ≡ Err KeeperFault → ⊥) → IsOfPush f
of_push r (Future n) fails never = tt
of_push r (UnknownName t n) fails never = tt
of_push r (Repeated t i) fails never = tt
of_push r (Conflict t i n) fails never = tt
of_push r (Gone t i n) fails never = tt
of_push r (LongText t i) fails never = tt
of_push r (StoreFull n) fails never = tt
of_push r KeeperFault fails never = never (fails (λ e. cc))
of_push r Memory fails never = tt

-- ---- what a push does

pub pushed_from : (b now : SeenBackend) (plan : Result Plan PushFault) (p : Planned) → plan ≡ Ok (record { batch = Some p.batch; after = with_push b p.revision p.puts.items }) → (r : Result ℕ PushFault)
    → IfOk r (λ revision. revision ≡ p.revision) → OnOk r (now ≡ with_push b p.revision p.puts.items) → OnErr r (now ≡ b) → IfErr r IsOfKeeper → IsPushed plan b now r
pushed_from b now plan p is (Ok revision) at ok err fault =
    let batch : asked plan ≡ Some p.batch = ap (λ (q : Result Plan PushFault). asked q) is in (
      is ∙ (λ i. Ok (record { batch = sym batch i; after = sym ok i })),
      at ∙ ap (λ (q : SeenBackend). q.revision) (sym ok),
    )
pushed_from b now plan p is (Err (Future n)) at ok err fault = absurd fault
pushed_from b now plan p is (Err (UnknownName t n)) at ok err fault = absurd fault
pushed_from b now plan p is (Err (Repeated t i)) at ok err fault = absurd fault
pushed_from b now plan p is (Err (Conflict t i n)) at ok err fault = absurd fault
pushed_from b now plan p is (Err (Gone t i n)) at ok err fault = absurd fault
pushed_from b now plan p is (Err (LongText t i)) at ok err fault = absurd fault
pushed_from b now plan p is (Err (StoreFull n)) at ok err fault = absurd fault
pushed_from b now plan p is (Err KeeperFault) at ok err fault = ((p.batch, ap (λ (q : Result Plan PushFault). asked q) is), err)
pushed_from b now plan p is (Err Memory) at ok err fault = err

-- ---- the verdict

module _ (b : SeenBackend) (t : ℕ) (c : Changes) where
  abbrev verdict_on : Result ⊤ PushFault
  verdict_on = judged b.schema.tables b.revision (at b.rows) t c

  first_ok : (v : Result ⊤ PushFault) (p : Plan) → (v >>= λ accepted. accepted_plan b c) ≡ Ok p → v ≡ Ok tt
  first_ok (Ok u) p h = refl
  first_ok (Err e) p h = cc

  -- a fault of a kind that the limit never tells is the verdict's
  first_err : (v : Result ⊤ PushFault) (e : PushFault) → (IsOfLimit e → ⊥) → (v >>= λ accepted. accepted_plan b c) ≡ Err e → v ≡ Err e
  first_err (Ok u) e never h = absurd (never (accepted-kind b c e h))
  first_err (Err f) e never h = let same : f ≡ e = cc in ap Err same

  -- a fault of a kind that the rows never tell is the limit's
  first_limit : (v : Result ⊤ PushFault) (e : PushFault) → v ≡ verdict_on → (IsOfRows e → ⊥) → (v >>= λ accepted. accepted_plan b c) ≡ Err e → v ≡ Ok tt
  first_limit (Ok u) e is never h = refl
  first_limit (Err f) e is never h = let same : f ≡ e = cc in absurd (never (judged-kind b.schema.tables b.revision (at b.rows) t c e (sym is ∙ ap Err same)))

  asked_ok : (v : Result ⊤ PushFault) (batch : KeptBatch) → asked (v >>= λ accepted. accepted_plan b c) ≡ Some batch → v ≡ Ok tt
  asked_ok (Ok u) batch h = refl
  asked_ok (Err e) batch h = cc

  pub verdict_from : (now : SeenBackend) (r : Result ℕ PushFault) → IsPushed (push_plan b t c) b now r → IsVerdict verdict_on r
  unfolding push_plan
  verdict_from now (Ok revision) h = first_ok verdict_on (record { batch = asked (push_plan b t c); after = now }) h.0
  verdict_from now (Err (Future n)) h = first_err verdict_on (Future n) (λ k. k) h.0
  verdict_from now (Err (UnknownName x n)) h = first_err verdict_on (UnknownName x n) (λ k. k) h.0
  verdict_from now (Err (Repeated x i)) h = first_err verdict_on (Repeated x i) (λ k. k) h.0
  verdict_from now (Err (Conflict x i n)) h = first_err verdict_on (Conflict x i n) (λ k. k) h.0
  verdict_from now (Err (Gone x i n)) h = first_err verdict_on (Gone x i n) (λ k. k) h.0
  verdict_from now (Err (LongText x i)) h = first_err verdict_on (LongText x i) (λ k. k) h.0
  verdict_from now (Err (StoreFull n)) h = first_limit verdict_on (StoreFull n) refl (λ k. k) h.0
  verdict_from now (Err KeeperFault) h = asked_ok verdict_on h.0.0 h.0.1
  verdict_from now (Err Memory) h = tt

pub same_after : (plan : Result Plan PushFault) (b now : SeenBackend) (f : PushFault) → IsPushed plan b now (Err f) → now ≡ b
same_after plan b now (Future n) h = h.1
same_after plan b now (UnknownName x n) h = h.1
same_after plan b now (Repeated x i) h = h.1
same_after plan b now (Conflict x i n) h = h.1
same_after plan b now (Gone x i n) h = h.1
same_after plan b now (LongText x i) h = h.1
same_after plan b now (StoreFull n) h = h.1
same_after plan b now KeeperFault h = h.1
same_after plan b now Memory h = h
