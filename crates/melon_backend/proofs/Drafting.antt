-- A record more is drafted.
use Rattle.std.proofs.Common.{◌≡◌, ℕ, ◌+◌, List, [], ◌∷◌, ◌++◌, map, sum_by, Option, Some, None, option_map, refl, sym, ap, ◌∙◌, arith, append-nil}
use Rattle.std.specs.List.{filter_map, cons_option}
use Rattle.std.proofs.lemmas.List.{map-append}
use Rattle.std.proofs.lemmas.List.Sums.{sum_by-append, sum_by-cons}
use Rattle.melon_schema.specs.declared.schema.TableSchema.{TableSchema}
use Rattle.melon_raw.specs.Rows.{table_at}
use Rattle.melon_outside.specs.declared.kept.KeptRow.{KeptRow}
use Rattle.melon_log.specs.declared.server_row.ServerRow.{ServerRow}
use Rattle.melon_log.specs.ServerRows.{row_put}
use Rattle.melon_log.specs.Log.{columns_at}
use Rattle.melon_backend.specs.declared.put.Put.{Put}
use Rattle.melon_backend.specs.declared.draft.Draft.{Draft}
use Rattle.melon_backend.specs.Bodies.{body, row_bytes}
use Rattle.melon_backend.specs.Rows.{bytes_in, live_one, weight_of}
use Rattle.melon_backend.specs.Backends.{put_at}
use Rattle.melon_backend.specs.Pushing.{Naming, put_named, row_filed, before_put, after_put, weight_before, weight_after}
use Rattle.melon_backend.specs.Drafts.{IsDraft}

filter_map-push : {X Y : Type 0} (f : X → Option Y) (xs : List X) (x : X) → filter_map f (xs ++ x ∷ []) ≡ filter_map f xs ++ cons_option (f x) []
filter_map-push f [] x = refl
filter_map-push f (y ∷ ys) x = go (f y) (filter_map-push f ys x)
  where
    go : (o : Option _) → filter_map f (ys ++ x ∷ []) ≡ filter_map f ys ++ cons_option (f x) [] → cons_option o (filter_map f (ys ++ x ∷ [])) ≡ cons_option o (filter_map f ys) ++ cons_option (f x) []
    go None ih = ih
    go (Some z) ih = ap (λ rest. z ∷ rest) ih

sum-push : {X : Type 0} (f : X → ℕ) (xs : List X) (x : X) → sum_by f (xs ++ x ∷ []) ≡ sum_by f xs + f x
sum-push f xs x = let a = sum_by-append f xs (x ∷ []) in let b = sum_by-cons f x [] in omega (arith, a, b)

module _ (schema : List TableSchema) (r : ℕ) (ns : List Naming) (d : Draft) (so_far : IsDraft schema r ns d) (n : Naming) where
  before_more : (w : ℕ → ServerRow → ℕ) (o : Option Put) → put_named schema r n ≡ o → weight_before w schema r (ns ++ n ∷ []) ≡ weight_before w schema r ns + before_put w n o
  before_more w o is = sum-push (λ m. before_put w m (put_named schema r m)) ns n ∙ ap (λ (q : Option Put). weight_before w schema r ns + before_put w n q) is

  after_more : (w : ℕ → ServerRow → ℕ) (o : Option Put) → put_named schema r n ≡ o → weight_after w schema r (ns ++ n ∷ []) ≡ weight_after w schema r ns + after_put w o
  after_more w o is = sum-push (λ m. after_put w (put_named schema r m)) ns n ∙ ap (λ (q : Option Put). weight_after w schema r ns + after_put w q) is

  puts_more : (o : Option Put) → put_named schema r n ≡ o → filter_map (put_named schema r) (ns ++ n ∷ []) ≡ filter_map (put_named schema r) ns ++ cons_option o []
  puts_more o is = filter_map-push (put_named schema r) ns n ∙ ap (λ (q : Option Put). filter_map (put_named schema r) ns ++ cons_option q []) is

  pub draft_same : put_named schema r n ≡ None → IsDraft schema r (ns ++ n ∷ []) d
  draft_same none =
      let same : filter_map (put_named schema r) (ns ++ n ∷ []) ≡ filter_map (put_named schema r) ns = puts_more None none ∙ append-nil (filter_map (put_named schema r) ns) in
      record {
        puts = so_far.puts ∙ sym same;
        rows = so_far.rows ∙ ap (map (row_filed schema)) (sym same);
        stored_before = (let e = before_more (bytes_in schema) None none in omega (arith, e, so_far.stored_before));
        stored_after = (let e = after_more (bytes_in schema) None none in omega (arith, e, so_far.stored_after));
        live_before = (let e = before_more (λ i. live_one) None none in omega (arith, e, so_far.live_before));
        live_after = (let e = after_more (λ i. live_one) None none in omega (arith, e, so_far.live_after));
      }

  put_place : (p : Put) → put_named schema r n ≡ Some p → p.table ≡ n.key.table
  put_place p h = go (row_put (columns_at schema n.key.table) n.key.id n.row r n.how) h
    where
      go : (o : Option ServerRow) → option_map (put_at n.key.table) o ≡ Some p → p.table ≡ n.key.table
      go None k = cc
      go (Some row) k = let same : put_at n.key.table row ≡ p = cc in ap (λ (q : Put). q.table) (sym same)

  module _ (p : Put) (is : put_named schema r n ≡ Some p) (table : TableSchema) (table_is : table ≡ table_at schema n.key.table) (new : Draft)
      (puts : new.puts.items ≡ d.puts.items ++ p ∷ []) (rows : new.rows ≡ d.rows ++ record { table = table.name; id = p.row.id; body = body table p.row } ∷ [])
      (stored_before : new.stored_before ≡ d.stored_before + weight_of (row_bytes table) n.row) (stored_after : new.stored_after ≡ d.stored_after + row_bytes table p.row)
      (live_before : new.live_before ≡ d.live_before + weight_of live_one n.row) (live_after : new.live_after ≡ d.live_after + live_one p.row) where
    own_table : table ≡ table_at schema p.table
    own_table = table_is ∙ ap (table_at schema) (sym (put_place p is))

    filed : (let kept : KeptRow = record { table = table.name; id = p.row.id; body = body table p.row } in kept) ≡ row_filed schema p
    filed = λ i. record { table = (own_table i).name; id = p.row.id; body = body (own_table i) p.row }

    pub draft_more : IsDraft schema r (ns ++ n ∷ []) new
    draft_more =
        let more = puts_more (Some p) is in
        let before : weight_of (row_bytes table) n.row ≡ weight_of (bytes_in schema n.key.table) n.row = ap (λ (t : TableSchema). weight_of (row_bytes t) n.row) table_is in
        let after : row_bytes table p.row ≡ bytes_in schema p.table p.row = ap (λ (t : TableSchema). row_bytes t p.row) own_table in
        record {
          puts = puts ∙ (ap (λ (ps : List Put). ps ++ p ∷ []) so_far.puts ∙ sym more);
          rows = rows
              ∙ (ap (λ (ks : List KeptRow). ks ++ record { table = table.name; id = p.row.id; body = body table p.row } ∷ []) so_far.rows
              ∙ (ap (λ (k : KeptRow). map (row_filed schema) (filter_map (put_named schema r) ns) ++ k ∷ []) filed
              ∙ (sym (map-append (row_filed schema) (filter_map (put_named schema r) ns) (p ∷ [])) ∙ ap (map (row_filed schema)) (sym more))));
          stored_before = (let e = before_more (bytes_in schema) (Some p) is in omega (arith, e, so_far.stored_before, stored_before, before));
          stored_after = (let e = after_more (bytes_in schema) (Some p) is in omega (arith, e, so_far.stored_after, stored_after, after));
          live_before = (let e = before_more (λ i. live_one) (Some p) is in omega (arith, e, so_far.live_before, live_before));
          live_after = (let e = after_more (λ i. live_one) (Some p) is in omega (arith, e, so_far.live_after, live_after));
        }
