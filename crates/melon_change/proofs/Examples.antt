-- Worked rows, computed.
use Rattle.std.proofs.Common.{◌≡◌, ℕ, pos, List, [], ◌∷◌, Option, Some, None, Result, Ok, Err, true, false, refl, codes}
use Rattle.melon_schema.specs.Names.{is_id}
use Rattle.melon_schema.specs.declared.schema.Kind.TheVariants as kinds
use Rattle.melon_schema.specs.declared.schema.ColumnSchema.{ColumnSchema}
use Rattle.melon_schema.specs.declared.schema.TableSchema.{TableSchema}
use Rattle.melon_raw.specs.declared.datum.Datum.TheVariants.{Null, Words, Whole}
use Rattle.melon_raw.specs.declared.raw.Status.TheVariants.{Created, Updated, Deleted, Synced}
use Rattle.melon_raw.specs.declared.raw.Raw.{Raw}
use Rattle.melon_change.specs.declared.op.Op.TheVariants.{Create, Update, MarkDeleted, Destroy}
use Rattle.melon_change.specs.declared.rule.BatchFault.TheVariants.{UnknownColumn, Twice, NoRow}
use Rattle.melon_change.specs.Batch.{batch_of, created_by, updated_by, deleted_by, destroyed_by}
use Rattle.melon_change.specs.Edited.{row_updated}

title : ColumnSchema
title = record { name = codes "title"; kind = kinds.Words; optional = false; indexed = false }

body : ColumnSchema
body = record { name = codes "body"; kind = kinds.Words; optional = true; indexed = false }

posts : TableSchema
posts = record { name = codes "posts"; columns = title ∷ body ∷ []; associations = [] }

synced : Raw
synced = record { id = codes "p1"; status = Synced; marks = []; cells = Words (codes "a") ∷ Null ∷ [] }

hidden : Raw
hidden = record { id = codes "p1"; status = Deleted; marks = []; cells = Words (codes "a") ∷ Null ∷ [] }

-- both columns differ, and are marked by their names
both_marked : row_updated posts.columns ((0, Words (codes "b")) ∷ (1, Words (codes "c")) ∷ []) synced
    ≡ record { id = codes "p1"; status = Updated; marks = 1 ∷ 0 ∷ []; cells = Words (codes "b") ∷ Words (codes "c") ∷ [] }
unfolding posts title body synced
both_marked = refl

-- an equal value marks nothing and changes no status
none_marked : row_updated posts.columns ((0, Words (codes "a")) ∷ (1, Null) ∷ []) synced ≡ synced
unfolding posts title body synced
none_marked = refl

-- the record stands earlier in the batch, though not just before
stands_twice : batch_of (posts ∷ []) ([] ∷ []) (Create (codes "posts") (codes "p1") [] ∷ Create (codes "posts") (codes "p2") [] ∷ Destroy (codes "posts") (codes "p1") ∷ [])
    ≡ Err (Twice 3 (codes "posts") (codes "p1"))
unfolding batch_of created_by destroyed_by posts title body is_id
stands_twice = refl

-- a row that is marked as deleted can't be updated
not_visible : batch_of (posts ∷ []) ((hidden ∷ []) ∷ []) (Update (codes "posts") (codes "p1") [] ∷ []) ≡ Err (NoRow 1 (codes "posts") (codes "p1"))
unfolding batch_of updated_by posts title body hidden is_id
not_visible = refl

-- the first unknown column by name is told, before the bad id
unknown_told : batch_of (posts ∷ []) ([] ∷ []) (Create (codes "posts") (codes "?") (record { column = codes "likes"; value = Null } ∷ record { column = codes "author"; value = Null } ∷ []) ∷ [])
    ≡ Err (UnknownColumn 1 (codes "posts") (codes "?") (codes "author"))
unfolding batch_of created_by posts title body is_id
unknown_told = refl
