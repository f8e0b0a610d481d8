-- Pushes and pulls of a new server, computed.
use Rattle.std.proofs.Common.{◌≡◌, ℕ, List, [], ◌∷◌, Some, None, Ok, Err, codes, false, refl}
use Rattle.melon_schema.specs.declared.schema.Kind.TheVariants as kinds
use Rattle.melon_schema.specs.declared.schema.TableSchema.{TableSchema}
use Rattle.melon_raw.specs.declared.datum.Datum.TheVariants.{Words}
use Rattle.melon_wire.specs.declared.changes.Changes.{Changes}
use Rattle.melon_wire.specs.Standing.{standing}
use Rattle.melon_log.specs.declared.fault.PushFault.TheVariants.{Future, Conflict, Gone}
use Rattle.melon_log.specs.Log.{Log, pushed, row_now, row_after, server_rows}
use Rattle.melon_log.specs.Pulled.{pull_of, pulled}
use Rattle.melon_log.specs.Verdict.{judged, verdict}

abbrev schema : List TableSchema
schema = record { name = codes "posts"; columns = record { name = codes "title"; kind = kinds.Words; optional = false; indexed = false } ∷ []; associations = [] } ∷ []

abbrev p9 : List ℕ
p9 = codes "p9"

abbrev update : Changes
update = record { tables = record { table = codes "posts"; created = []; updated = record { id = codes "p9"; fields = [] } ∷ []; deleted = [] } ∷ [] }

abbrev deletion : List ℕ → Changes
deletion id = record { tables = record { table = codes "posts"; created = []; updated = []; deleted = id ∷ [] } ∷ [] }

abbrev new : Log
new = record { schema = schema; opening = [] ∷ []; first = 1; pushes = [] }

abbrev second : Log
second = pushed new update

abbrev third : Log
third = pushed second (deletion (codes "p8"))

abbrev fourth : Log
fourth = pushed third (deletion p9)

update_is_accepted : verdict new 1 update ≡ Ok tt
unfolding judged standing row_after
update_is_accepted = refl

absent_may_be_deleted : verdict second 2 (deletion (codes "p8")) ≡ Ok tt
unfolding judged standing row_after
absent_may_be_deleted = refl

-- the row is told as created, and the ignored deletion raised the revision
told_as_created : pulled third 0 ≡ Ok (record { changes = record { tables = record { table = codes "posts"; created = record { id = p9; fields = record { column = codes "title"; value = Words [] } ∷ [] } ∷ []; updated = []; deleted = [] } ∷ [] }; timestamp = 3 })
unfolding pull_of server_rows standing row_after
told_as_created = refl

deletion_is_accepted : verdict third 3 (deletion p9) ≡ Ok tt
unfolding judged standing row_after
deletion_is_accepted = refl

update_of_a_deleted_row : verdict fourth 4 update ≡ Err (Gone (codes "posts") p9 4)
unfolding judged standing row_after
update_of_a_deleted_row = refl

update_before_the_deletion : verdict fourth 3 update ≡ Err (Conflict (codes "posts") p9 4)
unfolding judged standing row_after
update_before_the_deletion = refl

future : verdict fourth 9 update ≡ Err (Future 4)
unfolding judged
future = refl

-- an id created and deleted since is told as deleted, and so are all deletions at 0
told_as_deleted : pulled fourth 0 ≡ Ok (record { changes = record { tables = record { table = codes "posts"; created = []; updated = []; deleted = p9 ∷ [] } ∷ [] }; timestamp = 4 })
unfolding pull_of server_rows standing row_after
told_as_deleted = refl

-- a row that lives again is created anew, with default cells
lives_again : row_now (pushed fourth update) (record { table = 0; id = p9 }) ≡ Some (record { id = p9; created = 5; changed = 5; deleted = None; cells = Words [] ∷ [] })
unfolding standing row_after
lives_again = refl
