-- Worked rows, computed.
use Rattle.std.proofs.Common.{◌≡◌, ℕ, List, [], ◌∷◌, Option, Some, None, refl, codes}
use Rattle.melon_raw.specs.declared.datum.Datum.{Datum}
use Rattle.melon_raw.specs.declared.datum.Datum.TheVariants.{Null, Words}
use Rattle.melon_raw.specs.declared.raw.Status.TheVariants.{Created, Deleted, Synced}
use Rattle.melon_raw.specs.declared.raw.Raw.{Raw}
use Rattle.melon_query.specs.declared.query.Query.{Query}
use Rattle.melon_query.specs.Fresh.{fresh, joined_tables, some_members}
use Rattle.melon_query.specs.Simple.{is_simple}
use Rattle.melon_query.specs.Tuples.{members_over}
use Rattle.melon_change.specs.declared.history.Entry.{Entry}
use Rattle.melon_change.specs.declared.history.Origin.TheVariants.{Local}
use Rattle.melon_change.specs.Changes.{key}
use Rattle.melon_change.specs.History.{History}
use Rattle.melon_views.specs.declared.emission.Shape.TheVariants.{Ids, Columns}
use Rattle.melon_views.specs.declared.emission.Emission.TheVariants as emission
use Rattle.melon_views.specs.declared.emission.Turn.TheVariants.{Emit, Still}
use Rattle.melon_views.specs.declared.parent.Parent.TheVariants.{Nothing, Missing, Row}
use Rattle.melon_views.specs.Views.{view}
use Rattle.melon_views.specs.Due.{due, turn_from}
use Rattle.melon_views.specs.Turns.{turns_from}
use Rattle.melon_views.specs.Members.{matters}
use Rattle.melon_views.specs.Parents.{parent_of}

titled : List ℕ → Raw
titled title = record { id = codes "p1"; status = Created; marks = []; cells = Words title ∷ [] }

change_to : Option Raw → Option Raw → Entry
change_to before after = record { origin = Local; set = record { table = 0; id = codes "p1"; before = before; after = after } ∷ [] }

-- a row is made, takes an equal value, and then another
story : History
story = record {
  opening = [] ∷ [];
  entries =
      change_to None (Some (titled (codes "a")))
      ∷ change_to (Some (titled (codes "a"))) (Some (titled (codes "a")))
      ∷ change_to (Some (titled (codes "a"))) (Some (titled (codes "b")))
      ∷ [];
}

all : Option ℕ → Query
all most = record { table = 0; conds = []; sort = []; take = most; skip = 0 }

titles : view (all None) (Columns (0 ∷ [])) story 1 ≡ emission.Rows (record { id = codes "p1"; cells = Words (codes "a") ∷ [] } ∷ [])
unfolding story change_to titled all fresh joined_tables some_members members_over
titles = refl

comes : due (all None) Ids story 0 ≡ Some 1
unfolding due story change_to titled all fresh joined_tables some_members members_over
comes = refl

stays : due (all None) Ids story 1 ≡ None
unfolding due story change_to titled all fresh joined_tables some_members members_over
stays = refl

other_cell : due (all None) (Columns (0 ∷ [])) story 1 ≡ Some 3
unfolding due story change_to titled all fresh joined_tables some_members members_over
other_cell = refl

-- a query that takes some is evaluated at the end alone
at_the_end : turn_from (all (Some 5)) Ids story 0 ≡ Emit 3 (emission.Ids (codes "p1" ∷ []))
unfolding is_simple due story change_to titled all fresh joined_tables some_members members_over
at_the_end = refl

-- it emits at each entry that shows another cell, and is then still
each_in_turn : turns_from (all None) (Columns (0 ∷ [])) story 0
    ≡ Emit 1 (emission.Rows (record { id = codes "p1"; cells = Words (codes "a") ∷ [] } ∷ [])) ∷ Emit 3 (emission.Rows (record { id = codes "p1"; cells = Words (codes "b") ∷ [] } ∷ [])) ∷ Still 3 ∷ []
unfolding turns_from is_simple due story change_to titled all fresh joined_tables some_members members_over
each_in_turn = refl

-- ---- parents: a comment names a post

post : Raw
post = record { id = codes "p1"; status = Synced; marks = []; cells = [] }

gone : Raw
gone = record { id = codes "p2"; status = Deleted; marks = []; cells = [] }

comment : List ℕ → Datum → Raw
comment id post_id = record { id = id; status = Synced; marks = []; cells = post_id ∷ [] }

rows : List (List Raw)
rows = (post ∷ gone ∷ []) ∷ (comment (codes "c1") (Words (codes "p1")) ∷ comment (codes "c2") (Words (codes "p2")) ∷ comment (codes "c3") Null ∷ comment (codes "c4") (Words []) ∷ []) ∷ []

has_parent : parent_of 0 0 (key 1 (codes "c1")) rows ≡ Row post
unfolding rows post gone comment
has_parent = refl

parent_is_gone : parent_of 0 0 (key 1 (codes "c2")) rows ≡ Missing
unfolding rows post gone comment
parent_is_gone = refl

names_none : parent_of 0 0 (key 1 (codes "c3")) rows ≡ Nothing
unfolding rows post gone comment
names_none = refl

names_the_empty_text : parent_of 0 0 (key 1 (codes "c4")) rows ≡ Nothing
unfolding rows post gone comment
names_the_empty_text = refl
