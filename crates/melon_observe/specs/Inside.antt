-- What the fields of observers stand for.
use Rattle.std.specs.Prelude.{◌≡◌, true, false}
use Rattle.melon_query.specs.Simple.{is_simple, tables_of}
use Rattle.melon_views.specs.Members.{told}
use Rattle.melon_views.specs.Standing.{Observed}
use Rattle.melon_observe.specs.declared.simple.Simple.TheInside as simple
use Rattle.melon_observe.specs.declared.reloading.Reloading.TheInside as reloading
use Rattle.melon_observe.specs.declared.observer.Observer.TheInside as observer
use Rattle.melon_observe.specs.Held.{observed_by}
use Rattle.melon_observe.specs.Members.{is_ascending, have_cells}

abbrev pub simple_in : simple.Inside → Observed
simple_in s = record { query = s.query; shape = s.shape; at = s.at; kept = told s.shape s.members.items }

-- The query is simple, the members ascend, and each has its cells.
pub record KeepsMembers (s : simple.Inside) : Type 0 where
  pub simple : is_simple s.query ≡ true
  pub ascending : is_ascending s.members.items ≡ true
  pub cells : have_cells s.shape s.members.items ≡ true

abbrev pub reloading_in : reloading.Inside → Observed
reloading_in r = record { query = r.query; shape = r.shape; at = r.at; kept = r.kept }

-- The query isn't simple, and the tables that it reads are listed.
pub record KeepsReads (r : reloading.Inside) : Type 0 where
  pub other : is_simple r.query ≡ false
  pub reads : r.reads ≡ tables_of r.query

abbrev pub observer_in : observer.Inside → Observed
observer_in o = observed_by o.held
