-- What a relation leads to, where it stands in the tables.
use Rattle.melon_views.specs.declared.parent.Parent.{Parent}
use Rattle.melon_views.specs.declared.parent.Parent.TheVariants as parent
use Rattle.melon_relation.specs.declared.target.Target.{Target}
use Rattle.melon_relation.specs.declared.target.Target.TheVariants.{Nothing, Missing, Row}

abbrev pub seen_target : Target → Parent
seen_target Nothing = parent.Nothing
seen_target Missing = parent.Missing
seen_target (Row row) = parent.Row row.now
