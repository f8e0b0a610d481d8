-- The change set of a settlement.
use Rattle.std.specs.Prelude.{List, Option, Some, None, option_map}
use Rattle.std.specs.List.{filter_map}
use Rattle.melon_raw.specs.declared.raw.Raw.{Raw}
use Rattle.melon_raw.specs.Rows.{Key, Rows, at}
use Rattle.melon_change.specs.declared.change.Change.{Change}
use Rattle.melon_change.specs.Batch.{change_to}
use Rattle.melon_wire.specs.declared.fetch.Fetch.{Fetch}
use Rattle.melon_wire.specs.Keys.{ascending}
use Rattle.melon_wire.specs.Collected.{keys_fetched}
use Rattle.melon_wire.specs.Settled.{Collection, settlement, collection}

-- a record's change, where its row is settled
abbrev pub change_settled : Key → Option Raw → Collection → Option Change
change_settled x None how = None
change_settled x (Some row) how = option_map (change_to x.table x.id (Some row)) (settlement row how)

abbrev pub settled_change : Rows → Fetch → Key → Option Change
settled_change rows f x = change_settled x (at rows x) (collection f x)

-- Of each collected record its change, where its row is settled, by the place of the table and by ascending id.
unfoldable pub settled : Rows → Fetch → List Change
settled rows f = filter_map (settled_change rows f) (ascending (keys_fetched f))
