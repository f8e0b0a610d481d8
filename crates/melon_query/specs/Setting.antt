-- What the names in a query's conditions speak of, where it is borrowed.
use Rattle.melon_query.specs.Reading.{Names}
use Rattle.melon_query.specs.declared.resolve.Setting.{Setting}

abbrev pub names_of : Setting → Names
names_of setting = record { tables = setting.schema.now.tables; main = setting.main.now; joins = setting.joins.now }
