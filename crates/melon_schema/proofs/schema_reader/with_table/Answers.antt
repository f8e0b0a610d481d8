use Rattle.melon_schema.proofs.Sounding.{read_sound}
use Rattle.melon_schema.proofs.schema_reader.with_table.Goals as goal

pub push-requires-clause-sound : goal.push-requires-clause-sound
push-requires-clause-sound c = read_sound c.args.form.columns c.in_ok-columns.columns c.in_ok-columns.ensures
