use Rattle.std.proofs.Common.{length, Err, sym, ap, ◌∙◌}
use Rattle.melon_wire.specs.Keys.{first_again}
use Rattle.melon_pull.specs.Listing.{tellings_seen}
use Rattle.melon_pull.proofs.Seen.{key_seen, keys_seen, declared_again, none_repeats, one_repeats}
use Rattle.melon_pull.proofs.refusal.refuse_repeated.Goals as goal

pub repeated-requires : goal.repeated-requires
repeated-requires c = declared_again (length c.args.schema.now.tables) (tellings_seen c.args.listed.now) (key_seen c.in-Some.one.now) c.requires (ap first_again (sym (keys_seen c.args.listed.now)) ∙ sym c.in-Some.ensures)

pub returns-in-None : goal.returns-in-None
returns-in-None c = none_repeats c.args.schema.now.tables c.args.listed.now c.in-None.ensures

pub returns-in_ok-repeated-in-Some : goal.returns-in_ok-repeated-in-Some
returns-in_ok-repeated-in-Some c = λ other. one_repeats c.args.schema.now.tables c.args.listed.now (key_seen c.in-Some.one.now) c.in-Some.ensures ∙ ap Err (sym c.in_ok-repeated-in-Some.ensures)
