use Rattle.std.proofs.Common.{◌≡◌, Option, Some, None, option_map, Err, map, sym, ap, ◌∙◌}
use Rattle.melon_raw.specs.Rows.{Key}
use Rattle.melon_wire.specs.Keys.{first_again}
use Rattle.melon_log.specs.declared.fault.PushFault.TheVariants.{Repeated}
use Rattle.melon_log.specs.Verdict.{if_any}
use Rattle.melon_backend.specs.Listing.{key_told, tellings_seen}
use Rattle.melon_backend.proofs.Seen.{key_seen, keys_seen}
use Rattle.melon_backend.proofs.named.refuse_repeated.Goals as goal

pub returns-in-None : goal.returns-in-None
returns-in-None c =
    let is : first_again (map key_told (tellings_seen c.args.listed.now)) ≡ None = ap first_again (sym (keys_seen c.args.listed.now)) ∙ sym c.in-None.ensures in
    ap (λ (o : Option Key). if_any (option_map (λ (x : Key). Repeated c.args.told.now.table x.id) o)) is

pub returns-in_ok-repeated-in-Some : goal.returns-in_ok-repeated-in-Some
returns-in_ok-repeated-in-Some c = λ other.
    let is : first_again (map key_told (tellings_seen c.args.listed.now)) ≡ Some (key_seen c.in-Some.one.now) = ap first_again (sym (keys_seen c.args.listed.now)) ∙ sym c.in-Some.ensures in
    ap (λ (o : Option Key). if_any (option_map (λ (x : Key). Repeated c.args.told.now.table x.id) o)) is ∙ ap Err (sym c.in_ok-repeated-in-Some.ensures)
