use Rattle.std.proofs.Common.{◌∙◌, ap, map, true, option_map, unwrap_or}
use Rattle.melon_schema.specs.Json.{named, only_keys}
use Rattle.melon_schema.proofs.Each.{only_known}
use Rattle.melon_schema.proofs.reader.has_only.Goals as goal

pub returns-in-Some : goal.returns-in-Some
returns-in-Some c = c.are_known.ensures ∙ only_known c.args.keys.now c.in-Some.members.now.entries
    ∙ ap (λ o. unwrap_or (option_map (only_keys (map (λ k. k.now) c.args.keys.now)) (option_map named o)) true) c.in-Some.ensures
