use Rattle.melon_raw.proofs.RowBack.{unique}
use Rattle.melon_raw.proofs.decoding.encoding_is_unique.Goals as goal

pub returns : goal.returns
returns c = unique
