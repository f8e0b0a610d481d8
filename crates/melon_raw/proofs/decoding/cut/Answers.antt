use Rattle.std.proofs.Common.{arith}
use Rattle.std.proofs.lemmas.Str.Pattern.{split_once_first}
use Rattle.melon_raw.proofs.Pieces.{cut_pieces}
use Rattle.melon_raw.proofs.decoding.cut.Goals as goal

pub returns : goal.returns
returns c = cut_pieces c.args.text.now c.split_once.result (split_once_first 44 c.args.text.now c.split_once.result c.split_once.ensures.cases (omega arith))
