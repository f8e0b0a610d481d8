use Rattle.std.proofs.Common.{refl}
use Rattle.melon_backend.proofs.Lent.{put_rows, keeps_set, other_ids}
use Rattle.melon_backend.proofs.commit.put_at.Goals as goal

pub returns-clause-rows : goal.returns-clause-rows
returns-clause-rows c = put_rows c.args.tables.now.items c.args.put.table c.index_mut.result.now c.put.new.self c.requires.within c.index_mut.ensures.value c.args.put refl c.put.ensures.shown

pub returns-clause-keeps : goal.returns-clause-keeps
returns-clause-keeps c = λ q apart has. keeps_set c.args.tables.now.items c.args.put.table c.index_mut.result.now c.put.new.self c.requires.within c.index_mut.ensures.value q (λ place own. c.put.ensures.keeps q.row (other_ids c.args.put q apart place) own) has
