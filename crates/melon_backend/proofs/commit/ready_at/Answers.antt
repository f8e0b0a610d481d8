use Rattle.std.proofs.Common.{refl}
use Rattle.melon_backend.proofs.Lent.{same_rows_set, ready_set, keeps_set}
use Rattle.melon_backend.proofs.Lists.{on_ok}
use Rattle.melon_backend.proofs.commit.ready_at.Goals as goal

pub returns-clause-rows : goal.returns-clause-rows
returns-clause-rows c = same_rows_set c.args.tables.now.items c.args.put.now.table c.index_mut.result.now c.ready.new.self c.requires.within c.index_mut.ensures.value c.ready.ensures.shown

pub returns-clause-ready : goal.returns-clause-ready
returns-clause-ready c = on_ok c.ready.result c.ready.ensures.ready (ready_set c.args.tables.now.items c.args.put.now.table c.index_mut.result.now c.ready.new.self c.requires.within c.index_mut.ensures.value c.args.put.now refl)

pub returns-clause-keeps : goal.returns-clause-keeps
returns-clause-keeps c = λ q has. keeps_set c.args.tables.now.items c.args.put.now.table c.index_mut.result.now c.ready.new.self c.requires.within c.index_mut.ensures.value q (λ place own. c.ready.ensures.keeps q.row own) has
