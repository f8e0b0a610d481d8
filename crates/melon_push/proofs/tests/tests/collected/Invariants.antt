use Rattle.melon_push.proofs.tests.tests.collected.Given as goal

abbrev pub ghosts-collect_counted : goal.ghosts-collect_counted
ghosts-collect_counted a = record { name = a.counter.name; parts = a.counter.parts }
