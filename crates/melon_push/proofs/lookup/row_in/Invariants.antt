use Rattle.melon_push.proofs.lookup.row_in.Given as goal

abbrev pub ghosts-row_counted : goal.ghosts-row_counted
ghosts-row_counted a = record { name = a.counter.name; parts = a.counter.parts }
