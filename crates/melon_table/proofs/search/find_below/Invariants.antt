use Rattle.melon_table.proofs.search.find_below.Given as goal

abbrev pub ghosts-dirty_counted : goal.ghosts-dirty_counted
ghosts-dirty_counted a = record { name = a.counter.name; parts = a.counter.parts }
