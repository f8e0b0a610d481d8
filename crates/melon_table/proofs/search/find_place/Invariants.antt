use Rattle.melon_table.proofs.search.find_place.Given as goal

abbrev pub ghosts-place_counted : goal.ghosts-place_counted
ghosts-place_counted a = record { name = a.counter.name; parts = a.counter.parts }
