use Rattle.melon_world.proofs.reading.encodings.Given as goal

abbrev pub ghosts-encodings_counted : goal.ghosts-encodings_counted
ghosts-encodings_counted a = record { name = a.counter.name; parts = a.counter.parts }
