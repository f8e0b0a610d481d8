use Rattle.melon_units.proofs.raw.opens_a_counter.Given as goal

abbrev pub ghosts-take_two : goal.ghosts-take_two
ghosts-take_two a = record { name = a.counter.name; parts = a.counter.parts }
