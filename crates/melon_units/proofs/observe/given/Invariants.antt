use Rattle.melon_units.proofs.observe.given.Given as goal

abbrev pub ghosts-given_counted : goal.ghosts-given_counted
ghosts-given_counted a = record { name = a.counter.name; parts = a.counter.parts }
