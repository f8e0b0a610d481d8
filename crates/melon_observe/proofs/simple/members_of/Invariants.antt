use Rattle.melon_observe.proofs.simple.members_of.Given as goal

abbrev pub ghosts-members_counted : goal.ghosts-members_counted
ghosts-members_counted a = record { name = a.counter.name; parts = a.counter.parts }
