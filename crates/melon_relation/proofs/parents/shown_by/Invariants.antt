use Rattle.melon_relation.proofs.parents.shown_by.Given as goal

abbrev pub ghosts-shown_counted : goal.ghosts-shown_counted
ghosts-shown_counted a = record { name = a.counter.name; parts = a.counter.parts }
