use Rattle.melon_relation.proofs.observer.ParentObserver.turn.Given as goal

abbrev pub ghosts-changed_counted : goal.ghosts-changed_counted
ghosts-changed_counted a = record { name = a.counter.name; parts = a.counter.parts }
