use Rattle.melon_relation.proofs.parents.related.Given as goal

abbrev pub ghosts-is_shown_counted : goal.ghosts-is_shown_counted
ghosts-is_shown_counted a = record { name = a.counter.name; parts = a.counter.parts }
