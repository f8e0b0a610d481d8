use Rattle.melon_eval.proofs.projection.project.Given as goal

abbrev pub ghosts-project_counted : goal.ghosts-project_counted
ghosts-project_counted a = record { name = a.counter.name; parts = a.counter.parts }
