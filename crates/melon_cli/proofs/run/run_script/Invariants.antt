use Rattle.melon_cli.proofs.run.run_script.Given as goal

abbrev pub ghosts-run_counted : goal.ghosts-run_counted
ghosts-run_counted g a = record { name = a.counter.name; parts = a.counter.parts }
