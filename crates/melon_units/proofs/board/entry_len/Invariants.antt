use Rattle.melon_units.proofs.board.entry_len.Given as goal

abbrev pub ghosts-entry_counted : goal.ghosts-entry_counted
ghosts-entry_counted a = record { name = a.counter.name; parts = a.counter.parts }
