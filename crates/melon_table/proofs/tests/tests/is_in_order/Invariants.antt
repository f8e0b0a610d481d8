use Rattle.melon_table.proofs.tests.tests.is_in_order.Given as goal

abbrev pub ghosts-are_in_order : goal.ghosts-are_in_order
ghosts-are_in_order a = record { name = a.counter.name; parts = a.counter.parts }
