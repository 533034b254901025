use Rattle.drill_run.proofs.taking.take_once.Given as goal

abbrev pub ghosts-take : goal.ghosts-take
ghosts-take a = record { name = a.blank.name; parts = a.blank.parts }
