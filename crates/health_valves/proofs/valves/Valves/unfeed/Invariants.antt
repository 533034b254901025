use Rattle.health_valves.proofs.valves.Valves.unfeed.Given as goal

abbrev pub ghosts-settle_above : goal.ghosts-settle_above
ghosts-settle_above a = record { name = a.blank.name; parts = a.blank.parts }
