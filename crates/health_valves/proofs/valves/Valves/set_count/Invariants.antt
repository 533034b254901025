use Rattle.health_valves.proofs.valves.Valves.set_count.Given as goal

abbrev pub ghosts-settle_above : goal.ghosts-settle_above
ghosts-settle_above a = record { name = a.blank.name; parts = a.blank.parts }
