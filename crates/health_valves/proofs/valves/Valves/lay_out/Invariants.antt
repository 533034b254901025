use Rattle.health_valves.proofs.valves.Valves.lay_out.Given as goal

abbrev pub ghosts-settle_uncounted : goal.ghosts-settle_uncounted
ghosts-settle_uncounted a = record { name = a.blank.name; parts = a.blank.parts }
