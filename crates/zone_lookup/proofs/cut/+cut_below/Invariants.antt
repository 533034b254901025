use Rattle.zone_lookup.proofs.cut.+cut_below.Given as goal

abbrev pub decreases-cut_below : goal.decreases-cut_below
decreases-cut_below l = l.labels
