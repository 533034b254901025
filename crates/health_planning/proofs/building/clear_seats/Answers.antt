use Rattle.std.proofs.Common.{inl, inr}
use Rattle.std.proofs.lemmas.Bool.{cases_lt}
use Rattle.health_planning.proofs.Given.{all_free}
use Rattle.health_planning.proofs.Told.{bare_free, free_all, keeps_trans}
use Rattle.health_planning.proofs.building.clear_seats.Goals as goal

pub returns-clause-free : goal.returns-clause-free
returns-clause-free c = record {
  size = c.fit_seats.ensures.size;
  each = λ slot. elim (cases_lt slot c.args.slots) [
    | inl early ↦
        free_all c.clear_those-2.new.seats.items c.fit_seats.new.seats.items slot (c.fit_seats.ensures.front slot early)
        (all_free c.args.refs.now c.args.members.now c.args.seats.now.items c.clear_those.new.seats.items c.clear_those-2.new.seats.items
        c.requires.given c.clear_those.ensures.cleared c.clear_those.ensures.free
        c.clear_those-2.ensures.cleared c.clear_those-2.ensures.free slot)
    | inr past ↦ bare_free c.fit_seats.new.seats.items slot (c.fit_seats.ensures.past slot past)
  ];
}

pub returns-clause-checks : goal.returns-clause-checks
returns-clause-checks c slot early =
    keeps_trans c.args.seats.now.items c.clear_those-2.new.seats.items c.fit_seats.new.seats.items slot
    (keeps_trans c.args.seats.now.items c.clear_those.new.seats.items c.clear_those-2.new.seats.items slot
    (c.clear_those.ensures.checks slot) (c.clear_those-2.ensures.checks slot))
    (inl (c.fit_seats.ensures.front slot early).0)
