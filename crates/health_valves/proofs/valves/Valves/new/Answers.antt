use Rattle.std.proofs.Common.{[], length, refl, ap, arith}
use Rattle.health_valves.proofs.Members.{in_none}
use Rattle.health_valves.specs.Valves.{IsLaid}
use Rattle.health_valves.specs.Blueprint.{net_in, no_blueprint}
use Rattle.health_valves.proofs.valves.Valves.new.Goals as goal

laid_nothing : IsLaid (net_in no_blueprint) [] (record { fed = []; feeders = []; room = 0; most = 0; valves_room = 0 })
laid_nothing = record {
  size = refl;
  valves = refl;
  each_row = λ n row at. let no : ⊥ = cc in absurd no;
  reversed = λ x y within. absurd (omega arith);
  within = λ x y fed. absurd (in_none y fed);
}

pub returns-clause-fits : goal.returns-clause-fits
returns-clause-fits c = record {
  laid = rw (c.new.ensures.items, c.new-2.ensures) laid_nothing;
  values = ap length c.new-3.ensures.items;
  counted = record {
    size = ap length c.new-4.ensures.items;
    small = λ n within. absurd (omega arith);
    few = λ n within. absurd (omega arith);
    each = λ n within. absurd (omega arith);
  };
  owned = record { size = ap length c.new-5.ensures.items; each = λ n within. absurd (omega arith) };
  marks = ap length c.new-7.ensures.items;
  room = omega arith;
}
