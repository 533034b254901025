use Rattle.std.proofs.Common.{[], ◌∷◌, ◌++◌, ℕ, arith, ap, length, sym}
use mathlib.Core.Path.{subst}
use Rattle.health_index.proofs.Kept.{kept_fewer, kept_more, kept_same}
use Rattle.health_index.proofs.Valved.{fewer_valves, more_valves}
use Rattle.health_planning.specs.Wired.{HaveValves}
use Rattle.health_index.proofs.valve_numbers.keep_numbers.Goals as goal

pub returns-in-Same-clause-valves : goal.returns-in-Same-clause-valves
returns-in-Same-clause-valves c =
    subst (λ (n : ℕ). HaveValves n c.args.numbers.now.items) (sym c.in-Same.ensures.0) c.requires.valves

pub returns-in-Same-clause-kept : goal.returns-in-Same-clause-kept
returns-in-Same-clause-kept c kept =
    kept_same c.args.ids.now c.args.numbers.now.items c.args.list.now c.requires.apart c.requires.apart_now c.requires.valves c.in-Same.ensures

pub spare_number-valve-requires : goal.spare_number-valve-requires
spare_number-valve-requires c =
    let many = c.requires.valves.as_many in
    let few = c.requires.few in
    let more = c.in-More.ensures.0 in
    let long = ap length c.deref.ensures.value in
    omega arith

pub push_reserved-requires : goal.push_reserved-requires
push_reserved-requires c =
    let many = c.requires.valves.as_many in
    let few = c.requires.few in
    let more = c.in-More.ensures.0 in
    let room = c.requires.room in
    let long = c.args.numbers.now.ok.0 in
    omega arith

pub returns-in-More-clause-valves : goal.returns-in-More-clause-valves
returns-in-More-clause-valves c =
    let spare = rw c.deref.ensures.value at c.spare_number-valve.ensures in
    rw c.push_reserved.ensures.items (subst (λ (n : ℕ). HaveValves n (c.args.numbers.now.items ++ c.spare_number-valve.result ∷ [])) (sym c.in-More.ensures.0)
    (more_valves (length c.args.ids.now) c.args.numbers.now.items c.spare_number-valve.result c.requires.valves spare))

pub returns-in-More-clause-kept : goal.returns-in-More-clause-kept
returns-in-More-clause-kept c kept =
    rw c.push_reserved.ensures.items
    (kept_more c.args.ids.now c.args.numbers.now.items c.args.list.now c.requires.apart c.requires.apart_now c.requires.valves c.in-More.ensures
    c.spare_number-valve.result)

pub remove-requires : goal.remove-requires
remove-requires c =
    let many = c.requires.valves.as_many in
    let goes = c.in-Fewer.ensures.0 in
    let long = c.args.numbers.now.ok.0 in
    omega arith

pub returns-in-Fewer-clause-valves : goal.returns-in-Fewer-clause-valves
returns-in-Fewer-clause-valves c =
    let fewer = c.in-Fewer.ensures in
    let many = c.requires.valves.as_many in
    let goes = fewer.0 in
    rw c.remove.ensures.items
    (fewer_valves c.args.numbers.now.items c.in-Fewer.gone (length c.args.list.now)
    (subst (λ (n : ℕ). HaveValves n c.args.numbers.now.items) fewer.1.0 c.requires.valves) (omega arith))

pub returns-in-Fewer-clause-kept : goal.returns-in-Fewer-clause-kept
returns-in-Fewer-clause-kept c kept =
    rw c.remove.ensures.items
    (kept_fewer c.args.ids.now c.args.numbers.now.items c.args.list.now c.requires.apart c.requires.apart_now c.requires.valves c.in-Fewer.gone c.in-Fewer.ensures)

pub list_numbers-requires-clause-room : goal.list_numbers-requires-clause-room
list_numbers-requires-clause-room c =
    let cleared = c.clear.ensures.capacity in
    let room = c.requires.room in
    let few = c.requires.few in
    omega arith

pub list_numbers-requires-clause-few : goal.list_numbers-requires-clause-few
list_numbers-requires-clause-few c =
    let few = c.requires.few in
    omega arith
