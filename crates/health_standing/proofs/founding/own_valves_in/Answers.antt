use Rattle.std.proofs.Common.{◌≡◌, ◌≤◌, ◌+◌, ◌++◌, ◌∷◌, [], ℕ, zero, suc, List, length, length-append, take, drop, arith, refl, ap, sym, ◌∙◌, Some}
use Rattle.std.proofs.lemmas.List.{length-take, take-append-drop, take_all}
use mathlib.Core.Path.{subst}
use Rattle.health_planning.proofs.Groups.{member_at}
use Rattle.health_planning.proofs.Noted.{few_members}
use Rattle.health_planning.specs.Groups.{members_of}
use Rattle.health_planning.specs.Wired.{own_part, seat_of, valves_of, with_valve}
use Rattle.health_planning.specs.declared.seats.Seat.{Seat}
use Rattle.zone_model.proofs.Lists.{take_more}
use Rattle.zone_model.specs.Slotted.{Slotted}
use Rattle.health_standing.proofs.founding.own_valves_in.Goals as goal

some_same : {X : Type 0} {x y : X} → Some x ≡ Some y → x ≡ y
some_same e = cc

with_behind : (n : ℕ) (xs ys : List ℕ) → with_valve n (xs ++ ys) ≡ with_valve n xs ++ ys
with_behind zero xs ys = refl
with_behind (suc n) xs ys = refl

-- the valves of some sets and of others stand one behind the other
valves_both : (seats : List Seat) (xs ys : List Slotted) → valves_of seats (xs ++ ys) ≡ valves_of seats xs ++ valves_of seats ys
valves_both seats [] ys = refl
valves_both seats (x ∷ xs) ys =
    ap (with_valve (seat_of seats x.slot)) (valves_both seats xs ys)
    ∙ with_behind (seat_of seats x.slot) (valves_of seats xs) (valves_of seats ys)

one_long : (n : ℕ) → 1 ≤ n → length (with_valve n []) ≡ 1
one_long zero some = absurd (omega (arith, some))
one_long (suc n) some = refl

pub loop-i-init : goal.loop-i-init
loop-i-init c = record { within = omega arith; size = refl; many = omega arith; valves = refl }

pub loop-i-preserved : goal.loop-i-preserved
loop-i-preserved c =
    let members = members_of c.args.zones.now.zones c.args.group in
    let seats = c.args.seats.now in
    let i = c.loop-i.invariant in
    let m = member_at c.args.zones.now.zones c.args.group c.loop-i.i c.member.result c.loop-i-test.true c.member.ensures in
    let w = c.in-Some.ensures.found c.in-Some.now refl in
    let told : c.own_valve-told.result ≡ seat_of seats m.p.slot =
    c.own_valve-told.ensures ∙ ap own_part c.find_seat.ensures.set ∙ ap (seat_of seats) (sym m.slot) in
    record {
      within = omega (arith, c.loop-i-test.true);
      size = c.in-Some.ensures.size ∙ i.size;
      many = w.0;
      valves = w.1 ∙ ap (λ (l : List ℕ). l ++ with_valve c.own_valve-told.result []) i.valves
          ∙ ap (λ (n : ℕ). valves_of seats (take c.loop-i.i members) ++ with_valve n []) told
          ∙ sym (valves_both seats (take c.loop-i.i members) (m.p ∷ []))
          ∙ ap (valves_of seats) (sym (take_more members c.loop-i.i m.p m.at));
    }

pub returns-in_default-clause-none : goal.returns-in_default-clause-none
returns-in_default-clause-none c is =
    let members = members_of c.args.zones.now.zones c.args.group in
    let seats = c.args.seats.now in
    let i = c.loop-i.invariant in
    let m = member_at c.args.zones.now.zones c.args.group c.loop-i.i c.member.result c.loop-i-test.true c.member.ensures in
    let w = c.in_default.ensures.none refl in
    let full = w.0 in
    let told : c.own_valve-told.result ≡ seat_of seats m.p.slot =
    c.own_valve-told.ensures ∙ ap own_part c.find_seat.ensures.set ∙ ap (seat_of seats) (sym m.slot) in
    let front = take c.loop-i.i members in
    let both = ap (λ (l : List ℕ). length l) (ap (valves_of seats) (take_more members c.loop-i.i m.p m.at) ∙ valves_both seats front (m.p ∷ [])) in
    let parts = length-append (valves_of seats front) (valves_of seats (m.p ∷ [])) in
    let one = one_long (seat_of seats m.p.slot) (subst (λ (n : ℕ). 1 ≤ n) told w.1) in
    let all = ap (λ (l : List ℕ). length l) (sym (valves_both seats (take (c.loop-i.i + 1) members) (drop (c.loop-i.i + 1) members))
    ∙ ap (valves_of seats) (take-append-drop (c.loop-i.i + 1) members)) in
    let halves = length-append (valves_of seats (take (c.loop-i.i + 1) members)) (valves_of seats (drop (c.loop-i.i + 1) members)) in
    let taken = ap (λ (l : List ℕ). length l) i.valves in
    let size = i.size in
    let within = i.many in
    let long = length-take c.loop-i.many c.loop-i.into in
    omega (arith, full, both, parts, one, all, halves, taken, size, within, long)

pub returns-clause-found : goal.returns-clause-found
returns-clause-found c many is =
    let members = members_of c.args.zones.now.zones c.args.group in
    let long = few_members c.args.zones.now.zones c.args.group in
    let end = c.loop-i-test.false in
    let within = c.loop-i.invariant.within in
    let all : take c.loop-i.i members ≡ members = take_all c.loop-i.i members (omega arith) in
    subst (λ (n : ℕ). (n ≤ length c.loop-i.into) × (take n c.loop-i.into ≡ valves_of c.args.seats.now members)) (some_same is)
    (c.loop-i.invariant.many, c.loop-i.invariant.valves ∙ ap (valves_of c.args.seats.now) all)
