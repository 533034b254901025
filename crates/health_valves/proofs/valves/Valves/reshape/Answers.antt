use Rattle.std.proofs.Common.{◌≡◌, [], ap, sym, ◌∙◌, inl, inr}
use mathlib.Core.Path.{subst}
use Rattle.std.proofs.lemmas.Bool.{cases_eq}
use Rattle.health_valves.specs.Valves.{value_of, value_in, with_need, MeetsEquation}
use Rattle.health_valves.proofs.Members.{in_head}
use Rattle.health_valves.proofs.Counts.{beq_yes}
use Rattle.health_valves.proofs.Needs.{ends_same, meets_there, now_is}
use Rattle.health_valves.proofs.valves.Valves.reshape.Goals as goal

pub count-requires-clause-ready : goal.count-requires-clause-ready
count-requires-clause-ready c = let r = c.requires.ready in (with_need c.args.valve c.args.need c.args.inverted r.0, r.1, c.put_need.ensures.fits r.0 r.1 r.2)

pub settle_above-requires-clause-ready : goal.settle_above-requires-clause-ready
settle_above-requires-clause-ready c = let r = c.requires.ready in (with_need c.args.valve c.args.need c.args.inverted r.0, r.1, c.put_need.ensures.fits r.0 r.1 r.2)

pub returns-clause-fits : goal.returns-clause-fits
returns-clause-fits c net own f = c.settle_above.ensures.fits _ own (c.put_need.ensures.fits net own f)

pub returns-then-now-was-clause-meet : goal.returns-then-now-was-clause-meet
returns-then-now-was-clause-meet c net own f ends meet n b =
    let valve = c.args.valve in
    let s = c.put_need.new.self in
    let vs : s.values ≡ c.args.self.now.values = ap (λ s. s.values) c.put_need.ensures.rest in
    let fit = c.put_need.ensures.fits net own f in
    let v = value_of s in
    let now = now_is valve c.args.need c.args.inverted net own v _ _ c.is_open-now.ensures (c.count.ensures _ own fit) in
    let was = c.value_at-was.ensures ∙ ap (λ l. value_in l valve) c.deref.ensures.value in
    elim (cases_eq n valve) [
      | inl e ↦ rw e (sym was ∙ sym (beq_yes _ _ c.if-now-was.true) ∙ now)
      | inr apart ↦ meets_there valve c.args.need c.args.inverted net own v n apart (subst (λ l. MeetsEquation net own (value_in l.items) n) (sym vs) (meet n b))
    ]

pub returns-clause-meet : goal.returns-clause-meet
returns-clause-meet c net own f ends meet =
    let valve = c.args.valve in
    let s = c.put_need.new.self in
    let vs : s.values ≡ c.args.self.now.values = ap (λ s. s.values) c.put_need.ensures.rest in
    c.settle_above.ensures.mends _ own (c.put_need.ensures.fits net own f) (ends_same valve c.args.need c.args.inverted net 64 ends)
    (λ n b out. meets_there valve c.args.need c.args.inverted net own (value_of s) n (λ e. out (valve, in_head valve [], (0, e)))
    (subst (λ l. MeetsEquation net own (value_in l.items) n) (sym vs) (meet n b)))

pub returns-clause-room : goal.returns-clause-room
returns-clause-room c n m h = c.settle_above.ensures.room n m (c.put_need.ensures.room n m h)
