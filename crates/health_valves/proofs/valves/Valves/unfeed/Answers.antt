use Rattle.std.proofs.Common.{◌≡◌, [], ap, sym, ◌∙◌, inl, inr}
use mathlib.Core.Path.{subst}
use Rattle.std.proofs.lemmas.Bool.{cases_eq}
use Rattle.health_valves.specs.Valves.{MeetsEquation, unfed_condition, value_in, value_of, with_condition, with_own}
use Rattle.health_valves.proofs.Cuts.{ends_now, meets_here, meets_there}
use Rattle.health_valves.proofs.Members.{in_head}
use Rattle.health_valves.proofs.valves.Valves.unfeed.Goals as goal

pub returns-then-value_at-clause-meet : goal.returns-then-value_at-clause-meet
returns-then-value_at-clause-meet c net own f ends meet n b =
    let valve = c.args.valve in
    let s = c.cut.new.self in
    let vs : s.values ≡ c.args.self.now.values = ap (λ s. s.values) c.cut.ensures.rest in
    let v = value_of s in
    elim (cases_eq n valve) [
      | inl e ↦ rw e (meets_here net own valve v (sym (c.value_at.ensures ∙ ap (λ l. value_in l valve) c.deref.ensures.value) ∙ c.if-value_at.true))
      | inr apart ↦ meets_there net own valve v n apart (subst (λ l. MeetsEquation net own (value_in l.items) n) (sym vs) (meet n b))
    ]

pub settle_above-requires-clause-ready : goal.settle_above-requires-clause-ready
settle_above-requires-clause-ready c =
    let r = c.requires.ready in
    let valve = c.args.valve in
    (with_condition valve unfed_condition r.0, with_own valve 0 r.1, c.cut.ensures.fits r.0 r.1 r.2)

pub returns-clause-fits : goal.returns-clause-fits
returns-clause-fits c net own f = c.settle_above.ensures.fits _ _ (c.cut.ensures.fits net own f)

pub returns-clause-meet : goal.returns-clause-meet
returns-clause-meet c net own f ends meet =
    let valve = c.args.valve in
    let s = c.cut.new.self in
    let vs : s.values ≡ c.args.self.now.values = ap (λ s. s.values) c.cut.ensures.rest in
    c.settle_above.ensures.mends _ _ (c.cut.ensures.fits net own f) (ends_now net own valve ends)
    (λ n b out. meets_there net own valve (value_of s) n (λ e. out (valve, in_head valve [], (0, e)))
    (subst (λ l. MeetsEquation net own (value_in l.items) n) (sym vs) (meet n b)))

pub returns-clause-room : goal.returns-clause-room
returns-clause-room c n m h = c.settle_above.ensures.room n m (c.cut.ensures.room n m h)
