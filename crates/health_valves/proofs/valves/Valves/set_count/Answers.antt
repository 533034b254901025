use Rattle.std.proofs.Common.{◌≡◌, [], length, arith, ap, sym, ◌∙◌, inl, inr}
use mathlib.Core.Path.{subst}
use Rattle.std.proofs.lemmas.Bool.{cases_eq}
use Rattle.health_valves.specs.Valves.{value_of, value_in, with_own, MeetsEquation}
use Rattle.health_valves.proofs.Members.{in_head}
use Rattle.health_valves.proofs.Turns.{is_row}
use Rattle.health_valves.proofs.Counts.{there, now_is, beq_yes}
use Rattle.health_valves.proofs.valves.Valves.set_count.Goals as goal

pub count-requires-clause-ready : goal.count-requires-clause-ready
count-requires-clause-ready c = let r = c.requires.ready in (r.0, with_own c.args.valve c.args.count r.1, c.put_own.ensures.fits r.0 r.1 r.2)

pub settle_above-requires-clause-ready : goal.settle_above-requires-clause-ready
settle_above-requires-clause-ready c = let r = c.requires.ready in (r.0, with_own c.args.valve c.args.count r.1, c.put_own.ensures.fits r.0 r.1 r.2)

pub returns-clause-fits : goal.returns-clause-fits
returns-clause-fits c net own f = c.settle_above.ensures.fits net _ (c.put_own.ensures.fits net own f)

pub returns-then-now-was-clause-meet : goal.returns-then-now-was-clause-meet
returns-then-now-was-clause-meet c net own f ends meet n b =
    let rest = c.put_own.ensures.rest in
    let vs : c.put_own.new.self.values ≡ c.args.self.now.values = ap (λ s. s.values) rest in
    let rs : c.put_own.new.self.rows ≡ c.args.self.now.rows = ap (λ s. s.rows) rest in
    let fit = c.put_own.ensures.fits net own f in
    let lr = ap (λ r. length r.items) rs in
    let valve = c.requires.valve in
    let at = is_row c.put_own.new.self.rows.items c.args.valve c.index-row.result.now (omega (arith, lr, valve)) c.index-row.ensures in
    let v = value_of c.put_own.new.self in
    let now = now_is net own c.args.valve c.args.count _ _ _ _ v _ fit.laid at c.is_open-now.ensures (c.count.ensures net _ fit) in
    let was = c.value_at-was.ensures ∙ ap (λ l. value_in l c.args.valve) c.deref.ensures.value in
    elim (cases_eq n c.args.valve) [
      | inl e ↦ rw e (sym was ∙ sym (beq_yes _ _ c.if-now-was.true) ∙ now)
      | inr ne ↦ there net own c.args.valve c.args.count v n ne (subst (λ l. MeetsEquation net own (value_in l.items) n) (sym vs) (meet n b))
    ]

pub returns-clause-meet : goal.returns-clause-meet
returns-clause-meet c net own f ends meet =
    let vs : c.put_own.new.self.values ≡ c.args.self.now.values = ap (λ s. s.values) c.put_own.ensures.rest in
    c.settle_above.ensures.mends net _ (c.put_own.ensures.fits net own f) ends (λ n b out. there net own c.args.valve c.args.count (value_of c.put_own.new.self) n (λ e. out (c.args.valve, in_head c.args.valve [], (0, e))) (subst (λ l. MeetsEquation net own (value_in l.items) n) (sym vs) (meet n b)))

pub returns-clause-room : goal.returns-clause-room
returns-clause-room c n m h = c.settle_above.ensures.room n m (c.put_own.ensures.room n m h)
