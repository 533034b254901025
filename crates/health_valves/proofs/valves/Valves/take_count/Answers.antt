use Rattle.std.proofs.Common.{◌≡◌, [], length, arith, ap, sym, refl, ◌∙◌, inl, inr}
use mathlib.Core.Path.{subst}
use Rattle.std.proofs.lemmas.Bool.{cases_eq}
use Rattle.health_valves.specs.Valves.{value_of, value_in, with_own, MeetsEquation}
use Rattle.health_valves.proofs.Members.{in_head}
use Rattle.health_valves.proofs.Turns.{is_row}
use Rattle.health_valves.proofs.Counts.{there, now_is, own_alone, beq_yes, beq_no}
use Rattle.health_valves.proofs.valves.Valves.take_count.Goals as goal

pub settle-requires-clause-ready : goal.settle-requires-clause-ready
settle-requires-clause-ready g c = let r = c.requires.ready in (r.0, with_own c.args.valve c.args.count r.1, c.put_own.ensures.fits r.0 r.1 r.2)

pub returns-then-now-was-clause-meet : goal.returns-then-now-was-clause-meet
returns-then-now-was-clause-meet g c net own f ends meet n b =
    let rest = c.put_own.ensures.rest in
    let vs : c.put_own.new.self.values ≡ c.args.self.now.values = ap (λ s. s.values) rest in
    let rs : c.put_own.new.self.rows ≡ c.args.self.now.rows = ap (λ s. s.rows) rest in
    let fit = c.put_own.ensures.fits net own f in
    let lr = ap (λ r. length r.items) rs in
    let valve = c.requires.valve in
    let at = is_row c.put_own.new.self.rows.items c.args.valve c.index-row.result.now (omega (arith, lr, valve)) c.index-row.ensures in
    let v = value_of c.put_own.new.self in
    let now = now_is net own c.args.valve c.args.count _ _ _ _ v _ fit.laid at c.is_open-now.ensures (sym (own_alone net own c.args.valve c.args.count (c.requires.alone net own f) _)) in
    let was = c.value_at-was.ensures ∙ ap (λ l. value_in l c.args.valve) c.deref.ensures.value in
    elim (cases_eq n c.args.valve) [
      | inl e ↦ rw e (sym was ∙ sym (beq_yes _ _ c.if-now-was.true) ∙ now)
      | inr ne ↦ there net own c.args.valve c.args.count v n ne (subst (λ l. MeetsEquation net own (value_in l.items) n) (sym vs) (meet n b))
    ]

pub returns-clause-fits : goal.returns-clause-fits
returns-clause-fits g c net own f = c.settle.ensures.fits net _ (c.put_own.ensures.fits net own f)

pub returns-clause-meet : goal.returns-clause-meet
returns-clause-meet g c net own f ends meet =
    let vs : c.put_own.new.self.values ≡ c.args.self.now.values = ap (λ s. s.values) c.put_own.ensures.rest in
    c.settle.ensures.mends net _ (c.put_own.ensures.fits net own f) ends (λ n b out. there net own c.args.valve c.args.count (value_of c.put_own.new.self) n (λ e. out (c.args.valve, in_head c.args.valve [], (0, e))) (subst (λ l. MeetsEquation net own (value_in l.items) n) (sym vs) (meet n b)))

pub returns-clause-changed : goal.returns-clause-changed
returns-clause-changed g c net own f ends meet =
    let rest = c.put_own.ensures.rest in
    let vs : c.put_own.new.self.values ≡ c.args.self.now.values = ap (λ s. s.values) rest in
    let rs : c.put_own.new.self.rows ≡ c.args.self.now.rows = ap (λ s. s.rows) rest in
    let fit = c.put_own.ensures.fits net own f in
    let lr = ap (λ r. length r.items) rs in
    let valve = c.requires.valve in
    let at = is_row c.put_own.new.self.rows.items c.args.valve c.index-row.result.now (omega (arith, lr, valve)) c.index-row.ensures in
    let now = now_is net own c.args.valve c.args.count _ _ _ _ (value_of c.settle.new.self) _ fit.laid at c.is_open-now.ensures (sym (own_alone net own c.args.valve c.args.count (c.requires.alone net own f) _)) in
    let was = c.value_at-was.ensures ∙ ap (λ l. value_in l c.args.valve) c.deref.ensures.value ∙ ap (λ l. value_in l.items c.args.valve) vs in
    let size = f.laid.size in
    let met = c.settle.ensures.mends net _ fit ends (λ n b out. there net own c.args.valve c.args.count (value_of c.put_own.new.self) n (λ e. out (c.args.valve, in_head c.args.valve [], (0, e))) (subst (λ l. MeetsEquation net own (value_in l.items) n) (sym vs) (meet n b))) c.args.valve (omega arith) in
    ((λ t same. beq_no _ _ c.if-now-was.false (now ∙ sym met ∙ same ∙ sym was)), λ t. refl)

pub returns-clause-cost : goal.returns-clause-cost
returns-clause-cost g c net own nodes f has = c.settle.ensures.cost net (with_own c.args.valve c.args.count own) nodes (c.put_own.ensures.fits net own f) has

pub returns-clause-cone : goal.returns-clause-cone
returns-clause-cone g c is net own f =
    c.settle.ensures.cone net (with_own c.args.valve c.args.count own) (c.put_own.ensures.fits net own f)

pub returns-clause-room : goal.returns-clause-room
returns-clause-room g c n m h = c.settle.ensures.room n m (c.put_own.ensures.room n m h)
