use Rattle.std.proofs.Common.{arith, inl, inr}
use Rattle.dns_message.proofs.Owners.{left, root_there, pointer_there, label_there, first_there, only_behind}
use Rattle.dns_message.proofs.owner.owner_len.Goals as goal

pub returns-then-n-eq0-clause-owner : goal.returns-then-n-eq0-clause-owner
returns-then-n-eq0-clause-owner c =
    c.loop-at.invariant.joins 1 (root_there c.args.octets.now c.loop-at.at (omega (arith, c.loop-at-test.true)) c.if-n-eq0.true)

pub loop-at-preserved : goal.loop-at-preserved
loop-at-preserved c =
    let i = c.loop-at.invariant in
    let inside = c.loop-at-test.true in
    record {
      within = omega arith;
      joins = label_there c.args.octets.now c.loop-at.at inside (omega arith) (omega arith) (omega arith) i.joins;
      only = only_behind c.args.octets.now c.loop-at.at inside (omega arith) (omega arith) i.only;
    }

pub returns-then-octets-at-lt2-clause-none : goal.returns-then-octets-at-lt2-clause-none
returns-then-octets-at-lt2-clause-none c = λ n within owner.
    let o = c.args.octets.now in
    let r = first_there o c.loop-at.at c.loop-at-test.true c.loop-at.invariant.only n owner in
    elim r.2 [
      | inl e ↦ c.if-n-eq0.false e.0
      | inr (inl e) ↦ omega (arith, e.1, r.1, within, left o c.loop-at.at c.loop-at-test.true, c.if-octets-at-lt2.true)
      | inr (inr g) ↦ omega (arith, g.label.1, c.if-n-ge192.true)
    ]

pub returns-then-n-ge192-clause-owner : goal.returns-then-n-ge192-clause-owner
returns-then-n-ge192-clause-owner c =
    c.loop-at.invariant.joins 2
    (pointer_there c.args.octets.now c.loop-at.at c.loop-at-test.true c.if-n-ge192.true
    (omega (arith, c.if-octets-at-lt2.false, c.loop-at-test.true)))

pub returns-then-n-gt63-clause-none : goal.returns-then-n-gt63-clause-none
returns-then-n-gt63-clause-none c = λ n within owner.
    let r = first_there c.args.octets.now c.loop-at.at c.loop-at-test.true c.loop-at.invariant.only n owner in
    elim r.2 [
      | inl e ↦ c.if-n-eq0.false e.0
      | inr (inl e) ↦ omega (arith, e.0, c.if-n-ge192.false)
      | inr (inr g) ↦ omega (arith, g.label.1, c.if-n-gt63.true)
    ]

pub returns-then-n-octets-clause-none : goal.returns-then-n-octets-clause-none
returns-then-n-octets-clause-none c = λ n within owner.
    let o = c.args.octets.now in
    let r = first_there o c.loop-at.at c.loop-at-test.true c.loop-at.invariant.only n owner in
    elim r.2 [
      | inl e ↦ c.if-n-eq0.false e.0
      | inr (inl e) ↦ omega (arith, e.0, c.if-n-ge192.false)
      | inr (inr g) ↦
          omega (arith, g.label.2, left o c.loop-at.at c.loop-at-test.true, c.if-n-octets.true)
    ]
