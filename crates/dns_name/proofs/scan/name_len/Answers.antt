use Rattle.std.proofs.Common.{arith, refl, inl, inr}
use Rattle.dns_name.proofs.Peel.{next, one_more, ends}
use Rattle.dns_name.proofs.scan.name_len.Goals as goal
use Rattle.dns_name.proofs.scan.name_len.Goals.{then-n-gt63-via-then-n-gt63, then-n-gt63-via-else-n-gt63+then-n-bytes}

pub returns-then-n-gt63-clause-none : goal.returns-then-n-gt63-clause-none
returns-then-n-gt63-clause-none c = λ raw rest w e.
    let i = c.loop-at.invariant in
    let r = next c.args.bytes.now c.loop-at.at i.1 i.0 i.2 i.3 raw rest w e in
    elim c.then-n-gt63.branch [
      | then-n-gt63-via-then-n-gt63 b ↦
          elim r.shape [
            | inl z ↦ omega (arith, b.if-n-gt63.true)
            | inr t ↦ omega (arith, t.1, b.if-n-gt63.true)
          ]
      | then-n-gt63-via-else-n-gt63+then-n-bytes b ↦
          elim r.shape [ inl z ↦ omega arith | inr t ↦ omega (arith, t.2, b.if-n-bytes.true) ]
    ]

pub loop-at-preserved : goal.loop-at-preserved
loop-at-preserved c =
    let i = c.loop-at.invariant in
    let m = one_more c.args.bytes.now c.loop-at.at i.1 i.2 i.3 _ refl (omega arith) (omega arith)
    (omega arith) in
    (omega arith, m.raw, m.each, m.front)

pub returns-else-at-lt255-clause-none : goal.returns-else-at-lt255-clause-none
returns-else-at-lt255-clause-none c = λ raw rest w e.
    let i = c.loop-at.invariant in
    let r = next c.args.bytes.now c.loop-at.at i.1 i.0 i.2 i.3 raw rest w e in
    omega (arith, r.small)

pub returns-after-loop-at-clause-none : goal.returns-after-loop-at-clause-none
returns-after-loop-at-clause-none c = λ raw rest w e.
    let i = c.loop-at.invariant in
    let r = next c.args.bytes.now c.loop-at.at i.1 i.0 i.2 i.3 raw rest w e in
    omega (arith, r.inside)

pub returns-then-n-eq0-clause-only : goal.returns-then-n-eq0-clause-only
returns-then-n-eq0-clause-only c =
    let i = c.loop-at.invariant in
    ends c.args.bytes.now c.loop-at.at i.1 i.0 i.2 i.3 c.if-n-eq0.true
