use Rattle.std.proofs.Common.{◌≡◌, ℕ, ◌∷◌, [], ◌++◌, length, ap, ◌+◌, ◌∙◌, take, drop, refl, sym, subst, arith, rules}
use Rattle.r53_disk.proofs.Moments.{rests_joined, only_still}
use Rattle.gate_journal.specs.Read.{IsRead, IsBroken}
use Rattle.gate_journal.proofs.Reading.{not_past, not_opened, closed, cut_short, read_on, ends_here}
use Rattle.gate_journal.proofs.journal.Journal.next.Goals as goal

pub returns-then-gate-ne-OPEN-clause-gives : goal.returns-then-gate-ne-OPEN-clause-gives
returns-then-gate-ne-OPEN-clause-gives g c =
    λ n s es bytes told r.
    let gate =
    subst (λ at. c.in-Some.gate ∷ [] ≡ take 1 (drop at bytes)) c.self.view_is
    (c.in-Some.ensures.byte bytes (c.size.ensures.rests.reads ∙ told)) in
    (refl, closed c.args.self.now bytes c.in-Some.gate gate c.if-gate-ne-OPEN.true n s es r)

pub returns-then-size-self-2-clause-gives : goal.returns-then-size-self-2-clause-gives
returns-then-size-self-2-clause-gives g c =
    λ n s es bytes told r.
    let is_open : c.in-Some.gate ≡ 1 = c.if-gate-ne-OPEN.false in
    let gate =
    subst (λ b. b ∷ [] ≡ take 1 (drop c.self.inside.at bytes)) is_open
    (c.in-Some.ensures.byte bytes (c.size.ensures.rests.reads ∙ told)) in
    let count =
    c.in-Some-read_count.ensures.count bytes (c.read_byte.ensures.rests.reads
    ∙ c.size.ensures.rests.reads ∙ told) in
    let broken =
    cut_short c.self.inside.at bytes gate c.in-Some-read_count.count
    (omega (arith, c.from.type_inv, c.from.ensures)) count
    (omega (
      arith,
      c.if-size-self-2.true,
      c.in-Bytes.ensures.size bytes told,
      c.from.ensures,
      c.if-size-self-lt5.false,
    )) in
    (refl, c.self.view_is, subst (λ at. IsBroken (drop at bytes)) c.self.view_is broken)

pub returns-clause-gives : goal.returns-clause-gives
returns-clause-gives g c =
    λ n s es bytes told r.
    let is_open : c.in-Some.gate ≡ 1 = c.if-gate-ne-OPEN.false in
    let gate =
    subst (λ b. b ∷ [] ≡ take 1 (drop c.self.inside.at bytes)) is_open
    (c.in-Some.ensures.byte bytes (c.size.ensures.rests.reads ∙ told)) in
    let count =
    c.in-Some-read_count.ensures.count bytes (c.read_byte.ensures.rests.reads
    ∙ c.size.ensures.rests.reads ∙ told) in
    let long : length c.in-Some-read_whole.entry.items ≡ c.in-Some-read_count.count =
    c.in-Some-read_whole.ensures.length ∙ c.in-Ok.ensures.length in
    let entry =
    c.in-Some-read_whole.ensures.bytes bytes (c.read_count.ensures.rests.reads
    ∙ c.read_byte.ensures.rests.reads ∙ c.size.ensures.rests.reads ∙ told) in
    let here = subst (λ at. IsRead at bytes n s es) (sym c.self.view_is) r in
    let more =
    read_on c.self.inside.at bytes gate c.in-Some-read_count.count
    (omega (arith, c.from.type_inv, c.from.ensures)) count c.in-Some-read_whole.entry.items
    (entry ∙ ap (λ k. take k (drop (c.self.inside.at + 5) bytes)) c.in-Ok.ensures.length) long n s
    es here in (
      subst (λ k. IsRead (c.self.inside.at + (5 + k)) bytes n s (es
          ++ c.in-Some-read_whole.entry.items ∷ [])) (sym c.from-2.ensures) more,
      omega (arith, c.from-2.ensures, long, c.self.view_is),
    )

pub returns-clause-reads_on : goal.returns-clause-reads_on
returns-clause-reads_on g c =
    let rests =
    rests_joined
    (rests_joined (rests_joined c.size.ensures.rests c.read_byte.ensures.rests)
    c.read_count.ensures.rests) c.read_whole.ensures.rests in
    record {
      file = λ bytes told.
          let was = sym rests.reads ∙ told in
          let so = c.requires.file bytes was in
          record {
            generation = so.generation;
            snapshot = so.snapshot;
            entries =
                so.entries ++ c.in-Some-read_whole.entry.items ∷ [];
            read =
                (returns-clause-gives g c so.generation so.snapshot so.entries bytes was so.read).0;
          };
      durable = λ bytes told. only_still rests (c.requires.durable bytes (sym rests.reads ∙ told));
    }

pub returns-then-gate-ne-OPEN-clause-at_end : goal.returns-then-gate-ne-OPEN-clause-at_end
returns-then-gate-ne-OPEN-clause-at_end g c =
    ends_here g.D.Disk.reading g.D.Disk.images c.args.self.now c.args.disk.now c.read_byte.new.disk
    c.requires (search rules)
    (λ bytes told. sym c.size.ensures.rests.reads ∙ sym c.read_byte.ensures.rests.reads ∙ told)
    (λ file now. (c.size.ensures.rests.leaves file).0
    ((c.read_byte.ensures.rests.leaves file).0 now)) c.in-Some.gate c.if-gate-ne-OPEN.true
    (λ bytes was. subst (λ at. c.in-Some.gate ∷ [] ≡ take 1 (drop at bytes)) c.self.view_is
    (c.in-Some.ensures.byte bytes (c.size.ensures.rests.reads ∙ was)))

pub returns-then-size-self-clause-ended : goal.returns-then-size-self-clause-ended
returns-then-size-self-clause-ended g c = λ bytes told ends.
    not_past c.args.self.now bytes ends
    (omega (arith, c.if-size-self.true, c.in-Bytes.ensures.size bytes told, c.self.view_is))

pub returns-then-size-self-lt5-clause-ended : goal.returns-then-size-self-lt5-clause-ended
returns-then-size-self-lt5-clause-ended g c = λ bytes told ends.
    not_opened c.args.self.now bytes ends
    (subst (λ (p : ℕ × ℕ). p.0 ∷ []
    ≡ take 1 (drop p.1 bytes)) (λ i. (c.if-gate-ne-OPEN.false i, c.self.view_is i))
    (c.in-Some.ensures.byte bytes (c.size.ensures.rests.reads ∙ told)))

pub returns-then-size-self-2-clause-ended : goal.returns-then-size-self-2-clause-ended
returns-then-size-self-2-clause-ended g c = λ bytes told ends.
    not_opened c.args.self.now bytes ends
    (subst (λ (p : ℕ × ℕ). p.0 ∷ []
    ≡ take 1 (drop p.1 bytes)) (λ i. (c.if-gate-ne-OPEN.false i, c.self.view_is i))
    (c.in-Some.ensures.byte bytes (c.size.ensures.rests.reads ∙ told)))

pub returns-in_default-zeros-clause-ended : goal.returns-in_default-zeros-clause-ended
returns-in_default-zeros-clause-ended g c = λ bytes told ends.
    not_opened c.args.self.now bytes ends
    (subst (λ (p : ℕ × ℕ). p.0 ∷ []
    ≡ take 1 (drop p.1 bytes)) (λ i. (c.if-gate-ne-OPEN.false i, c.self.view_is i))
    (c.in-Some.ensures.byte bytes (c.size.ensures.rests.reads ∙ told)))

pub returns-clause-ended : goal.returns-clause-ended
returns-clause-ended g c = λ bytes told ends.
    not_opened c.args.self.now bytes ends
    (subst (λ (p : ℕ × ℕ). p.0 ∷ []
    ≡ take 1 (drop p.1 bytes)) (λ i. (c.if-gate-ne-OPEN.false i, c.self.view_is i))
    (c.in-Some.ensures.byte bytes (c.size.ensures.rests.reads ∙ told)))
