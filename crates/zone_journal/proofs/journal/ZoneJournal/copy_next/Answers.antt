use Rattle.std.proofs.Common.{◌≡◌, ◌∙◌, ◌+◌, ◌-◌, ◌≤◌, ℕ, ◌++◌, Some, inl, refl, sym, ap, subst, length, take, drop, arith, rules, length-take-le}
use Rattle.file_building.specs.Layout.{inner}
use Rattle.file_building.proofs.Moments.{weaker}
use Rattle.file_building.proofs.AppendLemmas.{read_now, reaches}
use Rattle.zone_journal.specs.Standing.{State, StandsWith, left_of}
use Rattle.zone_journal.specs.Compacting.{with_plan, YieldsOrOpens}
use Rattle.file_building.proofs.Gates.{written_shut}
use Rattle.zone_journal.proofs.Pieces.{more_stands, shut_yields, at_within}
use Rattle.zone_journal.proofs.journal.ZoneJournal.copy_next.Goals as goal

pub copy-requires-clause-reaches : goal.copy-requires-clause-reaches
copy-requires-clause-reaches g c =
    reaches _ _
    (λ bytes told. omega (
      arith,
      at_within c.args.self.now.at bytes (c.requires.stands.journal.file bytes told),
      c.gate-at.ensures,
      ap (λ (v : State). v.at) c.self.view_is,
    ))

pub returns-in_default-clause-any_moment : goal.returns-in_default-clause-any_moment
returns-in_default-clause-any_moment g c = λ y told since.
    let v = c.args.self.now in
    weaker g.D.Disk.moment g.D.Disk.images_since _ _ _ (YieldsOrOpens v c.args.plan since)
    (c.copy.ensures.any_moment y told
    (c.requires.stands.underway c.args.plan refl c.requires.begun y told).all_shut)
    (λ f left. inl (shut_yields v.side v.generation f left))

pub returns-in_default-clause-left : goal.returns-in_default-clause-left
returns-in_default-clause-left g c = λ y told since.
    let D = g.D.Disk in
    let v = c.args.self.now in
    read_now D.reading D.images D.moment D.images_since g.met.D.Disk.is_image
    g.met.D.Disk.counts_now c.args.other.now _ (YieldsOrOpens v c.args.plan since)
    (weaker D.moment D.images_since _ _ _ (YieldsOrOpens v c.args.plan since)
    (c.copy.ensures.any_moment y told
    (c.requires.stands.underway c.args.plan refl c.requires.begun y told).all_shut)
    (λ f left. inl (shut_yields v.side v.generation f left)))
    (c.copy.ensures.told y told)

pub returns-clause-any_moment : goal.returns-clause-any_moment
returns-clause-any_moment g c = λ y told since.
    let v = c.args.self.now in
    weaker g.D.Disk.moment g.D.Disk.images_since _ _ _ (YieldsOrOpens v c.args.plan since)
    (c.copy.ensures.any_moment y told
    (c.requires.stands.underway c.args.plan refl c.requires.begun y told).all_shut)
    (λ f left. inl (shut_yields v.side v.generation f left))

pub returns-clause-left : goal.returns-clause-left
returns-clause-left g c = λ y told since. (
  _,
  c.in-Whole.ensures.copied refl y told,
  shut_yields c.args.self.now.side c.args.self.now.generation _
      (written_shut y c.args.plan.next _ c.requires.begun
      (c.requires.stands.underway c.args.plan refl c.requires.begun y told).shut),
)

pub returns-clause-stands : goal.returns-clause-stands
returns-clause-stands g c =
    let D = g.D.Disk in
    let v = c.args.self.now in
    let p = c.args.plan in
    let n = c.min-n.result in
    let piece = c.copy.new.piece in
    let new : State =
    record {
      side = c.self.inside.side;
      generation = c.self.inside.generation;
      at =
          c.self.inside.journal;
      plan = Some c.moved-plan.result;
    } in
    let moved : c.moved-plan.result ≡ record p { next = p.next + n } = search rules in
    let is : new ≡ with_plan v (record p { next = p.next + n }) =
    λ i. record (c.self.view_is i) { plan = Some (moved i) } in
    let gate_is : c.gate-at.result ≡ v.at = c.gate-at.ensures
    ∙ ap (λ (s : State). s.at) c.self.view_is in
    let left_is : c.left.result ≡ left_of v p = search rules in
    let room : n + 2 ≤ left_of v p = omega (arith, left_is, c.min-n.ensures, c.requires.more) in
    let short : length (take n c.as_mut_slice-buffer.result.now) ≡ n =
    length-take-le n c.as_mut_slice-buffer.result.now
    (omega (
      arith,
      c.min-n.ensures,
      c.self.invariant,
      ap length c.as_mut_slice-buffer.ensures.value,
    )) in
    let long : length piece ≡ n = c.copy.auto.piece ∙ short in
    subst (λ s. StandsWith D.reading D.images s c.copy.new.active c.copy.new.other) (sym is)
    (more_stands D.reading D.images D.moment D.images_since v p c.args.active.now c.copy.new.active
    c.args.other.now c.copy.new.other c.requires.stands n piece c.requires.begun room long
    c.copy.ensures.rests c.copy.ensures.untold
    (λ x told. subst (λ (q : ℕ × ℕ × ℕ). piece
    ≡ take q.2 (drop (p.next - 1) (inner (q.0 + 1) p.snapshot ++ drop p.from (take q.1 x))))
    (λ i. ((c.self.view_is i).generation, gate_is i, short i))
    (c.in-Whole.ensures.filled refl x told))
    (λ y told. c.in-Whole.ensures.copied refl y told)
    (λ y told f now.
    let run =
    c.copy.ensures.any_moment y told
    (c.requires.stands.underway p refl c.requires.begun y told).all_shut in
    run.each f
    (g.met.D.Disk.counts_now c.copy.new.other (D.moment c.args.other.now) f run.later now)))
