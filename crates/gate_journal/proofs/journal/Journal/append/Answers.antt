use Rattle.std.proofs.Common.{◌+◌, ◌≡◌, ◌≤◌, sym, subst, length, arith, rules}
use Rattle.gate_journal.specs.Append.{StandsOn, IsBeforeOrAfter}
use Rattle.gate_journal.proofs.AppendLemmas.{reaches, reaches_after, fits_behind, fits_again, first_either, second, more, read_now, stands_again}
use Rattle.gate_journal.proofs.journal.Journal.append.Goals as goal

-- Each answer names the fact of `Append` that it is.
pub write_synced-requires : goal.write_synced-requires
write_synced-requires g c =
    let D = g.D.Disk in
    let stands =
    subst (λ n. StandsOn D.reading D.images n c.args.disk.now) (sym c.self.view_is) c.requires
    in
    reaches _ _
    (λ bytes told. fits_behind D.reading D.images D.moment D.images_since c.self.inside.at
    c.args.disk.now stands
    c.args.entry.now c.as_written.result.now c.as_written.ensures bytes told)

pub returns-in_default-clause-any_moment : goal.returns-in_default-clause-any_moment
returns-in_default-clause-any_moment g c = λ n s es bytes told o.
    let D = g.D.Disk in
    let stands =
    subst (λ n. StandsOn D.reading D.images n c.args.disk.now) (sym c.self.view_is) c.requires
    in
    first_either D.reading D.images D.moment D.images_since c.self.inside.at c.args.disk.now stands
    c.args.entry.now c.as_written.result.now c.as_written.ensures bytes told n s es o _
    (c.write_synced.ensures.any_moment bytes told)

pub returns-in_default-clause-leaves : goal.returns-in_default-clause-leaves
returns-in_default-clause-leaves g c = λ n s es bytes told o.
    let D = g.D.Disk in
    let stands =
    subst (λ n. StandsOn D.reading D.images n c.args.disk.now) (sym c.self.view_is) c.requires
    in
    let run =
    first_either D.reading D.images D.moment D.images_since c.self.inside.at c.args.disk.now
    stands
    c.args.entry.now c.as_written.result.now c.as_written.ensures bytes told n s es o _
    (c.write_synced.ensures.any_moment bytes told) in
    read_now D.reading D.images D.moment D.images_since g.met.D.Disk.is_image
    g.met.D.Disk.counts_now c.args.disk.now _
    (IsBeforeOrAfter n s es c.args.entry.now) run (c.in_default.ensures.kept bytes told)

pub write_synced-requires-2 : goal.write_synced-requires-2
write_synced-requires-2 g c =
    let D = g.D.Disk in
    let stands =
    subst (λ n. StandsOn D.reading D.images n c.args.disk.now) (sym c.self.view_is) c.requires
    in
    reaches_after (D.reading c.args.disk.now) _ _ c.write_synced.ensures.untold
    (λ bytes told. (
      _,
      (c.in-Whole.ensures.kept bytes told).0,
      fits_again D.reading D.images D.moment D.images_since
          c.self.inside.at c.args.disk.now stands c.args.entry.now c.as_written.result.now
          c.as_written.ensures bytes told,
    ))

pub returns-in_default-write_synced-clause-any_moment
    : goal.returns-in_default-write_synced-clause-any_moment
returns-in_default-write_synced-clause-any_moment g c = λ n s es bytes told o.
    let within : c.args.self.now + 1 + 5 + length c.args.entry.now ≤ 268435456 = search rules in
    let D = g.D.Disk in
    let stands =
    subst (λ n. StandsOn D.reading D.images n c.args.disk.now) (sym c.self.view_is) c.requires
    in
    let kept = c.in-Whole.ensures.kept bytes told in
    second D.reading D.images D.moment D.images_since c.self.inside.at c.args.disk.now stands
    c.args.entry.now c.as_written.result.now c.as_written.ensures bytes told n s es o
    (omega (arith, within)) c.write_synced.new.disk _
    (c.write_synced.ensures.any_moment bytes told) kept.1
    (c.write_synced-2.ensures.any_moment _ kept.0)

pub returns-in_default-write_synced-clause-leaves
    : goal.returns-in_default-write_synced-clause-leaves
returns-in_default-write_synced-clause-leaves g c = λ n s es bytes told o.
    let within : c.args.self.now + 1 + 5 + length c.args.entry.now ≤ 268435456 = search rules in
    let D = g.D.Disk in
    let stands =
    subst (λ n. StandsOn D.reading D.images n c.args.disk.now) (sym c.self.view_is) c.requires
    in
    let kept = c.in-Whole.ensures.kept bytes told in
    let run =
    second D.reading D.images D.moment D.images_since c.self.inside.at c.args.disk.now stands
    c.args.entry.now c.as_written.result.now c.as_written.ensures bytes told n s es o
    (omega (arith, within)) c.write_synced.new.disk _
    (c.write_synced.ensures.any_moment bytes told) kept.1
    (c.write_synced-2.ensures.any_moment _ kept.0) in
    read_now D.reading D.images D.moment D.images_since g.met.D.Disk.is_image
    g.met.D.Disk.counts_now c.args.disk.now _
    (IsBeforeOrAfter n s es c.args.entry.now) run (c.in_default-write_synced.ensures.kept _ kept.0)

pub returns-clause-any_moment : goal.returns-clause-any_moment
returns-clause-any_moment g c = λ n s es bytes told o.
    let within : c.args.self.now + 1 + 5 + length c.args.entry.now ≤ 268435456 = search rules in
    let D = g.D.Disk in
    let stands =
    subst (λ n. StandsOn D.reading D.images n c.args.disk.now) (sym c.self.view_is) c.requires
    in
    let kept = c.in-Whole.ensures.kept bytes told in
    second D.reading D.images D.moment D.images_since c.self.inside.at c.args.disk.now stands
    c.args.entry.now c.as_written.result.now c.as_written.ensures bytes told n s es o
    (omega (arith, within)) c.write_synced.new.disk _
    (c.write_synced.ensures.any_moment bytes told) kept.1
    (c.write_synced-2.ensures.any_moment _ kept.0)

pub returns-clause-leaves : goal.returns-clause-leaves
returns-clause-leaves g c = λ n s es bytes told o.
    let within : c.args.self.now + 1 + 5 + length c.args.entry.now ≤ 268435456 = search rules in
    let D = g.D.Disk in
    let stands =
    subst (λ n. StandsOn D.reading D.images n c.args.disk.now) (sym c.self.view_is) c.requires
    in
    let kept = c.in-Whole.ensures.kept bytes told in (
      _,
      (c.in-Whole-write_synced.ensures.kept _ kept.0).0,
      more D.reading D.images D.moment D.images_since c.self.inside.at
          c.args.disk.now stands c.args.entry.now c.as_written.result.now c.as_written.ensures bytes
          told n s es o (omega (arith, within)),
    )

pub returns-clause-stands : goal.returns-clause-stands
returns-clause-stands g c =
    let within : c.args.self.now + 1 + 5 + length c.args.entry.now ≤ 268435456 = search rules in
    let D = g.D.Disk in
    let stands =
    subst (λ n. StandsOn D.reading D.images n c.args.disk.now) (sym c.self.view_is) c.requires
    in
    let wanted : c.from.result ≡ length c.args.entry.now =
    omega (arith, c.from.ensures, c.length.ensures) in
    subst (λ n. StandsOn D.reading D.images (c.self.inside.at + (5 + n)) c.write_synced-2.new.disk)
    (sym wanted)
    (stands_again D.reading D.images D.moment D.images_since c.self.inside.at c.args.disk.now stands
    c.args.entry.now c.as_written.result.now c.as_written.ensures (omega (arith, within))
    (omega (arith, within, c.self.view_is))
    c.write_synced-2.new.disk
    (λ none. c.write_synced-2.ensures.untold (c.write_synced.ensures.untold none))
    (λ bytes told. c.in-Whole-write_synced.ensures.kept _ (c.in-Whole.ensures.kept bytes told).0))
