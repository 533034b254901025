use Rattle.std.proofs.Common.{length, ap, ◌∙◌, arith, List}
use Rattle.octet_region.specs.declared.cells.Cell.{Cell}
use Rattle.octet_region.specs.Cells.{cells_for, next_at, number_as, begin_as}
use Rattle.octet_region.specs.Shape.{octets_of}
use Rattle.octet_region.proofs.Sound.{put_inside, free_there, put_fresh, put_last_there, put_sound, put_here, put_there}
use Rattle.octet_region.proofs.Written.{length_written}
use Rattle.octet_region.proofs.chains.put_along.Goals as goal

pub write_along-last-requires : goal.write_along-last-requires
write_along-last-requires c =
    put_inside c.args.cells.now c.args.free c.args.spare c.args.octets.now c.requires.sound c.requires.enough

pub next_at-next-requires : goal.next_at-next-requires
next_at-next-requires c =
    let w = c.write_along-last in
    let there =
    put_last_there c.args.cells.now c.args.free c.args.spare c.args.octets.now c.requires.sound c.requires.enough
    w.result.0 w.result.1 w.ensures.last w.ensures.count in
    omega (
      arith,
      there,
      ap length w.ensures.cells,
      length_written c.args.cells.now (cells_for (length c.args.octets.now)) c.args.free c.args.octets.now,
    )

pub number_as-requires-clause-within : goal.number_as-requires-clause-within
number_as-requires-clause-within c =
    let w = c.write_along-last in
    let there =
    put_last_there c.args.cells.now c.args.free c.args.spare c.args.octets.now c.requires.sound c.requires.enough
    w.result.0 w.result.1 w.ensures.last w.ensures.count in
    omega (
      arith,
      there,
      ap length w.ensures.cells,
      length_written c.args.cells.now (cells_for (length c.args.octets.now)) c.args.free c.args.octets.now,
    )

pub returns-clause-sound : goal.returns-clause-sound
returns-clause-sound c =
    let w = c.write_along-last in
    let e = c.begin_as.ensures ∙ ap (λ (x : List Cell). begin_as x c.args.free 1)
    (c.number_as.ensures ∙ ap (λ (x : List Cell). number_as x w.result.0 w.result.1) w.ensures.cells) in
    rw e
    (put_sound c.args.cells.now c.args.free c.args.spare c.args.octets.now c.requires.sound
    c.requires.enough w.result.0 w.result.1 w.ensures.last w.ensures.count c.next_at-next.result
    (c.next_at-next.ensures.next ∙ ap (λ (x : List Cell). next_at x w.result.0) w.ensures.cells)
    c.next_at-next.ensures.fits)

pub returns-clause-fresh : goal.returns-clause-fresh
returns-clause-fresh c =
    put_fresh c.args.cells.now c.args.free c.args.spare c.args.octets.now c.requires.sound c.requires.enough

pub returns-clause-put : goal.returns-clause-put
returns-clause-put c =
    let w = c.write_along-last in
    let e = c.begin_as.ensures ∙ ap (λ (x : List Cell). begin_as x c.args.free 1)
    (c.number_as.ensures ∙ ap (λ (x : List Cell). number_as x w.result.0 w.result.1) w.ensures.cells) in
    ap (λ (x : List Cell). octets_of x c.args.free) e
    ∙ put_here c.args.cells.now c.args.free c.args.spare c.args.octets.now c.requires.sound c.requires.enough
    w.result.0 w.result.1 w.ensures.last w.ensures.count

pub returns-clause-others : goal.returns-clause-others
returns-clause-others c = λ q ne.
    let w = c.write_along-last in
    let e = c.begin_as.ensures ∙ ap (λ (x : List Cell). begin_as x c.args.free 1)
    (c.number_as.ensures ∙ ap (λ (x : List Cell). number_as x w.result.0 w.result.1) w.ensures.cells) in
    ap (λ (x : List Cell). octets_of x q) e
    ∙ put_there c.args.cells.now c.args.free c.args.spare c.args.octets.now c.requires.sound
    c.requires.enough w.result.0 w.result.1 w.ensures.last w.ensures.count q ne

pub returns-clause-below : goal.returns-clause-below
returns-clause-below c =
    free_there c.args.cells.now c.args.free c.args.spare c.args.octets.now c.requires.sound c.requires.enough
