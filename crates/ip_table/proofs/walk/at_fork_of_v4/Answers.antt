use Rattle.std.proofs.Common.{◌≡◌, ◌-◌, ◌/◌, ◌%◌, ◌^◌, ap, ◌∙◌, arith}
use Rattle.ip_table.specs.Bits.{width_of, number_of}
use Rattle.ip_table.proofs.FirstBits.{bit_of_half}
use Rattle.ip_table.proofs.Walks.{narrow}
use Rattle.ip_table.proofs.walk.at_fork_of_v4.Goals as goal

pub visit-requires-clause-on : goal.visit-requires-clause-on
visit-requires-clause-on c =
    let low =
    (narrow c.args.prefixes.now c.args.forks.now (width_of c.args.address) c.requires.prefixes
    c.requires.tree c.args.at c.requires.at c.requires.family).1 in
    let turn : c.args.place % 64 ≡ 63 - (255 - c.args.place) =
    omega (arith, low, c.requires.place) in
    c.has_bit_at-on.ensures ∙ ap (λ h. h / 2 ^ (c.args.place % 64) % 2) c.requires.half
    ∙ ap (λ k. number_of c.args.address / 2 ^ 64 / 2 ^ k % 2) turn
    ∙ bit_of_half c.args.address (255 - c.args.place) (omega (arith, low, c.requires.place))

pub visit-requires-clause-depth : goal.visit-requires-clause-depth
visit-requires-clause-depth c =
    let low =
    (narrow c.args.prefixes.now c.args.forks.now (width_of c.args.address) c.requires.prefixes
    c.requires.tree c.args.at c.requires.at c.requires.family).1 in
    omega (arith, low, c.requires.place)

pub visit-requires-clause-place : goal.visit-requires-clause-place
visit-requires-clause-place c =
    let low =
    (narrow c.args.prefixes.now c.args.forks.now (width_of c.args.address) c.requires.prefixes
    c.requires.tree c.args.at c.requires.at c.requires.family).1 in
    omega (arith, low, c.requires.place)
