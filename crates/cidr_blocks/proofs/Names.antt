-- The location that a record set names is a name here: 16 bytes are no more than 64.
use Rattle.std.proofs.Common.{inl, inr, arith}
use Rattle.cidr_blocks.specs.Laws.{LocationsAreNames}

pub named : LocationsAreNames
named text (inl name) =
    let short = name.short in
    inl (record { filled = name.filled; short = omega (arith, short); plain = name.plain })
named text (inr is_star) = inr is_star
