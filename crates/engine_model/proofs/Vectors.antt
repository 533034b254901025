-- A compaction of a store that has nothing, piece by piece, with a command between two pieces.
use Rattle.std.proofs.Common.{◌≡◌, None, refl}
use Rattle.config_model.specs.Configs.{empty}
use Rattle.engine_model.specs.Compacting.{compacted, told_of}
use Rattle.engine_model.specs.Engine.{Journal, grown}
use Rattle.engine_model.specs.declared.answers.Compacted.TheVariants.{Done, Left}
use Rattle.zone_journal.specs.declared.answers.Side.TheVariants.{A, B}

-- the store as it is made: generation 1, 34 octets
abbrev made : Journal
made = record { side = A; generation = 1; length = 34; plan = None }

-- after one piece, which writes nothing of the 34 octets
abbrev closed : Journal
closed = compacted empty 1 made made.plan

pub first : told_of closed closed.plan ≡ Left 34
first = refl

-- after a command of 6 octets, with its gate and its length 11, and a piece more
abbrev copied : Journal
copied = compacted empty 1 (grown 6 closed) (grown 6 closed).plan

pub second : told_of copied copied.plan ≡ Left 2
second = refl

-- and the last
abbrev done : Journal
done = compacted empty 1 copied copied.plan

pub third : told_of done done.plan ≡ Done 2
third = refl

pub in_all : done ≡ record { side = B; generation = 2; length = 45; plan = None }
in_all = refl
