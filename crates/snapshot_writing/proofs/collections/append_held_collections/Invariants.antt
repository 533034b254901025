use Rattle.std.proofs.Common.{◌≡◌, ◌++◌, take, drop}
use Rattle.std.specs.List.{AllByRecursion, flat_map}
use Rattle.snapshot_octets.specs.Octets.{IsHeldCollection, held_collection_octets}
use Rattle.snapshot_writing.proofs.collections.append_held_collections.Given as goal

abbrev pub invariant-loop-held : goal.invariant-loop-held
invariant-loop-held l =
    (l.into.items
    ≡ l.fn.into.items ++ flat_map held_collection_octets (take l.held-index l.collections))
    × AllByRecursion IsHeldCollection (drop l.held-index l.collections)
