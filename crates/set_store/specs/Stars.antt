-- Names with the label `*` (RFC 4592, 2.1.1), as they are counted.
use Rattle.std.specs.Prelude.{ℕ, ◌==◌, Bool, List}
use Rattle.std.specs.List.{list_any}
use Rattle.set_search.specs.Labels.{wire}
use Rattle.set_search.specs.RecordSetRecord.{RecordSet}

-- Some octet is that of `*`.
abbrev pub has_star : List ℕ → Bool
has_star octets = list_any (λ b. b == 0x2A) octets

-- The octets of a set's name have that of `*`, as those of each name do that has the label `*`.
abbrev pub is_starred : RecordSet → Bool
is_starred set = has_star (wire set.name)
