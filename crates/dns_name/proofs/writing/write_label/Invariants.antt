use Rattle.std.proofs.Common.{◌≡◌, ℕ, ◌+◌, ◌*◌, ◌≤◌, List, length, take}
use Rattle.std.specs.List.{flat_map}
use Rattle.dns_name.specs.Buffer.{written}
use Rattle.dns_name.specs.Written.{text_of_octet}
use Rattle.dns_name.proofs.writing.write_label.Given as goal

-- The octets that are passed stand at the place.
pub record IsWritten (buffer into label : List ℕ) (at end passed : ℕ) : Type 0 where
  pub behind : end ≡ at + length (flat_map text_of_octet (take passed label))
  pub so_far : into ≡ written buffer at (flat_map text_of_octet (take passed label))
  pub within : end ≤ at + 4 * passed

abbrev pub invariant-loop-b : goal.invariant-loop-b
invariant-loop-b l = IsWritten l.fn.into l.into l.label l.at l.end l.b-index
