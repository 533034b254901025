use Rattle.std.proofs.Common.{◌≡◌, ℕ, ◌-◌, ◌*◌, ◌≤◌, List, ◌++◌, length, drop}
use Rattle.std.specs.List.{flat_map}
use Rattle.dns_name.specs.Buffer.{written}
use Rattle.dns_name.specs.Stored.{labels_of}
use Rattle.dns_name.specs.Whole.{IsWire}
use Rattle.dns_name.specs.Written.{text_of_label}
use Rattle.dns_name.proofs.writing.write_labels.Given as goal

-- The labels that are passed stand at the front, and the rest is a name.
pub record IsWritten (buffer into octets : List ℕ) (at end : ℕ) : Type 0 where
  pub rest : IsWire (drop at octets)
  pub done : List ℕ
  pub whole : flat_map text_of_label (labels_of octets) ≡ done
      ++ flat_map text_of_label (labels_of (drop at octets))
  pub behind : end ≡ length done
  pub so_far : into ≡ written buffer 0 done
  pub within : end ≤ 4 * at

abbrev pub invariant-loop-at : goal.invariant-loop-at
invariant-loop-at l = IsWritten l.fn.into l.into l.octets l.at l.end

abbrev pub decreases-loop-at : goal.decreases-loop-at
decreases-loop-at l = length l.octets - l.at
