use Rattle.std.proofs.Common.{◌≡◌, ℕ, ◌+◌, ◌-◌, ◌≤◌, length, take, drop}
use Rattle.dns_message.specs.Records.{IsOwner}
use Rattle.dns_message.proofs.owner.owner_len.Given as goal

abbrev pub invariant-loop-at : goal.invariant-loop-at
invariant-loop-at l = record {
  within : l.at ≤ length l.octets;
  joins : (n : ℕ) → IsOwner (take n (drop l.at l.octets)) → IsOwner (take (l.at + n) l.octets);
  only : (n : ℕ) → IsOwner (take n l.octets) → (m : ℕ) × (n ≡ l.at + m) × IsOwner (take m (drop l.at l.octets));
}

abbrev pub decreases-loop-at : goal.decreases-loop-at
decreases-loop-at l = length l.octets - l.at
