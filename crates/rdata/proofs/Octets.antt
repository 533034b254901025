-- The bytes of a slice are octets.
use Rattle.std.proofs.Common.{ℕ, suc, ◌<◌, List, [], ◌∷◌, get_or}
use Rattle.field_text.specs.Names.{AreOctets}

pub are_octets : (octets : List ℕ) → ((i : ℕ) → get_or octets i 0 < 256) → AreOctets octets
are_octets [] small = tt
are_octets (b ∷ octets) small = (small 0, are_octets octets (λ i. small (suc i)))
