-- What the loops over a source and a sink leave, where these tell their bytes.
use Rattle.std.specs.Prelude.{◌≡◌, ℕ, ◌^◌, ◌<◌, ◌≤◌, List, [], length, take, drop, Option, Some, ⊤}
use Rattle.r53_cli.specs.declared.intake.Intake.{Intake}
use Rattle.r53_cli.specs.declared.intake.Intake.TheVariants as intake
use Rattle.r53_cli.specs.declared.intake.Drained.{Drained}
use Rattle.r53_cli.specs.declared.intake.Drained.TheVariants as drained
use Rattle.r53_cli.specs.declared.intake.Incoming.{Incoming}
use Rattle.r53_cli.specs.declared.intake.Incoming.TheVariants as incoming

-- the first n bytes of the buffer are the first that the source had left, and the source has the others left
pub record Fills (left : List ℕ) (after : Option (List ℕ)) (n : ℕ) (buffer : List ℕ) : Type 0 where
  pub within : n ≤ length left
  pub bytes : take n buffer ≡ take n left
  pub rest : after ≡ Some (drop n left)

-- what filling a buffer leaves
abbrev pub IntakeOf : (left : List ℕ) (after : Option (List ℕ)) → Intake → (buffer : List ℕ) → Type 0
IntakeOf left after intake.Full buffer = Fills left after (length buffer) buffer
IntakeOf left after (intake.Ended n) buffer = Fills left after n buffer × (n ≡ length left)
IntakeOf left after intake.Failed buffer = ⊤

abbrev pub IntakeWithin : Intake → ℕ → Type 0
IntakeWithin (intake.Ended n) most = n ≤ most
IntakeWithin intake.Full most = ⊤
IntakeWithin intake.Failed most = ⊤

-- what reading the rest leaves: nothing, or what stands behind `most` bytes
abbrev pub DrainOf : (left : List ℕ) (after : Option (List ℕ)) → Drained → (most : ℕ) → Type 0
DrainOf left after drained.Ended most = (length left < most) × (after ≡ Some [])
DrainOf left after drained.TooLong most = (most ≤ length left) × (after ≡ Some (drop most left))
DrainOf left after drained.Failed most = ⊤

-- how many bytes are read at most
abbrev pub input_limit : ℕ
input_limit = 2 ^ 40

-- the most bytes of a packet
abbrev pub packet_limit : ℕ
packet_limit = 65535

-- The input was read to its end within the limit, and the first n bytes of the buffer are its packet.
pub record HoldsPacket (input : List ℕ) (after : Option (List ℕ)) (n : ℕ) (buffer : List ℕ) : Type 0 where
  pub limit : length input < input_limit
  pub read : after ≡ Some []
  pub bytes : take n buffer ≡ take packet_limit input

-- As many bytes as the limit were read, and no end.
pub record IsTooLong (input : List ℕ) (after : Option (List ℕ)) : Type 0 where
  pub limit : input_limit ≤ length input
  pub read : after ≡ Some (drop input_limit input)

-- what reading a packet leaves
abbrev pub PacketOf : (input : List ℕ) (after : Option (List ℕ)) → Incoming → (buffer : List ℕ) → Type 0
PacketOf input after (incoming.Packet n) buffer = HoldsPacket input after n buffer
PacketOf input after incoming.TooLong buffer = IsTooLong input after
PacketOf input after incoming.Failed buffer = ⊤

abbrev pub PacketWithin : Incoming → Type 0
PacketWithin (incoming.Packet n) = n ≤ packet_limit
PacketWithin incoming.TooLong = ⊤
PacketWithin incoming.Failed = ⊤
