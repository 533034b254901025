-- What is kept of packets and of their replies.
use Rattle.std.specs.Prelude.{◌≡◌, ◌⊎◌, ℕ, List, drop, Option, Some, slice_get}

-- What stands behind the ID of a packet, and behind that of the reply to it: the ID is two octets, with which both begin
-- (RFC 1035, 4.1.1).
pub record Kept : Type 0 where
  pub packet_rest : List ℕ
  pub reply_rest : List ℕ

abbrev pub kept_of : (packet reply : List ℕ) → Kept
kept_of packet reply = record { packet_rest = drop 2 packet; reply_rest = drop 2 reply }

-- This is kept at some place.
abbrev pub Keeps : List (Option Kept) → Kept → Type 0
Keeps places kept = (place : ℕ) × (slice_get places place ≡ Some (Some kept))

-- nothing is kept
abbrev pub KeepsNothing : List (Option Kept) → Type 0
KeepsNothing places = (kept : Kept) → Keeps places kept → ⊥

-- nothing is kept that wasn't, but for this
abbrev pub KeepsNoMoreBut : Kept → (old new : List (Option Kept)) → Type 0
KeepsNoMoreBut one old new = (kept : Kept) → Keeps new kept → Keeps old kept ⊎ (kept ≡ one)
