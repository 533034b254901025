-- The additional records of a query, which stand behind its question (RFC 1035, 4.1.3).
use Rattle.std.specs.Prelude.{◌≡◌, ℕ, ◌+◌, ◌≤◌, List, [], ◌∷◌, ◌++◌, length, take, drop, ⊤}
use Rattle.octets.specs.Numbers.{number_at, long_at}
use Rattle.dns_name.specs.Labels.{frame, IsRawLabel}
use Rattle.dns_message.specs.Header.{arcount_of}
use Rattle.dns_message.specs.Question.{Asks}

-- A record of any type and class: the octets of its owner as they stand, TYPE, CLASS, TTL and RDATA.
pub record AnyRecord : Type 0 where
  pub owner : List ℕ
  pub rtype : ℕ
  pub class : ℕ
  pub ttl : ℕ
  pub rdata : List ℕ

-- The octets of an owner: labels up to the root's zero octet, or up to a pointer of two octets, which isn't followed (3.1 and
-- 4.1.4). Together they have no bound (own).
pub data IsOwner : List ℕ → Type 0 where
  ends : IsOwner (0 ∷ [])
  points : (high low : ℕ) → 192 ≤ high → IsOwner (high ∷ low ∷ [])
  goes_on : (label rest : List ℕ) → IsRawLabel label → IsOwner rest → IsOwner (frame label ++ rest)

-- the record whose owner has so many octets at the front
abbrev pub record_of : List ℕ → (owner_len : ℕ) → AnyRecord
record_of octets owner_len = record {
  owner = take owner_len octets;
  rtype = number_at octets owner_len;
  class = number_at octets (owner_len + 2);
  ttl = long_at octets (owner_len + 4);
  rdata = take (number_at octets (owner_len + 8)) (drop (owner_len + 10) octets);
}

-- The octets begin with a whole record of this size: its owner, TYPE, CLASS, TTL, RDLENGTH, and as many octets of RDATA as that
-- says.
pub record BeginsWithRecord (octets : List ℕ) (r : AnyRecord) (size : ℕ) : Type 0 where
  pub owner_len : ℕ
  pub owner : IsOwner (take owner_len octets)
  pub sized : size ≡ owner_len + 10 + number_at octets (owner_len + 8)
  pub whole : size ≤ length octets
  pub fields : r ≡ record_of octets owner_len

-- they begin with these records, one after another
abbrev pub BeginsWithRecords : List ℕ → List AnyRecord → Type 0
BeginsWithRecords octets [] = ⊤
BeginsWithRecords octets (r ∷ records) =
    (size : ℕ) × BeginsWithRecord octets r size × BeginsWithRecords (drop size octets) records

-- What a packet has behind its header: a question of so many octets for this name, and additional records. What stands behind
-- those is ignored (own).
pub record Split : Type 0 where
  pub name : List (List ℕ)
  pub question_len : ℕ
  pub records : List AnyRecord

-- The packet splits so, with as many additional records as ARCOUNT says.
pub record SplitsAs (packet : List ℕ) (split : Split) : Type 0 where
  pub question : Asks packet split.name split.question_len
  pub count : length split.records ≡ arcount_of packet
  pub records : BeginsWithRecords (drop (12 + split.question_len) packet) split.records
