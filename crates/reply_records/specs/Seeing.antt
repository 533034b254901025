-- Values that are kept, of those that were seen.
use Rattle.std.specs.Prelude.{◌≡◌, ◌≤◌, ℕ, List, ◌++◌, true, drop, length, replicate, take}
use Rattle.zone_model.specs.Zones.{IsAmong}
use Rattle.reply_records.specs.declared.seen.Seen.{Seen}
use Rattle.reply_records.specs.declared.seen.Short.{Short}

-- the octets of a short value, zeros up to 19, and how many the octets are
abbrev pub short_of : (rdata : List ℕ) → Short
short_of rdata = record {
  octets = rdata ++ drop (length rdata) (replicate 19 0);
  len = length rdata;
}

-- Those kept are short ones of these data, and where it is so said all of them.
pub record Sees (rdatas : List (List ℕ)) (values : List Short) (seen : Seen) : Type 0 where
  pub only : (short : Short) → IsAmong (take seen.count values) short
      → (rdata : List ℕ) × IsAmong rdatas rdata × (length rdata ≤ 19) × (short ≡ short_of rdata)
  pub whole : seen.is_whole ≡ true → (rdata : List ℕ) → IsAmong rdatas rdata
      → length rdata ≤ 19 → IsAmong (take seen.count values) (short_of rdata)
