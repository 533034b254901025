-- Replies that are the same whoever asks.
use Rattle.std.specs.Prelude.{◌≡◌, ◌≤◌, ◌++◌, ℕ, List, Bool, Some, drop, length, take}
use Rattle.cidr_blocks.specs.declared.places.Collection.{Collection}
use Rattle.geo_latency.specs.declared.tables.Tables.{Tables}
use Rattle.record_set.specs.declared.sets.SetKey.{SetKey}
use Rattle.dns_name.specs.Names.{AreOctets}
use Rattle.zone_model.specs.Hosted.{HostedZone}
use Rattle.query_engine.specs.Reply.{Answers, Asker}

-- These octets answer a packet by this test of healthy sets and these tables whoever asks: from whichever address it
-- comes, and whatever is drawn for it.
abbrev pub AnswersAll : List HostedZone → List (ℕ × Collection) → (healthy : (zone : ℕ) → SetKey → Bool) → Tables
    → (packet octets : List ℕ) → Type 0
AnswersAll zones collections healthy tables packet octets =
    (asker : Asker) → Answers (record {
      zones = zones;
      collections = collections;
      healthy = healthy;
      tables = tables;
    }) asker packet (Some octets)

-- So it is with each ID, which is the two octets in front (RFC 1035, 4.1.1): each packet behind whose ID these octets
-- stand is answered by its ID, with these octets behind it.
abbrev pub IsSettled : List HostedZone → List (ℕ × Collection) → (healthy : (zone : ℕ) → SetKey → Bool) → Tables
    → (packet reply : List ℕ) → Type 0
IsSettled zones collections healthy tables packet reply =
    (whole : List ℕ) → AreOctets whole → 2 ≤ length whole → drop 2 whole ≡ packet
    → AnswersAll zones collections healthy tables whole (take 2 whole ++ reply)
