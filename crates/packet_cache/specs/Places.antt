-- The places of a cache.
use Rattle.std.specs.Prelude.{ℕ, ◌≡◌, ◌≤◌, ◌==◌, List, take, drop, map, replicate, slice_get, Option, None, Some, if◌then◌else◌}
use Rattle.packet_cache.specs.Kept.{Kept}
use Rattle.packet_cache.specs.declared.places.Place.{Place}
use Rattle.packet_cache.specs.declared.places.TheConstants.{ROOM}

-- a place that nothing took
abbrev pub free : Place
free = record { generation = 0; packet_len = 0; reply_len = 0; octets = replicate ROOM 0 }

-- what stands in a place: the octets of the packet, and behind them those of the reply
abbrev pub told : Place → Kept
told place = record {
  packet_rest = take place.packet_len place.octets;
  reply_rest = take place.reply_len (drop place.packet_len place.octets);
}

-- Of an older generation nothing is kept.
abbrev pub kept_in : (generation : ℕ) → Place → Option Kept
kept_in generation place = if place.generation == generation then Some (told place) else None

abbrev pub kept_at : (generation : ℕ) → List Place → List (Option Kept)
kept_at generation places = map (kept_in generation) places

-- no place is of a later generation
abbrev pub AreOfThePast : (generation : ℕ) → List Place → Type 0
AreOfThePast generation places =
    (i : ℕ) (place : Place) → slice_get places i ≡ Some place → place.generation ≤ generation
