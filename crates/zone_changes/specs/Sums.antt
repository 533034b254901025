-- What is counted of sets: their octets, the aliases among them, the NS sets, the labels of the names
-- of these, the sets that name a check, and those of which the name has the octet of `*`.
use Rattle.std.specs.Prelude.{ℕ, ◌<◌, ◌+◌, ◌%◌, ◌^◌, List, Bool, true, false, is_some, length}
use Rattle.std.specs.Option.{unwrap_or}
use Rattle.std.specs.List.{sum_by}
use Rattle.zone_order.specs.Octets.{set_octets}
use Rattle.zone_order.specs.Servers.{server_labels}
use Rattle.zone_order.specs.Stars.{is_starred}
use Rattle.zone_order.specs.Telling.{is_alias}
use Rattle.zone_changes.specs.declared.sums.Sums.{Sums}
use Rattle.zone_order.specs.Slotted.{Slotted}

abbrev pub octets_in : Slotted → ℕ
octets_in placed = length (set_octets placed.set)

abbrev pub one_of : Bool → ℕ
one_of false = 0
one_of true = 1

abbrev pub aliases_in : Slotted → ℕ
aliases_in placed = one_of (is_alias placed.set.body)

abbrev pub servers_in : Slotted → ℕ
servers_in placed = one_of (is_some (server_labels placed.set))

abbrev pub labels_in : Slotted → ℕ
labels_in placed = unwrap_or (server_labels placed.set) 0

abbrev pub checked_in : Slotted → ℕ
checked_in placed = one_of (is_some placed.set.check)

abbrev pub starred_in : Slotted → ℕ
starred_in placed = one_of (is_starred placed.set)

-- how many octets the sets have
abbrev pub octets_of : List Slotted → ℕ
octets_of placed = sum_by octets_in placed

-- how many of the sets are aliases
abbrev pub aliases_of : List Slotted → ℕ
aliases_of placed = sum_by aliases_in placed

-- how many of the sets are NS sets
abbrev pub servers_of : List Slotted → ℕ
servers_of placed = sum_by servers_in placed

-- how many labels the names of the NS sets have in all
abbrev pub labels_of : List Slotted → ℕ
labels_of placed = sum_by labels_in placed

-- how many of the sets name a check
abbrev pub checked_of : List Slotted → ℕ
checked_of placed = sum_by checked_in placed

-- of how many of the sets the name has the octet of `*`
abbrev pub starred_of : List Slotted → ℕ
starred_of placed = sum_by starred_in placed

-- all of them, as they are counted: modulo 2^64
abbrev pub sums_of : List Slotted → Sums
sums_of placed = record {
  octets = octets_of placed % 2 ^ 64;
  aliases = aliases_of placed % 2 ^ 64;
  servers = servers_of placed % 2 ^ 64;
  labels = labels_of placed % 2 ^ 64;
  checked = checked_of placed % 2 ^ 64;
  starred = starred_of placed % 2 ^ 64;
}

-- with one more set
abbrev pub plus : Sums → Slotted → Sums
plus sums placed = record {
  octets = (sums.octets + octets_in placed) % 2 ^ 64;
  aliases = (sums.aliases + aliases_in placed) % 2 ^ 64;
  servers = (sums.servers + servers_in placed) % 2 ^ 64;
  labels = (sums.labels + labels_in placed) % 2 ^ 64;
  checked = (sums.checked + checked_in placed) % 2 ^ 64;
  starred = (sums.starred + starred_in placed) % 2 ^ 64;
}

-- all are below 2^64
pub record AreSmall (sums : Sums) : Type 0 where
  pub octets : sums.octets < 2 ^ 64
  pub aliases : sums.aliases < 2 ^ 64
  pub servers : sums.servers < 2 ^ 64
  pub labels : sums.labels < 2 ^ 64
  pub checked : sums.checked < 2 ^ 64
  pub starred : sums.starred < 2 ^ 64
