-- What the definitions come to.
use Rattle.std.specs.Prelude.{◌≡◌, ◌≢◌, ◌≤◌, ◌+◌, ◌⊎◌, ℕ, List, [], Option, None, Some, length}
use Rattle.std.specs.Bool.{Decides}
use Rattle.address_text.specs.declared.address.IpAddress.{IpAddress}
use Rattle.cidr_blocks.specs.declared.places.Collection.{Collection}
use Rattle.choice_model.specs.Stored.{AreRowsIn, LocatesIn}
use Rattle.dns_wire.specs.Judge.{Judges}
use Rattle.dns_wire.specs.QueryReadRecord.TheVariants as read
use Rattle.dns_name.specs.Suffix.{EndsWith}
use Rattle.cidr_blocks.specs.Location.{Locates}
use Rattle.cidr_blocks.specs.Prefixes.{Prefix}
use Rattle.cidr_blocks.specs.Rows.{AreRows}
use Rattle.zone_model.specs.Types.{number_of}
use Rattle.zone_model.specs.RTypeRecord.{RType}
use Rattle.zone_model.specs.RTypeRecord.TheVariants.{Ns}
use Rattle.zone_model.specs.RecordSetRecord.{RecordSet}
use Rattle.zone_model.specs.Existing.{Exists, IsAncestor, IsClosest}
use Rattle.zone_model.specs.Zones.{IsAmong, group}
use Rattle.answer_model.specs.Clients.{blocks_scope, location_in}
use Rattle.answer_model.specs.Descent.{Choices, Means, descend}
use Rattle.answer_model.specs.Location.{scope_in, told_in}
use Rattle.answer_model.specs.Names.{closest, exists, is_at_or_below, is_below}
use Rattle.answer_model.specs.Reply.{Answers, Asker, Served}
use Rattle.answer_model.specs.Sections.{Lookup, asked_group, cut_above, sections}
use Rattle.zone_model.specs.Hosted.{HostedZone}
use Rattle.answer_model.specs.Zones.{zone_for}

-- A name is at or below another one where its last labels are those of the other, and below it
-- where it isn't that one too.
pub record NamesBelow : Type 0 where
  pub at_or_below : (name other : List (List ℕ))
      → Decides (is_at_or_below name other) (EndsWith name other)
  pub below : (name other : List (List ℕ)) → Decides (is_below name other) (IsAncestor name other)

-- A name exists where a set has it, or a name below it.
abbrev pub NamesExist : Type 0
NamesExist = (sets : List RecordSet) (name : List (List ℕ))
    → Decides (exists sets name) (Exists sets name)

-- The closest encloser of a name, where an ancestor of it exists.
abbrev pub EnclosersAreClosest : Type 0
EnclosersAreClosest = (sets : List RecordSet) (name ancestor : List (List ℕ))
    → IsAncestor name ancestor → Exists sets ancestor → IsClosest sets name (closest sets name)

-- Of the zones that hold a name it is the one of the longest name.
pub record IsZoneFor (zones : List HostedZone) (name : List (List ℕ)) (zone : HostedZone) : Type 0 where
  pub there : IsAmong zones zone
  pub above : EndsWith name zone.apex
  pub longest : (other : HostedZone) → IsAmong zones other → EndsWith name other.apex
      → length other.apex ≤ length zone.apex

-- it, or that no zone holds the name
abbrev pub ZoneOrNone : List HostedZone → (name : List (List ℕ)) → Option HostedZone → Type 0
ZoneOrNone zones name (Some zone) = IsZoneFor zones name zone
ZoneOrNone zones name None = (zone : HostedZone) → IsAmong zones zone → EndsWith name zone.apex → ⊥

abbrev pub ZonesAreLongest : Type 0
ZonesAreLongest = (zones : List HostedZone) (name : List (List ℕ))
    → ZoneOrNone zones name (zone_for zones name)

-- An NS set above or at a name, below the apex.
pub record IsCutAbove (zone : HostedZone) (name : List (List ℕ)) (cut : RecordSet) : Type 0 where
  pub there : IsAmong zone.sets cut
  pub servers : cut.rtype ≡ Ns
  pub above : EndsWith name cut.name
  pub below_apex : IsAncestor cut.name zone.apex

-- It is the one nearest the apex; or there is none.
abbrev pub CutOrNone : HostedZone → (name : List (List ℕ)) → Option RecordSet → Type 0
CutOrNone zone name None = (other : RecordSet) → IsCutAbove zone name other → ⊥
CutOrNone zone name (Some cut) = IsCutAbove zone name cut
    × ((other : RecordSet) → IsCutAbove zone name other → length cut.name ≤ length other.name)

abbrev pub CutsAreNearest : Type 0
CutsAreNearest = (zone : HostedZone) (name : List (List ℕ)) → CutOrNone zone name (cut_above zone name)

-- The sets of QTYPE are the group of that type, and none where no type has the number.
pub record AskedGroups : Type 0 where
  pub known : (sets : List RecordSet) (name : List (List ℕ)) (rtype : RType)
      → asked_group sets name (number_of rtype) ≡ group sets name rtype
  pub unknown : (sets : List RecordSet) (name : List (List ℕ)) (qtype : ℕ)
      → ((rtype : RType) → number_of rtype ≢ qtype) → asked_group sets name qtype ≡ []

-- The location of an address is what the longest row tells, with that scope.
abbrev pub LocatesAsTold : Type 0 → Type 0
LocatesAsTold V = (rows : List (Prefix × V)) (address : IpAddress)
    → AreRows rows → Locates rows address (told_in rows address) (scope_in rows address)

-- A table tells that of an address, and nothing else.
abbrev pub ToldOnce : Type 0 → Type 0
ToldOnce V =
    (rows : List (Prefix × V)) (address : IpAddress) (value : Option V) (scope : ℕ)
    → AreRows rows → Locates rows address value scope
    → (value ≡ told_in rows address) × (scope ≡ scope_in rows address)

-- So does a collection, which is there or not.
abbrev pub ToldOnceIn : Type 0
ToldOnceIn =
    (found : Option Collection) (address : IpAddress) (name : Option (List ℕ)) (scope : ℕ)
    → AreRowsIn found → LocatesIn found address name scope
    → (name ≡ location_in found address) × (scope ≡ blocks_scope found address)

-- From a group to the sets that answer there are at most 17 choices.
abbrev pub FewChoices : Type 0
FewChoices = (by : Means) (zone group_sets : List RecordSet) (choices : Choices)
    → (descend by zone group_sets choices).choices.count ≤ choices.count + 17

-- RCODE is 0 or NXDOMAIN (3): an answer from a zone never fails.
abbrev pub RcodesOfSections : Type 0
RcodesOfSections = (lookup : Lookup) (name : List (List ℕ))
    → ((sections lookup name).rcode ≡ 0) ⊎ ((sections lookup name).rcode ≡ 3)

-- A packet has one reply, given what is served, who asks, and the words.
abbrev pub OneReply : Type 0
OneReply = (served : Served) (asker : Asker) (packet : List ℕ) (answer other : Option (List ℕ))
    → Answers served asker packet answer → Answers served asker packet other → answer ≡ other

-- There is none exactly where the packet isn't heard.
pub record NoReply : Type 0 where
  pub silent : (served : Served) (asker : Asker) (packet : List ℕ)
      → Answers served asker packet None → Judges packet read.Silent
  pub unheard : (served : Served) (asker : Asker) (packet : List ℕ)
      → Judges packet read.Silent → Answers served asker packet None
