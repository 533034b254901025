-- How many octets a command has that a sound configuration accepts.
use Rattle.std.proofs.Common.{ℕ, ◌+◌, ◌*◌, ◌<◌, ◌≤◌, ◌^◌, List, [], ◌∷◌, ◌++◌, length, arith, Option, None, Some}
use Rattle.std.specs.Prelude.{Ok}
use Rattle.std.specs.List.{AllByRecursion, flat_map}
use Rattle.std.proofs.Math.Nat.{suc-mul}
use Rattle.std.proofs.lemmas.List.{length-append}
use Rattle.address_text.specs.declared.address.IpAddress.{IpAddress}
use Rattle.address_text.specs.declared.address.IpAddress.TheVariants.{V4, V6}
use Rattle.config_model.specs.BatchRecord.{Batch}
use Rattle.config_model.specs.ChangeRecord.{Change}
use Rattle.config_model.specs.Octets as collections
use Rattle.check_model.specs.Checks.{IsBounded as IsBoundedCheck}
use Rattle.check_model.specs.declared.checks.Check.{Check}
use Rattle.check_model.specs.declared.checks.Check.TheVariants.{Calculated, Endpoint}
use Rattle.check_model.specs.declared.checks.CheckCommand.{CheckCommand}
use Rattle.check_model.specs.declared.checks.CheckCommand.TheVariants as check
use Rattle.config_model.specs.OctetsOfCheckOctets as checks
use Rattle.config_model.specs.Places.{octets_of}
use Rattle.config_model.specs.LawsOfCidrChanges.{HasName, HaveNames}
use Rattle.config_model.specs.CidrChangeRecord.{CidrChange}
use Rattle.config_model.specs.Collections.{HasNames}
use Rattle.config_model.specs.CidrCommandRecord.{CidrCommand}
use Rattle.config_model.specs.CidrCommandRecord.TheVariants as cidr
use Rattle.command_bounds.specs.Laws.{AcceptedAreShort, AreShortLists, HasShortLists}
use Rattle.command_bounds.specs.Laws.{IsShortChange}
use Rattle.command_bounds.proofs.Accepted.{IsShortBatch, accepted_have_spelling, batch_by}
use Rattle.command_codec.specs.Octets.{HasSpelledSet, batch_octets, change_octets, command_octets}
use Rattle.command_codec.specs.CommandRecord.{Command}
use Rattle.command_codec.specs.CommandRecord.TheVariants as command
use Rattle.config_model.specs.Applying.{Decides}
use Rattle.config_model.specs.Configs.{Config, zone_with}
use Rattle.config_model.specs.Laws.{IsBounded, KeepsSound}
use Rattle.config_model.specs.Sound.{Sound}
use Rattle.config_model.specs.declared.refusals.Made.{Made}
use Rattle.dns_name.specs.Labels.{wire}
use Rattle.dns_name.specs.Names.{IsName}
use Rattle.config_model.specs.Prefixes.{IsPrefix, Prefix}
use Rattle.octet_reading.specs.Rules.{list_octets, optional_octets, text_octets, WhereSome}
use Rattle.octets.specs.Numbers.{four_octets, two_octets}

-- ---- lists

-- where each element has so many octets at most
short_list : {A : Type 0} (octets_of : A → List ℕ) (most : ℕ) (xs : List A)
    → AllByRecursion (λ x. length (octets_of x) ≤ most) xs
    → length (flat_map octets_of xs) ≤ length xs * most
short_list octets_of most [] short = omega arith
short_list octets_of most (x ∷ xs) short =
    omega (
      arith,
      length-append (octets_of x) (flat_map octets_of xs),
      suc-mul (length xs) most,
      short.0,
      short_list octets_of most xs short.1,
    )

short_names : (names : List (List (List ℕ))) → AllByRecursion IsName names
    → AllByRecursion (λ name. length (wire name) ≤ 255) names
short_names [] are = tt
short_names (name ∷ names) are = (are.0.raw.fits, short_names names are.1)

short_numbers : (numbers : List ℕ) → AllByRecursion (λ n. length (four_octets n) ≤ 4) numbers
short_numbers [] = tt
short_numbers (n ∷ numbers) = (omega arith, short_numbers numbers)

numbers_are : (numbers : List ℕ) → length (flat_map four_octets numbers) ≤ length numbers * 4
numbers_are numbers = short_list four_octets 4 numbers (short_numbers numbers)

-- ---- batches

short_changes : (changes : List Change) → AllByRecursion HasSpelledSet changes
    → AllByRecursion (λ change. length (change_octets change) ≤ 65541) changes
short_changes [] spelled = tt
short_changes (change ∷ changes) spelled =
    let short = spelled.0.short in
    (omega (arith, short), short_changes changes spelled.1)

-- ---- commands on checks

optional_is : {A : Type 0} (octets_of : A → List ℕ) (most : ℕ) (given : Option A)
    → WhereSome (λ x. length (octets_of x) ≤ most) given
    → length (optional_octets octets_of given) ≤ 1 + most
optional_is octets_of most None short = omega arith
optional_is octets_of most (Some x) short = omega (arith, short)

always : {A : Type 0} (is : A → Type 0) (given : Option A) → ((x : A) → is x) → WhereSome is given
always is None all = tt
always is (Some x) all = all x

short_children : (children : Option (List ℕ)) → WhereSome checks.IsListable children
    → WhereSome (λ list. length (list_octets four_octets list) ≤ 262142) children
short_children None listable = tt
short_children (Some children) listable = omega (arith, listable, numbers_are children)

check_is : (new : Check) → IsBoundedCheck new → length (checks.check_octets 2 new) ≤ 1027
check_is (Endpoint threshold inverted disabled) bounded = omega arith
check_is (Calculated threshold inverted disabled children) bounded =
    omega (arith, bounded.1, numbers_are children)

health_is : (health : CheckCommand) → checks.HasSpelling 2 health
    → length (checks.field_octets 2 health) ≤ 262200
health_is (check.Create new) has =
    let is = check_is new has.bounded in
    omega (arith, is)
health_is (check.Update id inverted disabled threshold children) has =
    let number = four_octets id in
    let one = optional_octets checks.flag_octets inverted in
    let two = optional_octets checks.flag_octets disabled in
    let three = optional_octets two_octets threshold in
    let four = optional_octets (list_octets four_octets) children in
    omega (
      arith,
      length-append (((number ++ one) ++ two) ++ three) four,
      length-append ((number ++ one) ++ two) three,
      length-append (number ++ one) two,
      length-append number one,
      optional_is checks.flag_octets 1 inverted
          (always (λ flag. length (checks.flag_octets flag) ≤ 1) inverted (λ flag. omega arith)),
      optional_is checks.flag_octets 1 disabled
          (always (λ flag. length (checks.flag_octets flag) ≤ 1) disabled (λ flag. omega arith)),
      optional_is two_octets 2 threshold
          (always (λ n. length (two_octets n) ≤ 2) threshold (λ n. omega arith)),
      optional_is (list_octets four_octets) 262142 children (short_children children has.listable),
    )
health_is (check.Delete id) has = omega arith

-- ---- commands on collections

address_is : (address : IpAddress) (bits : ℕ) → IsPrefix address bits
    → length (collections.family_of address ∷ (octets_of address ++ bits ∷ [])) ≤ 18
address_is (V4 octets) bits is = omega (arith, length-append octets (bits ∷ []), is.octets.long)
address_is (V6 octets) bits is = omega (arith, length-append octets (bits ∷ []), is.octets.long)

short_blocks : (blocks : List Prefix)
    → AllByRecursion (λ (block : Prefix). IsPrefix block.address block.length) blocks
    → AllByRecursion (λ block. length (collections.block_octets block) ≤ 18) blocks
short_blocks [] are = tt
short_blocks (block ∷ blocks) are =
    (address_is block.address block.length are.0, short_blocks blocks are.1)

change_is : (change : CidrChange) → HasName change → IsShortChange change
    → length (collections.change_octets change) ≤ 18020
change_is change is few =
    let name = text_octets change.location in
    let blocks = list_octets collections.block_octets change.blocks in
    let short = short_list collections.block_octets 18 change.blocks
    (short_blocks change.blocks is.prefixes) in
    omega (arith, length-append name blocks, is.name.short, short, few)

short_each : (changes : List CidrChange) → HaveNames changes → AllByRecursion IsShortChange changes
    → AllByRecursion (λ change. length (collections.change_octets change) ≤ 18020) changes
short_each [] are few = tt
short_each (change ∷ changes) are few =
    (change_is change are.0 few.0, short_each changes are.1 few.1)

cidr_is : (given : CidrCommand) → HasNames given → AreShortLists given
    → length (collections.field_octets given) ≤ 18020006
cidr_is (cidr.Create name) named few = omega (arith, named.short)
cidr_is (cidr.Change id changes) named few =
    omega (
      arith,
      few.0,
      short_list collections.change_octets 18020 changes (short_each changes named few.1),
    )
cidr_is (cidr.Delete id) named few = omega arith

-- ---- all commands

batch_is : (batch : Batch) → IsShortBatch batch → length (batch_octets batch) ≤ 65541006
batch_is batch is =
    omega (
      arith,
      is.few,
      short_list change_octets 65541 batch.changes (short_changes batch.changes is.spelled.each),
    )

module _ (keeps : KeepsSound) (config after : Config) (what : Made) (sound : Sound config) where
  short_by : (given : Command) → IsBounded given → HasShortLists given
      → Decides config given (Ok (after, what)) → length (command_octets given) < 2 ^ 32
  short_by (command.CreateZone name servers) bounded short e =
      omega (
        arith,
        length-append (wire name) (flat_map wire servers),
        bounded.0.raw.fits,
        bounded.2,
        short_list wire 255 servers (short_names servers bounded.1),
      )
  short_by (command.DeleteZone id) bounded short e = omega arith
  short_by (command.Change batch) bounded short e =
      let is = batch_is batch
      (batch_by config after what batch bounded (zone_with config.zones batch.zone) e) in
      omega (arith, is)
  short_by (command.Health health) bounded short e =
      let is = health_is health
      (accepted_have_spelling keeps config after (command.Health health) what sound bounded tt e) in
      omega (arith, is)
  short_by (command.Cidr given) bounded short e =
      let is = cidr_is given bounded short in
      omega (arith, is)

pub accepted_are_short : KeepsSound → AcceptedAreShort
accepted_are_short keeps config after given what sound bounded short e =
    short_by keeps config after what sound given bounded short e
