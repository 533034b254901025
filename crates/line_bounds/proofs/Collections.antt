-- A command on collections that a line gives is within its bounds, and its lists are short.
use Rattle.std.proofs.Common.{◌≡◌, ◌≤◌, List, [], ◌∷◌, length, Ok, arith, subst}
use Rattle.std.specs.List.{AllByRecursion}
use Rattle.cidr_blocks.specs.Idents.{IsCollectionName}
use Rattle.cidr_changes.specs.Laws.{HasName, HaveNames}
use Rattle.cidr_changes.specs.declared.changes.CidrChange.{CidrChange}
use Rattle.cidr_commands.specs.Commands.{HasNames}
use Rattle.cidr_commands.specs.declared.command.CidrCommand.{CidrCommand}
use Rattle.batch_json.specs.Collections.{block, blocks, change, change_collection, changes, collection_name, create_collection, delete_collection, is_put}
use Rattle.batch_json.specs.Collections.{location_name}
use Rattle.command_bounds.specs.Laws.{AreShortLists, IsShortChange}
use Rattle.ip_table.specs.Prefixes.{IsPrefix, Prefix}
use Rattle.prefix_text.specs.Prefixes.{prefix_of_text}
use Rattle.routing.specs.Texts.{IsLocationName, is_location_byte}
use Rattle.serde_json.specs.Data.{Data}
use Rattle.line_faults.specs.declared.fault.LineReason.TheVariants.{BadAddress}
use Rattle.line_faults.specs.declared.member.Member.{Member}
use Rattle.line_faults.specs.declared.member.Member.TheVariants as m
use Rattle.line_reading.specs.Kinds.{collection_id, list, text, one_of_texts}
use Rattle.line_reading.specs.Reading.{in_change, required}
use Rattle.line_bounds.proofs.Steps.{after_object, each_has, in_its_change, is_there, list_within, required_has, same_ok, steps, word_has}
use Rattle.line_bounds.proofs.Words.{plain_is}
use Rattle.line_bounds.specs.Laws.{TextsArePrefixes}

abbrev IsBlock : Prefix → Type 0
IsBlock block = IsPrefix block.address block.length

-- prefixes, at most 1,000
abbrev AreBlocks : List Prefix → Type 0
AreBlocks blocks = AllByRecursion IsBlock blocks × (length blocks ≤ 1000)

abbrev IsBoundedChange : CidrChange → Type 0
IsBoundedChange change = HasName change × IsShortChange change

abbrev pub IsBoundedCidr : CidrCommand → Type 0
IsBoundedCidr given = HasNames given × AreShortLists given

apart : (changes : List CidrChange) → AllByRecursion IsBoundedChange changes
    → HaveNames changes × AllByRecursion IsShortChange changes
apart [] are = (tt, tt)
apart (change ∷ changes) are =
    let rest = apart changes are.1 in ((are.0.0, rest.0), (are.0.1, rest.1))

module _ (law : TextsArePrefixes) where
  block_is : (h : Member) (d : Data) (prefix : Prefix) → block h d ≡ Ok prefix → IsBlock prefix
  unfolding block
  block_is h d prefix e =
      let s = steps (text h d) _ prefix e in
      law s.value prefix (is_there (prefix_of_text s.value) BadAddress h prefix s.gives)

  blocks_are : (h : Member) (d : Data) (prefixes : List Prefix) → blocks h d ≡ Ok prefixes
      → AreBlocks prefixes
  unfolding blocks
  blocks_are h d prefixes e =
      let s = steps (list 1 1000 h d) _ prefixes e in
      let all = each_has IsBlock (λ _. block h) (λ k d prefix r. block_is h d prefix r) 0 s.value
      prefixes s.gives in
      (all.0, omega (arith, all.1, list_within 1 1000 h d s.value s.is))

  change_is : (h : Member) (o : Data) (given : CidrChange) → change h o ≡ Ok given
      → IsBoundedChange given
  unfolding change
  change_is h o given e =
      let a = after_object _ _ _ _ _ given e in
      let b = steps (required m.Action (one_of_texts is_put) o) _ given a in
      let c = steps (required m.LocationName (one_of_texts location_name) o) _ given b.gives in
      let d = steps (required m.CidrList blocks o) _ given c.gives in
      let same = same_ok _ given d.gives in
      let name = required_has IsLocationName m.LocationName (one_of_texts location_name) o c.value
      (word_has IsLocationName location_name (plain_is is_location_byte 16) m.LocationName) c.is in
      let are = required_has AreBlocks m.CidrList blocks o d.value (blocks_are m.CidrList) d.is in
      subst IsBoundedChange same (record { name = name; prefixes = are.0 }, are.1)

  changes_are : (h : Member) (d : Data) (list_of : List CidrChange) → changes h d ≡ Ok list_of
      → AllByRecursion IsBoundedChange list_of × (length list_of ≤ 1000)
  unfolding changes
  changes_are h d list_of e =
      let s = steps (list 1 1000 h d) _ list_of e in
      let all = each_has IsBoundedChange (λ k o. in_change k (change h o))
      (λ k o given r. change_is h o given (in_its_change k (change h o) given r)) 0 s.value list_of
      s.gives in
      (all.0, omega (arith, all.1, list_within 1 1000 h d s.value s.is))

  pub creation_is : (o : Data) (given : CidrCommand) → create_collection o ≡ Ok given
      → IsBoundedCidr given
  unfolding create_collection
  creation_is o given e =
      let a = after_object _ _ _ _ _ given e in
      let b = steps (required m.Name (one_of_texts collection_name) o) _ given a in
      subst IsBoundedCidr (same_ok _ given b.gives) (
        required_has IsCollectionName m.Name (one_of_texts collection_name) o b.value
            (word_has IsCollectionName collection_name (plain_is is_location_byte 64) m.Name) b.is,
        tt,
      )

  pub edit_is : (o : Data) (given : CidrCommand) → change_collection o ≡ Ok given
      → IsBoundedCidr given
  unfolding change_collection
  edit_is o given e =
      let a = after_object _ _ _ _ _ given e in
      let b = steps (required m.Id collection_id o) _ given a in
      let c = steps (required m.Changes changes o) _ given b.gives in
      let are = required_has
      (λ (l : List CidrChange). AllByRecursion IsBoundedChange l × (length l ≤ 1000)) m.Changes
      changes o c.value (changes_are m.Changes) c.is in
      let each = apart c.value are.0 in
      subst IsBoundedCidr (same_ok _ given c.gives) (each.0, (are.1, each.1))

  pub end_is : (o : Data) (given : CidrCommand) → delete_collection o ≡ Ok given
      → IsBoundedCidr given
  unfolding delete_collection
  end_is o given e =
      let a = after_object _ _ _ _ _ given e in
      let b = steps (required m.Id collection_id o) _ given a in
      subst IsBoundedCidr (same_ok _ given b.gives) (tt, tt)
