use Rattle.std.proofs.Common.{◌∙◌, ◌∷◌, ◌++◌, ℕ, List, [], ap, subst, sym}
use Rattle.std.specs.List.{AllByRecursion}
use Rattle.std.specs.Prelude.{nat_lt}
use Rattle.octets.specs.Numbers.{four_octets}
use Rattle.octet_reading.specs.Rules.{list_octets}
use Rattle.check_model.specs.declared.checks.Check.{Check}
use Rattle.check_octets.specs.Octets.{where_spelled}
use Rattle.cidr_blocks.specs.declared.places.Collection.{Collection}
use Rattle.cidr_commands.specs.Stored.{Stored}
use Rattle.config_zones.specs.Configured.{config_of}
use Rattle.snapshot_octets.specs.Octets.{IsHeldCollection, numbered_check_octets}
use Rattle.snapshot_octets.specs.Octets.{held_collection_octets}
use Rattle.snapshot_writing.proofs.Assembled.{assembled, collections_are, is_short}
use Rattle.snapshot_writing.proofs.writing.write_snapshot.Goals as goal

pub append_told_collections-requires-clause-spelled :
    goal.append_told_collections-requires-clause-spelled
append_told_collections-requires-clause-spelled c =
    let list = c.as_slice-2.ensures.collections
    ∙ ap (λ (s : Stored). s.list) c.collections-collections.ensures in
    subst (λ (l : List (ℕ × Collection)). AllByRecursion IsHeldCollection l) (sym list)
    (collections_are c.sound_have_snapshots.ensures
    (config_of c.args.zones.now c.args.checks.now.checks c.args.next) c.requires).1

pub returns : goal.returns
returns c =
    let config = config_of c.args.zones.now c.args.checks.now.checks c.args.next in
    let told = nat_lt 1 c.next_number-told.result in
    let same = c.collections-collections.ensures in
    let next = c.next_number-2.ensures.number ∙ ap (λ (s : Stored). s.next) same in
    let list = c.as_slice-2.ensures.collections ∙ ap (λ (s : Stored). s.list) same in
    let is = assembled config told
    (ap (nat_lt 1) (sym (c.next_number-told.ensures.number ∙ ap (λ (s : Stored). s.next) same)))
    c.new-octets.ensures.items
    (c.in_ok-append.ensures.ok
    ∙ ap (λ (v : ℕ). c.new-octets.result.items ++ v ∷ []) c.version_of.ensures)
    (c.in_ok-append-2.ensures.ok
    ∙ ap (λ (p : List ℕ). c.append.new.into.items ++ p) c.four_octets.ensures)
    (c.in_ok-append-3.ensures.ok
    ∙ ap (λ (p : List ℕ). c.append-2.new.into.items ++ p)
    (c.four_octets-2.ensures ∙ ap four_octets c.next_number.ensures.number))
    (c.in_ok-append_told_number.ensures
    ∙ ap (λ (n : ℕ). c.append-3.new.into.items ++ where_spelled told (four_octets n)) next)
    (c.in_ok-append_checks.ensures
    ∙ ap (λ (l : List (ℕ × Check)). c.append_told_number.new.into.items
    ++ list_octets (numbered_check_octets 2) l) c.as_slice.ensures.checks)
    (c.in_ok-append_told_collections.ensures
    ∙ ap (λ (l : List (ℕ × Collection)). c.append_checks.new.into.items
    ++ where_spelled told (list_octets held_collection_octets l)) list)
    c.in_ok-append_zones.ensures in
    record { spelled = is; short = is_short c.sound_are_short.ensures config c.requires is }
