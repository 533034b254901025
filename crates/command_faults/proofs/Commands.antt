-- Where commands stop, however long their sets.
use Rattle.std.proofs.Common.{◌≡◌, ℕ, ◌≤◌, ◌<◌, ◌^◌, ◌⊎◌, inl, inr, Bool, true, false, List, [], ◌∷◌, ◌++◌, length, arith, ap, ◌∙◌, sym, refl, subst, eqb, cond, append_assoc, Some, None}
use Rattle.std.specs.Prelude.{⊤}
use Rattle.std.specs.List.{flat_map}
use Rattle.std.proofs.lemmas.Bool.{eqb-true}
use Rattle.octets.specs.Numbers.{two_octets, four_octets}
use Rattle.octet_reading.specs.Names.{name_at}
use Rattle.octet_reading.specs.Readers.{Reader, mapped, in_turn, in_turn_by, list_at, kinds, has_kind}
use Rattle.octet_reading.specs.Reading.{four_at}
use Rattle.octet_reading.specs.Rules.{IsReadAs, AreListable, list_octets}
use Rattle.octet_reading.proofs.Base.{octet_read, name_read}
use Rattle.octet_reading.proofs.OfKind.{LinesRead, kinds_read}
use Rattle.octet_reading.proofs.Optional.{meaning_read, numbered_is}
use Rattle.octet_reading.proofs.Rules.{alike}
use Rattle.set_fields.proofs.Fields.{fields_are_read}
use Rattle.set_reading.specs.Labels.{wire}
use Rattle.set_reading.specs.Names.{IsName}
use Rattle.set_reading.specs.Octets.{set_octets}
use Rattle.set_reading.specs.RecordSetRecord.{RecordSet}
use Rattle.set_reading.specs.Reading as sets
use Rattle.set_reading.proofs.Answering.{set_read}
use Rattle.set_fields.specs.RTypeRecord.TheVariants as rtype
use Rattle.set_fields.specs.RoutingRecord.TheVariants as routing
use Rattle.set_fields.specs.BodyRecord.TheVariants as body
use Rattle.check_model.specs.declared.checks.CheckCommand.{CheckCommand}
use Rattle.check_model.specs.declared.checks.CheckCommand.TheVariants as check_command
use Rattle.check_octets.specs.Octets as checks
use Rattle.check_reading.specs.Laws as check_laws
use Rattle.block_octets.specs.CidrCommandRecord.{CidrCommand}
use Rattle.block_octets.specs.CidrCommandRecord.TheVariants as cidr_command
use Rattle.block_octets.specs.Octets as collections
use Rattle.block_reading.specs.Laws as block_laws
use Rattle.command_octets.specs.ActionRecord.{Action}
use Rattle.command_octets.specs.ActionRecord.TheVariants as action
use Rattle.command_octets.specs.ChangeRecord.{Change}
use Rattle.command_octets.specs.declared.commands.Command.{Command}
use Rattle.command_octets.specs.declared.commands.Command.TheVariants as command
use Rattle.command_octets.specs.Octets.{action_number, change_octets, kind_of, field_octets, IsVersion}
use Rattle.command_codec.specs.Commands.{AreServers}
use Rattle.command_codec.specs.Reading.{is_version, version_at, servers_at, created, create_at, delete_at, actions, action_of, action_at, changed, batched, check_made_at, check_changed_at, check_deleted_at, collection_made_at, collection_changed_at, collection_deleted_at, collection_lines}
use Rattle.command_codec.proofs.Fields.{version_read}
use Rattle.fault_places.specs.Fields.{spelling}
use Rattle.fault_places.specs.Sets.{sized, open_ended, fields_of_set, IsInGrammar}
use Rattle.fault_places.proofs.Composed.{kinds_faults, LinesStop}
use Rattle.fault_places.proofs.Leaves.{one_meaning, tested_octet}
use Rattle.fault_places.proofs.Sets.{sets_are_fields}
use Rattle.fault_places.proofs.Steps.{Faults}
use Rattle.fault_places.proofs.Texts.{name_faults, root_is}
use Rattle.command_faults.specs.Commands.{fields_of, later_fields, octets_of_command, list_fields, name_fields, change_fields, HasGrammar, IsChangeInGrammar, IsCommandInGrammar}
use Rattle.command_faults.proofs.Blocks as blocks
use Rattle.command_faults.proofs.Checks as parts
use Rattle.command_faults.proofs.Checks.{number_part}
use Rattle.command_faults.proofs.Parts.{Part, one_part, in_turn_part, in_turn_by_part, seen_part, alike_part, list_part, so_many_part}
use Rattle.fault_places.proofs.Sets.{set_faults}

-- ---- sets

some_set : RecordSet
some_set = record {
  name = [];
  rtype = rtype.A;
  routing = routing.Simple;
  body = body.Alias [] false;
  check = None;
}

some_is : IsInGrammar some_set
unfolding some_set
some_is = record {
  is = record { name = root_is; routing = tt; body = root_is };
  routing = tt;
  body = tt;
  of_type = tt;
}

pub set_part : Part IsInGrammar set_octets fields_of_set sets.set_at
set_part = record {
  reads = alike (set_read fields_are_read)
      (λ set h. (
        record { is = h.is; routing = h.routing; body = h.body; of_type = h.of_type },
        refl,
      ))
      (λ set h. record { is = h.is; routing = h.routing; body = h.body; of_type = h.of_type });
  spells = λ set. sym (sets_are_fields set);
  told = set_faults;
  some = some_set;
  is_some = some_is;
}

-- ---- changes

found_action : (what : Action) → action_of (action_number what) ≡ Some what
found_action action.Create = refl
found_action action.Delete = refl
found_action action.Upsert = refl

action_below : (what : Action) → action_number what < 2 ^ 8
action_below action.Create = omega arith
action_below action.Delete = omega arith
action_below action.Upsert = omega arith

action_read : IsReadAs (λ what. ⊤) (λ what. action_number what ∷ []) action_at
unfolding action_at
action_read =
    alike (meaning_read action_number action_of octet_read found_action
    (numbered_is action_number actions))
    (λ what h. (tt, refl)) (λ what h. action_below what)

action_faults : Faults (λ what. ⊤) (λ what. sized (action_number what ∷ []) ∷ []) action_at
unfolding action_at
action_faults = one_meaning action_of action.Create action_number action_read

action_part : Part (λ what. ⊤) (λ what. action_number what ∷ [])
    (λ what. sized (action_number what ∷ []) ∷ []) action_at
action_part = one_part (λ what. sized (action_number what ∷ [])) (λ what. refl) action_read
    action_faults action.Create tt

-- what stands before the set of a change
pub head_part : Part (λ (p : Action × ℕ). ⊤ × ⊤)
    (λ p. action_number p.0 ∷ four_octets p.1)
    (λ p. sized (action_number p.0 ∷ []) ∷ sized (four_octets p.1) ∷ [])
    (in_turn action_at four_at)
head_part = in_turn_part action_part number_part

-- changes whose sets have as many octets as you like
abbrev pub any_change_at : Reader Change
any_change_at octets = mapped changed (in_turn (in_turn action_at four_at) sets.set_at) octets

pub change_part : Part IsChangeInGrammar change_octets change_fields any_change_at
change_part =
    seen_part changed (in_turn_part head_part set_part) (λ p h. (h.1, refl, refl))
    (λ change h. (((change.action, change.characters), change.set), ((tt, tt), h), refl))
    (λ change. (in_turn_part head_part set_part).spells
    ((change.action, change.characters), change.set))

-- ---- commands by their kinds

abbrev IsOfKind : (version kind : ℕ) → Command → Type 0
IsOfKind version kind what = HasGrammar version what × (kind_of what ≡ kind)

pub name_part : Part IsName wire name_fields name_at
name_part = one_part (λ name. open_ended (wire name)) (λ name. refl) name_read name_faults [] root_is

servers_part : Part AreServers (λ servers. flat_map wire servers)
    (λ servers. flat_map name_fields servers) servers_at
unfolding servers_at
servers_part = alike_part (so_many_part name_part 4)
    (λ servers h. record { four = h.1; names = h.0 }) (λ servers h. (h.names, h.four))
    (λ servers. refl) (λ servers. refl)

create_inner : Part (λ (p : List (List ℕ) × List (List (List ℕ))). IsName p.0 × AreServers p.1)
    (λ p. wire p.0 ++ flat_map wire p.1) (λ p. name_fields p.0 ++ flat_map name_fields p.1)
    (in_turn name_at servers_at)
create_inner = in_turn_part name_part servers_part

abbrev pub any_batch_at : Reader Command
any_batch_at octets = mapped batched (in_turn four_at (list_at any_change_at)) octets

batch_inner : Part (λ (p : ℕ × List Change). ⊤ × AreListable IsChangeInGrammar p.1)
    (λ p. four_octets p.0 ++ list_octets change_octets p.1)
    (λ p. sized (four_octets p.0) ∷ list_fields change_fields p.1)
    (in_turn four_at (list_at any_change_at))
batch_inner = in_turn_part number_part (list_part change_part)

pub spells : (version : ℕ) (what : Command)
    → spelling (later_fields version what) ≡ field_octets version what
spells version (command.CreateZone name servers) = create_inner.spells (name, servers)
spells version (command.DeleteZone zone) = number_part.spells zone
spells version (command.Change batch) =
    batch_inner.spells (batch.zone, batch.changes)
    ∙ sym (append_assoc (four_octets batch.zone) (two_octets (length batch.changes))
    (flat_map change_octets batch.changes))
spells version (command.Health what) = (parts.create_part version).spells what
spells version (command.Cidr what) = blocks.create_part.spells what

abbrev IsAmong : (from to : ℕ) → ℕ → Type 0
IsAmong from to kind = (from ≤ kind) × (kind ≤ to)

check_kind : (what : CheckCommand) → IsAmong 4 6 (checks.kind_of what)
check_kind (check_command.Create check) = (omega arith, omega arith)
check_kind (check_command.Update id inverted disabled threshold children) = (omega arith, omega arith)
check_kind (check_command.Delete id) = (omega arith, omega arith)

collection_kind : (what : CidrCommand) → IsAmong 7 9 (collections.kind_of what)
collection_kind (cidr_command.Create name) = (omega arith, omega arith)
collection_kind (cidr_command.Change id changes) = (omega arith, omega arith)
collection_kind (cidr_command.Delete id) = (omega arith, omega arith)

no_check : {X : Type 0} (what : CheckCommand) (kind : ℕ) → IsAmong 7 9 kind ⊎ IsAmong 1 3 kind
    → checks.kind_of what ≡ kind → X
no_check what kind (inl k) e = absurd (omega (arith, check_kind what, k, e))
no_check what kind (inr k) e = absurd (omega (arith, check_kind what, k, e))

no_collection : {X : Type 0} (what : CidrCommand) (kind : ℕ) → kind ≤ 6
    → collections.kind_of what ≡ kind → X
no_collection what kind k e = absurd (omega (arith, collection_kind what, k, e))

create_part : (version : ℕ)
    → Part (IsOfKind version 1) (field_octets version) (later_fields version) create_at
unfolding create_at
create_part version =
    seen_part created create_inner (λ p h. ((h, refl), refl, refl)) from (spells version)
  where
    from : (what : Command) → IsOfKind version 1 what
        → (p : List (List ℕ) × List (List (List ℕ))) × (IsName p.0 × AreServers p.1)
        × (created p ≡ what)
    from (command.CreateZone name servers) h = ((name, servers), h.0, refl)
    from (command.DeleteZone zone) h = absurd (grind (arith, h.1))
    from (command.Change batch) h = absurd (grind (arith, h.1))
    from (command.Health what) h = no_check what 1 (inr (omega arith, omega arith)) h.1
    from (command.Cidr what) h = no_collection what 1 (omega arith) h.1

delete_part : (version : ℕ)
    → Part (IsOfKind version 2) (field_octets version) (later_fields version) delete_at
unfolding delete_at
delete_part version =
    seen_part command.DeleteZone number_part (λ zone h. ((tt, refl), refl, refl)) from
    (spells version)
  where
    from : (what : Command) → IsOfKind version 2 what
        → (zone : ℕ) × ⊤ × (command.DeleteZone zone ≡ what)
    from (command.CreateZone name servers) h = absurd (grind (arith, h.1))
    from (command.DeleteZone zone) h = (zone, tt, refl)
    from (command.Change batch) h = absurd (grind (arith, h.1))
    from (command.Health what) h = no_check what 2 (inr (omega arith, omega arith)) h.1
    from (command.Cidr what) h = no_collection what 2 (omega arith) h.1

batch_part : (version : ℕ)
    → Part (IsOfKind version 3) (field_octets version) (later_fields version) any_batch_at
batch_part version =
    seen_part batched batch_inner
    (λ p h. (
      ((h.1.count, h.1.each), refl),
      sym (append_assoc (four_octets p.0) (two_octets (length p.1)) (flat_map change_octets p.1)),
      refl,
    )) from (spells version)
  where
    from : (what : Command) → IsOfKind version 3 what
        → (p : ℕ × List Change) × (⊤ × AreListable IsChangeInGrammar p.1) × (batched p ≡ what)
    from (command.CreateZone name servers) h = absurd (grind (arith, h.1))
    from (command.DeleteZone zone) h = absurd (grind (arith, h.1))
    from (command.Change batch) h =
        ((batch.zone, batch.changes), (tt, record { count = h.0.0; each = h.0.1 }), refl)
    from (command.Health what) h = no_check what 3 (inr (omega arith, omega arith)) h.1
    from (command.Cidr what) h = no_collection what 3 (omega arith) h.1

health_part : {read : Reader CheckCommand} (version kind : ℕ) → IsAmong 4 6 kind
    → Part (check_laws.IsOfKind version kind) (checks.field_octets version)
    (λ what. later_fields version (command.Health what)) read
    → Part (IsOfKind version kind) (field_octets version) (later_fields version)
    (mapped command.Health read)
health_part version kind k inside =
    seen_part command.Health inside (λ what h. (h, refl, refl)) from (spells version)
  where
    from : (what : Command) → IsOfKind version kind what
        → (inner : CheckCommand) × check_laws.IsOfKind version kind inner
        × (command.Health inner ≡ what)
    from (command.CreateZone name servers) h = absurd (omega (arith, k, h.1))
    from (command.DeleteZone zone) h = absurd (omega (arith, k, h.1))
    from (command.Change batch) h = absurd (omega (arith, k, h.1))
    from (command.Health what) h = (what, h, refl)
    from (command.Cidr what) h = no_collection what kind k.1 h.1

cidr_part : {read : Reader CidrCommand} (kind : ℕ) → IsAmong 7 9 kind
    → Part (block_laws.IsOfKind kind) collections.field_octets
    (λ what. later_fields 2 (command.Cidr what)) read
    → Part (IsOfKind 2 kind) (field_octets 2) (later_fields 2) (mapped command.Cidr read)
cidr_part kind k inside =
    seen_part command.Cidr inside (λ what h. (((refl, h.0), h.1), refl, refl)) from (spells 2)
  where
    from : (what : Command) → IsOfKind 2 kind what
        → (inner : CidrCommand) × block_laws.IsOfKind kind inner × (command.Cidr inner ≡ what)
    from (command.CreateZone name servers) h = absurd (omega (arith, k, h.1))
    from (command.DeleteZone zone) h = absurd (omega (arith, k, h.1))
    from (command.Change batch) h = absurd (omega (arith, k, h.1))
    from (command.Health what) h = no_check what kind (inl k) h.1
    from (command.Cidr what) h = (what, (h.0.1, h.1), refl)

check_made : (version : ℕ) → Part (IsOfKind version 4) (field_octets version)
    (later_fields version) (check_made_at version)
unfolding check_made_at
check_made version = health_part version 4 (omega arith, omega arith) (parts.create_part version)

check_changed : (version : ℕ) → Part (IsOfKind version 5) (field_octets version)
    (later_fields version) (check_changed_at version)
unfolding check_changed_at
check_changed version = health_part version 5 (omega arith, omega arith) (parts.update_part version)

check_deleted : (version : ℕ) → Part (IsOfKind version 6) (field_octets version)
    (later_fields version) check_deleted_at
unfolding check_deleted_at
check_deleted version = health_part version 6 (omega arith, omega arith) (parts.delete_part version)

collection_made : Part (IsOfKind 2 7) (field_octets 2) (later_fields 2) collection_made_at
unfolding collection_made_at
collection_made = cidr_part 7 (omega arith, omega arith) blocks.create_part

collection_changed : Part (IsOfKind 2 8) (field_octets 2) (later_fields 2) collection_changed_at
unfolding collection_changed_at
collection_changed = cidr_part 8 (omega arith, omega arith) blocks.change_collection_part

collection_deleted : Part (IsOfKind 2 9) (field_octets 2) (later_fields 2) collection_deleted_at
unfolding collection_deleted_at
collection_deleted = cidr_part 9 (omega arith, omega arith) blocks.delete_part

-- ---- tables of kinds

abbrev IsOf : (version : ℕ) → Command → Type 0
IsOf version what = HasGrammar version what

abbrev AreRead : (version : ℕ) → List (ℕ × Reader Command) → Type 0
AreRead version table = LinesRead kind_of (IsOf version) (field_octets version) table

abbrev AreStopped : (version : ℕ) → List (ℕ × Reader Command) → Type 0
AreStopped version table = LinesStop kind_of (IsOf version) (later_fields version) table

abbrev Both : (version : ℕ) → List (ℕ × Reader Command) → Type 0
Both version table = AreRead version table × AreStopped version table

three_both : Both 2 ((7, collection_made_at) ∷ (8, collection_changed_at)
    ∷ (9, collection_deleted_at) ∷ [])
three_both = (
  (collection_made.reads, (collection_changed.reads, (collection_deleted.reads, tt))),
  (
    (collection_made.told, (collection_made.some, collection_made.is_some)),
    (
      (collection_changed.told, (collection_changed.some, collection_changed.is_some)),
      ((collection_deleted.told, (collection_deleted.some, collection_deleted.is_some)), tt),
    ),
  ),
)

collections_both : (version : ℕ) (second : Bool) → eqb version 2 ≡ second
    → Both version (cond second
    ((7, collection_made_at) ∷ (8, collection_changed_at) ∷ (9, collection_deleted_at) ∷ []) [])
collections_both version false e = (tt, tt)
collections_both version true e =
    subst (λ v. Both v ((7, collection_made_at) ∷ (8, collection_changed_at)
    ∷ (9, collection_deleted_at) ∷ [])) (sym (eqb-true version 2 e)) three_both

abbrev pub any_lines : (version : ℕ) → List (ℕ × Reader Command)
any_lines version =
    (1, create_at) ∷ (2, delete_at) ∷ (3, any_batch_at) ∷ (4, check_made_at version)
    ∷ (5, check_changed_at version) ∷ (6, check_deleted_at) ∷ collection_lines version

has_line : (version : ℕ) (what : Command) → IsOf version what
    → has_kind (any_lines version) (kind_of what) ≡ true
has_line version (command.CreateZone name servers) h = refl
has_line version (command.DeleteZone zone) h = refl
has_line version (command.Change batch) h = refl
has_line version (command.Health (check_command.Create check)) h = refl
has_line version (command.Health (check_command.Update id inverted disabled threshold children)) h = refl
has_line version (command.Health (check_command.Delete id)) h = refl
has_line version (command.Cidr (cidr_command.Create name)) h =
    subst (λ v. has_kind (any_lines v) 7 ≡ true) (sym h.0) refl
has_line version (command.Cidr (cidr_command.Change id changes)) h =
    subst (λ v. has_kind (any_lines v) 8 ≡ true) (sym h.0) refl
has_line version (command.Cidr (cidr_command.Delete id)) h =
    subst (λ v. has_kind (any_lines v) 9 ≡ true) (sym h.0) refl

abbrev pub any_command_at : (version : ℕ) → Reader Command
any_command_at version octets = kinds (any_lines version) octets

lines_read : (version : ℕ) → AreRead version (any_lines version)
lines_read version = (
  (create_part version).reads,
  (
    (delete_part version).reads,
    (
      (batch_part version).reads,
      (
        (check_made version).reads,
        (
          (check_changed version).reads,
          (
            (check_deleted version).reads,
            (collections_both version (eqb version 2) refl).0,
          ),
        ),
      ),
    ),
  ),
)

lines_stop : (version : ℕ) → AreStopped version (any_lines version)
lines_stop version =
    let a = create_part version in
    let b = delete_part version in
    let c = batch_part version in
    let d = check_made version in
    let e = check_changed version in
    let f = check_deleted version in (
      (a.told, (a.some, a.is_some)),
      (
        (b.told, (b.some, b.is_some)),
        (
          (c.told, (c.some, c.is_some)),
          (
            (d.told, (d.some, d.is_some)),
            (
              (e.told, (e.some, e.is_some)),
              (
                (f.told, (f.some, f.is_some)),
                (collections_both version (eqb version 2) refl).1,
              ),
            ),
          ),
        ),
      ),
    )

command_read : (version : ℕ) → IsReadAs (IsOf version) (λ what. kind_of what ∷ field_octets version what)
    (any_command_at version)
command_read version =
    kinds_read kind_of (IsOf version) (field_octets version) (any_lines version)
    (lines_read version) (has_line version)

command_faults : (version : ℕ) → Faults (IsOf version)
    (λ what. sized (kind_of what ∷ []) ∷ later_fields version what) (any_command_at version)
command_faults version =
    kinds_faults kind_of (IsOf version) (later_fields version) (any_lines version)
    (lines_stop version) 1 refl (has_line version)

-- ---- versions

version_faults : Faults IsVersion (λ version. sized (version ∷ []) ∷ []) version_at
unfolding version_at
version_faults = tested_octet is_version 1 (inl refl) version_read

version_part : Part IsVersion (λ version. version ∷ []) (λ version. sized (version ∷ []) ∷ [])
    version_at
version_part = one_part (λ version. sized (version ∷ [])) (λ version. refl) version_read
    version_faults 1 (inl refl)

abbrev pub any_front_at : Reader (ℕ × Command)
any_front_at octets = in_turn_by version_at any_command_at octets

pub front_part : Part IsCommandInGrammar octets_of_command fields_of any_front_at
front_part = in_turn_by_part version_part command_read
    (λ version what. ap (λ t. kind_of what ∷ t) (spells version what))
    (λ version h. command_faults version) (λ version h. (command.DeleteZone 0, tt))
