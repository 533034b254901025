-- The readers of a command's fields, each by the rules for readers that are built from readers.
use Rattle.std.proofs.Common.{◌≡◌, ℕ, ◌-◌, ◌<◌, ◌^◌, ◌≤◌, ◌⊎◌, inl, inr, Bool, true, false, List, [], ◌∷◌, ◌++◌, length, drop, arith, ap, ◌∙◌, sym, refl, subst, eqb, cond, append_assoc, Some, Result, Ok, Err}
use Rattle.std.proofs.lemmas.Bool.{eqb-true}
use Rattle.std.specs.Prelude.{⊤}
use Rattle.std.specs.List.{AllByRecursion, flat_map}
use Rattle.std.proofs.lemmas.List.{length-drop}
use Rattle.std.proofs.Math.Seq.{drop-append_seam}
use Rattle.octets.specs.Numbers.{two_octets, four_octets}
use Rattle.set_reading.specs.Labels.{wire}
use Rattle.set_reading.specs.Names.{IsName}
use Rattle.set_reading.specs.ReadingOfOctetReading.{four_at}
use Rattle.set_reading.specs.Readers.{mapped, has_kind}
use Rattle.set_reading.specs.Rules.{IsReadAs, AreListable, list_octets}
use Rattle.set_reading.proofs.Base.{read_as, octet_read, name_read}
use Rattle.set_reading.proofs.Digits.{ok_is, four_is, four_again}
use Rattle.set_reading.proofs.Rules.{err_is, alike, seen_read}
use Rattle.set_reading.proofs.Composed.{in_turn_read, in_turn_by_read, so_many_read, tested_read}
use Rattle.set_reading.proofs.Optional.{list_read, meaning_read, numbered_is}
use Rattle.set_reading.proofs.OfKind.{LinesRead, kinds_read}
use Rattle.set_reading.proofs.Within.{four_within}
use Rattle.command_octets.specs.ActionRecord.{Action}
use Rattle.command_octets.specs.ActionRecord.TheVariants as action
use Rattle.command_octets.specs.ChangeRecord.{Change}
use Rattle.set_reading.specs.RecordSetRecord.{RecordSet}
use Rattle.set_reading.specs.Octets.{set_octets}
use Rattle.set_reading.specs.Octets as set_spelling
use Rattle.set_reading.specs.Sets.{IsSet}
use Rattle.set_reading.specs.Reading as sets
use Rattle.set_reading.specs.Laws as set_laws
use Rattle.check_model.specs.declared.checks.CheckCommand.{CheckCommand}
use Rattle.check_reading.specs.Octets as checks
use Rattle.check_reading.specs.Laws as check_laws
use Rattle.command_octets.specs.CidrCommandRecord.{CidrCommand}
use Rattle.block_reading.specs.Octets as collections
use Rattle.block_reading.specs.Laws as block_laws
use Rattle.check_model.specs.declared.checks.CheckCommand.TheVariants as check_command
use Rattle.command_octets.specs.CidrCommandRecord.TheVariants as cidr_command
use Rattle.command_octets.specs.declared.commands.Command.{Command}
use Rattle.command_octets.specs.declared.commands.Command.TheVariants as command
use Rattle.command_octets.specs.Octets.{action_number, change_octets, kind_of, field_octets, spelling, IsVersion, HasSpelledSet, HasSpelling}
use Rattle.command_codec.specs.Commands.{HasSet, AreServers, IsCommand}
use Rattle.command_codec.specs.Reading.{is_version, version_at, servers_at, created, create_at, delete_at, actions, action_of, action_at, behind_set, set_at, changed, change_at, batched, batch_at}
use Rattle.command_codec.specs.Reading.{check_made_at, check_changed_at, check_deleted_at}
use Rattle.command_codec.specs.Reading.{collection_made_at, collection_changed_at}
use Rattle.command_codec.specs.Reading.{collection_deleted_at, kind_table, command_at}
use Rattle.command_codec.specs.Reading.{versioned_at}

-- ---- versions

abbrev IsOfVersion : ℕ → Type 0
IsOfVersion version = (version < 2 ^ 8) × (is_version version ≡ true)

version_of : (version : ℕ) → is_version version ≡ true → IsVersion version
version_of version h = by (eqb version 1) (eqb version 2) refl refl h
  where
    by : (b c : Bool) → eqb version 1 ≡ b → eqb version 2 ≡ c → is_version version ≡ true
        → IsVersion version
    by true c e f h = inl (grind (arith, e))
    by false true e f h = inr (grind (arith, f))
    by false false e f h = absurd (grind (arith, e, f, h))

version_to : (version : ℕ) → IsVersion version → IsOfVersion version
version_to version (inl e) = subst IsOfVersion (sym e) (omega arith, refl)
version_to version (inr e) = subst IsOfVersion (sym e) (omega arith, refl)

pub version_read : IsReadAs IsVersion (λ version. version ∷ []) version_at
unfolding version_at
version_read =
    alike (tested_read is_version octet_read) (λ version h. (version_of version h.1, refl))
    version_to

-- ---- kinds

-- the kinds of commands on checks and on collections
abbrev IsAmong : (from to : ℕ) → ℕ → Type 0
IsAmong from to kind = (from ≤ kind) × (kind ≤ to)

check_kind : (what : CheckCommand) → IsAmong 4 6 (checks.kind_of what)
check_kind (check_command.Create check) = (omega arith, omega arith)
check_kind (check_command.Update id inverted disabled threshold children) = (omega arith, omega arith)
check_kind (check_command.Delete id) = (omega arith, omega arith)

collection_kind : (what : CidrCommand) → IsAmong 7 9 (collections.kind_of what)
collection_kind (cidr_command.Create name) = (omega arith, omega arith)
collection_kind (cidr_command.Change id changes) = (omega arith, omega arith)
collection_kind (cidr_command.Delete id) = (omega arith, omega arith)

no_check : {X : Type 0} (what : CheckCommand) (kind : ℕ) → IsAmong 7 9 kind ⊎ IsAmong 1 3 kind
    → checks.kind_of what ≡ kind → X
no_check what kind (inl k) e = absurd (omega (arith, check_kind what, k, e))
no_check what kind (inr k) e = absurd (omega (arith, check_kind what, k, e))

no_collection : {X : Type 0} (what : CidrCommand) (kind : ℕ) → kind ≤ 6
    → collections.kind_of what ≡ kind → X
no_collection what kind k e = absurd (omega (arith, collection_kind what, k, e))

-- ---- zones

-- a number of four octets, of whatever size
four_read : IsReadAs (λ n. ⊤) four_octets four_at
four_read =
    read_as (λ n rest is. four_again n rest) (λ octets x bytes e. (four_is octets x bytes e, tt))
    four_within

servers_read : IsReadAs AreServers (λ servers. flat_map wire servers) servers_at
unfolding servers_at
servers_read =
    alike (so_many_read name_read 4) (λ servers h. (record { four = h.1; names = h.0 }, refl))
    (λ servers h. (h.names, h.four))

-- the fields of a kind are those of a command of that kind
abbrev pub IsOfKind : (version kind : ℕ) → Command → Type 0
IsOfKind version kind what = (IsCommand what × HasSpelling version what) × (kind_of what ≡ kind)

create_read : (version : ℕ) → IsReadAs (IsOfKind version 1) (field_octets version) create_at
unfolding create_at
create_read version =
    seen_read created (in_turn_read name_read servers_read)
    (λ p h. ((((h.0, h.1), tt), refl), refl)) from
  where
    from : (what : Command) → IsOfKind version 1 what
        → (p : List (List ℕ) × List (List (List ℕ))) × (IsName p.0 × AreServers p.1)
        × (created p ≡ what)
    from (command.CreateZone name servers) h = ((name, servers), h.0.0, refl)
    from (command.DeleteZone zone) h = absurd (grind (arith, h.1))
    from (command.Change batch) h = absurd (grind (arith, h.1))
    from (command.Health what) h = no_check what 1 (inr (omega arith, omega arith)) h.1
    from (command.Cidr what) h = no_collection what 1 (omega arith) h.1

delete_read : (version : ℕ) → IsReadAs (IsOfKind version 2) (field_octets version) delete_at
unfolding delete_at
delete_read version =
    seen_read command.DeleteZone four_read (λ zone h. (((tt, tt), refl), refl)) from
  where
    from : (what : Command) → IsOfKind version 2 what
        → (zone : ℕ) × ⊤ × (command.DeleteZone zone ≡ what)
    from (command.CreateZone name servers) h = absurd (grind (arith, h.1))
    from (command.DeleteZone zone) h = (zone, tt, refl)
    from (command.Change batch) h = absurd (grind (arith, h.1))
    from (command.Health what) h = no_check what 2 (inr (omega arith, omega arith)) h.1
    from (command.Cidr what) h = no_collection what 2 (omega arith) h.1

-- a command in a version
abbrev pub IsIn : ℕ × Command → Type 0
IsIn p = IsVersion p.0 × (IsCommand p.1 × HasSpelling p.0 p.1)

abbrev pub octets_in : ℕ × Command → List ℕ
octets_in p = spelling p.0 p.1

-- ---- sets

abbrev pub IsSpelledSet : RecordSet → Type 0
IsSpelledSet set = IsSet set × set_spelling.HasSpelling set

module _ (written : set_laws.WrittenReadsBack) (told : set_laws.SetsAreTold) where
  set_stands : (octets : List ℕ) (read : Result (RecordSet × ℕ) ℕ) (set : RecordSet) (rest : List ℕ)
      → set_laws.TellsSet octets read
      → behind_set octets read ≡ Ok (set, rest) → (octets ≡ set_octets set ++ rest)
      × IsSpelledSet set
  set_stands octets (Ok x) set rest b e =
      let behind : drop x.1 octets ≡ b.rest =
      ap (λ n. drop n octets) b.size ∙ ap (drop (length (set_octets x.0))) b.spelled
      ∙ drop-append_seam (set_octets x.0) b.rest in
      let same = ok_is (x.0, drop x.1 octets) (set, rest) e in
      subst (λ (p : RecordSet × List ℕ). (octets ≡ set_octets p.0 ++ p.1) × IsSpelledSet p.0) same
      (b.spelled ∙ ap (λ t. set_octets x.0 ++ t) (sym behind), (b.is, b.has_spelling))
  set_stands octets (Err place) set rest b e = absurd cc

  set_left : (octets : List ℕ) (read : Result (RecordSet × ℕ) ℕ) (set : RecordSet) (rest : List ℕ)
      → behind_set octets read ≡ Ok (set, rest) → length rest ≤ length octets
  set_left octets (Ok x) set rest e =
      let same : drop x.1 octets ≡ rest =
      ap (λ (p : RecordSet × List ℕ). p.1) (ok_is (x.0, drop x.1 octets) (set, rest) e) in
      let fewer = length-drop x.1 octets in
      omega (arith, ap length same, fewer)
  set_left octets (Err place) set rest e = absurd cc

  set_fault : (octets : List ℕ) (read : Result (RecordSet × ℕ) ℕ) (left : ℕ)
      → behind_set octets read ≡ Err left → left ≤ length octets
  set_fault octets (Ok x) left e = absurd (let k : Ok (x.0, drop x.1 octets) ≡ Err left = e in cc)
  set_fault octets (Err place) left e =
      omega (arith, err_is {A = RecordSet × List ℕ} (length octets - place) left e)

  pub set_read : IsReadAs IsSpelledSet set_octets set_at
  unfolding set_at
  set_read = record {
    again = λ set rest h.
        ap (behind_set (set_octets set ++ rest)) (written set rest h.0 h.1)
        ∙ ap (λ t. Ok (set, t)) (drop-append_seam (set_octets set) rest);
    stands = λ octets set rest are e. set_stands octets (sets.read octets) set rest
        (told octets are) e;
    left = λ octets set rest e. set_left octets (sets.read octets) set rest e;
    fault = λ octets left e. set_fault octets (sets.read octets) left e;
  }

  -- ---- changes

  abbrev IsSpelledChange : Change → Type 0
  IsSpelledChange change = HasSet change × HasSpelledSet change

  found_action : (what : Action) → action_of (action_number what) ≡ Some what
  found_action action.Create = refl
  found_action action.Delete = refl
  found_action action.Upsert = refl

  action_below : (what : Action) → action_number what < 2 ^ 8
  action_below action.Create = omega arith
  action_below action.Delete = omega arith
  action_below action.Upsert = omega arith

  action_read : IsReadAs (λ what. ⊤) (λ what. action_number what ∷ []) action_at
  unfolding action_at
  action_read =
      alike (meaning_read action_number action_of octet_read found_action
      (numbered_is action_number actions))
      (λ what h. (tt, refl)) (λ what h. action_below what)

  change_read : IsReadAs IsSpelledChange change_octets change_at
  unfolding change_at
  change_read =
      seen_read changed (in_turn_read (in_turn_read action_read four_read) set_read)
      (λ p h. (h.1, refl)) from
    where
      from : (change : Change) → IsSpelledChange change
          → (p : (Action × ℕ) × RecordSet) × ((⊤ × ⊤) × IsSpelledSet p.1) × (changed p ≡ change)
      from change h = (((change.action, change.characters), change.set), ((tt, tt), h), refl)

  -- the changes of a batch, one by one
  both : (changes : List Change) → AllByRecursion HasSet changes
      → AllByRecursion HasSpelledSet changes → AllByRecursion IsSpelledChange changes
  both [] are spelled = tt
  both (change ∷ changes) are spelled = ((are.0, spelled.0), both changes are.1 spelled.1)

  apart : (changes : List Change) → AllByRecursion IsSpelledChange changes
      → AllByRecursion HasSet changes × AllByRecursion HasSpelledSet changes
  apart [] each = (tt, tt)
  apart (change ∷ changes) each = let rest = apart changes each.1 in
      ((each.0.0, rest.0), (each.0.1, rest.1))

  batch_read : (version : ℕ) → IsReadAs (IsOfKind version 3) (field_octets version) batch_at
  unfolding batch_at
  batch_read version = seen_read batched (in_turn_read four_read (list_read change_read)) into from
    where
      into : (p : ℕ × List Change) → ⊤ × AreListable IsSpelledChange p.1
          → IsOfKind version 3 (batched p)
          × (four_octets p.0 ++ list_octets change_octets p.1 ≡ field_octets version (batched p))
      into p h =
          let split = apart p.1 h.1.each in (
            ((split.0, record { count = h.1.count; each = split.1 }), refl),
            sym (append_assoc (four_octets p.0) (two_octets (length p.1))
                (flat_map change_octets p.1)),
          )

      from : (what : Command) → IsOfKind version 3 what
          → (p : ℕ × List Change) × (⊤ × AreListable IsSpelledChange p.1) × (batched p ≡ what)
      from (command.CreateZone name servers) h = absurd (grind (arith, h.1))
      from (command.DeleteZone zone) h = absurd (grind (arith, h.1))
      from (command.Change batch) h = (
        (batch.zone, batch.changes),
        (tt, record { count = h.0.1.count; each = both batch.changes h.0.0 h.0.1.each }),
        refl,
      )
      from (command.Health what) h = no_check what 3 (inr (omega arith, omega arith)) h.1
      from (command.Cidr what) h = no_collection what 3 (omega arith) h.1

  -- ---- commands

  module _ (check_commands : check_laws.CheckCommandsAreRead)
      (cidr_commands : block_laws.CidrCommandsAreRead) where
    health_read : {read : List ℕ → Result (CheckCommand × List ℕ) ℕ} (version kind : ℕ)
        → IsAmong 4 6 kind
        → IsReadAs (check_laws.IsOfKind version kind) (checks.field_octets version) read
        → IsReadAs (IsOfKind version kind) (field_octets version) (mapped command.Health read)
    health_read version kind k inside =
        seen_read command.Health inside (λ what h. (((tt, h.0), h.1), refl)) from
      where
        from : (what : Command) → IsOfKind version kind what
            → (inner : CheckCommand) × check_laws.IsOfKind version kind inner
            × (command.Health inner ≡ what)
        from (command.CreateZone name servers) h = absurd (omega (arith, k, h.1))
        from (command.DeleteZone zone) h = absurd (omega (arith, k, h.1))
        from (command.Change batch) h = absurd (omega (arith, k, h.1))
        from (command.Health what) h = (what, (h.0.1, h.1), refl)
        from (command.Cidr what) h = no_collection what kind k.1 h.1

    cidr_read : {read : List ℕ → Result (CidrCommand × List ℕ) ℕ} (kind : ℕ)
        → IsAmong 7 9 kind → IsReadAs (block_laws.IsOfKind kind) collections.field_octets read
        → IsReadAs (IsOfKind 2 kind) (field_octets 2) (mapped command.Cidr read)
    cidr_read kind k inside =
        seen_read command.Cidr inside (λ what h. (((tt, (refl, h.0)), h.1), refl)) from
      where
        from : (what : Command) → IsOfKind 2 kind what
            → (inner : CidrCommand) × block_laws.IsOfKind kind inner
            × (command.Cidr inner ≡ what)
        from (command.CreateZone name servers) h = absurd (omega (arith, k, h.1))
        from (command.DeleteZone zone) h = absurd (omega (arith, k, h.1))
        from (command.Change batch) h = absurd (omega (arith, k, h.1))
        from (command.Health what) h = no_check what kind (inl k) h.1
        from (command.Cidr what) h = (what, (h.0.1.1, h.1), refl)

    check_made_read : (version : ℕ)
        → IsReadAs (IsOfKind version 4) (field_octets version) (check_made_at version)
    unfolding check_made_at
    check_made_read version =
        health_read version 4 (omega arith, omega arith) (check_commands.created version)

    check_changed_read : (version : ℕ)
        → IsReadAs (IsOfKind version 5) (field_octets version) (check_changed_at version)
    unfolding check_changed_at
    check_changed_read version =
        health_read version 5 (omega arith, omega arith) (check_commands.updated version)

    check_deleted_read : (version : ℕ)
        → IsReadAs (IsOfKind version 6) (field_octets version) check_deleted_at
    unfolding check_deleted_at
    check_deleted_read version =
        health_read version 6 (omega arith, omega arith) (check_commands.deleted version)

    collection_made_read : IsReadAs (IsOfKind 2 7) (field_octets 2) collection_made_at
    unfolding collection_made_at
    collection_made_read = cidr_read 7 (omega arith, omega arith) cidr_commands.created

    collection_changed_read : IsReadAs (IsOfKind 2 8) (field_octets 2) collection_changed_at
    unfolding collection_changed_at
    collection_changed_read = cidr_read 8 (omega arith, omega arith) cidr_commands.changed

    collection_deleted_read : IsReadAs (IsOfKind 2 9) (field_octets 2) collection_deleted_at
    unfolding collection_deleted_at
    collection_deleted_read = cidr_read 9 (omega arith, omega arith) cidr_commands.deleted

    -- what is asked of a command in a version
    abbrev IsSpelled : (version : ℕ) → Command → Type 0
    IsSpelled version what = IsCommand what × HasSpelling version what

    abbrev AreRead : (version : ℕ) → List (ℕ × (List ℕ → Result (Command × List ℕ) ℕ)) → Type 0
    AreRead version table = LinesRead kind_of (IsSpelled version) (field_octets version) table

    collections_read : (version : ℕ) (second : Bool) → eqb version 2 ≡ second
        → AreRead version (cond second
        ((7, collection_made_at) ∷ (8, collection_changed_at) ∷ (9, collection_deleted_at) ∷ []) [])
    collections_read version false e = tt
    collections_read version true e =
        subst (λ v. AreRead v ((7, collection_made_at) ∷ (8, collection_changed_at)
        ∷ (9, collection_deleted_at) ∷ [])) (sym (eqb-true version 2 e))
        (collection_made_read, (collection_changed_read, (collection_deleted_read, tt)))

    has_line : (version : ℕ) (what : Command) → IsSpelled version what
        → has_kind (kind_table version) (kind_of what) ≡ true
    has_line version (command.CreateZone name servers) h = refl
    has_line version (command.DeleteZone zone) h = refl
    has_line version (command.Change batch) h = refl
    has_line version (command.Health (check_command.Create check)) h = refl
    has_line version (command.Health (check_command.Update id inverted disabled threshold children)) h = refl
    has_line version (command.Health (check_command.Delete id)) h = refl
    has_line version (command.Cidr (cidr_command.Create name)) h =
        subst (λ v. has_kind (kind_table v) 7 ≡ true) (sym h.1.0) refl
    has_line version (command.Cidr (cidr_command.Change id changes)) h =
        subst (λ v. has_kind (kind_table v) 8 ≡ true) (sym h.1.0) refl
    has_line version (command.Cidr (cidr_command.Delete id)) h =
        subst (λ v. has_kind (kind_table v) 9 ≡ true) (sym h.1.0) refl

    command_read : (version : ℕ)
        → IsReadAs (IsSpelled version) (λ what. kind_of what
        ∷ field_octets version what) (command_at version)
    unfolding command_at
    command_read version =
        kinds_read kind_of (IsSpelled version) (field_octets version) (kind_table version) (
          create_read version,
          (
            delete_read version,
            (
              batch_read version,
              (
                check_made_read version,
                (
                  check_changed_read version,
                  (
                    check_deleted_read version,
                    collections_read version (eqb version 2) refl,
                  ),
                ),
              ),
            ),
          ),
        )
        (has_line version)

    pub front_read : IsReadAs IsIn octets_in versioned_at
    unfolding versioned_at
    front_read = in_turn_by_read version_read command_read
