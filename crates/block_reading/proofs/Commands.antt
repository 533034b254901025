-- The readers of commands on collections, each by the rules for readers that are built from
-- readers.
use Rattle.std.proofs.Common.{◌≡◌, ℕ, ◌<◌, ◌^◌, Bool, true, false, List, [], ◌∷◌, ◌++◌, arith, refl}
use Rattle.std.proofs.Common.{Some}
use Rattle.std.specs.Prelude.{⊤}
use Rattle.std.specs.List.{AllByRecursion}
use Rattle.octets.specs.Numbers.{four_octets}
use Rattle.block_octets.specs.Reading.{four_at}
use Rattle.block_octets.specs.Rules.{IsReadAs, AreListable, list_octets}
use Rattle.block_octets.proofs.Base.{read_as, octet_read}
use Rattle.block_octets.proofs.Composed.{in_turn_read}
use Rattle.block_octets.proofs.Digits.{four_is, four_again}
use Rattle.block_octets.proofs.Optional.{list_read, meaning_read, numbered_is}
use Rattle.block_octets.proofs.Rules.{alike, seen_read}
use Rattle.block_octets.proofs.Within.{four_within}
use Rattle.block_octets.specs.Prefixes.{Prefix}
use Rattle.block_octets.specs.Texts.{IsLocationName}
use Rattle.block_octets.specs.Idents.{IsCollectionName}
use Rattle.block_octets.specs.CidrChangeRecord.{CidrChange}
use Rattle.block_octets.specs.Laws.{HasName, HaveNames}
use Rattle.block_octets.specs.CidrCommandRecord.{CidrCommand}
use Rattle.block_octets.specs.CidrCommandRecord.TheVariants.{Create, Change, Delete}
use Rattle.block_octets.specs.Octets.{put_number, change_octets, field_octets, HasFewBlocks}
use Rattle.block_reading.specs.Laws.{IsOfKind, CidrCommandsAreRead}
use Rattle.block_reading.specs.Reading.{create_at, put_of, put_at, changed, change_at}
use Rattle.block_reading.specs.Reading.{changing, change_collection_at, delete_at}
use Rattle.block_reading.proofs.Prefixes.{IsPrefixed, block_read}
use Rattle.block_reading.proofs.Texts.{name_read, location_read}

-- ---- numbers

-- a number of four octets, of whatever size
number_read : IsReadAs (λ n. ⊤) four_octets four_at
number_read =
    read_as (λ n rest is. four_again n rest) (λ octets x bytes e. (four_is octets x bytes e, tt))
    four_within

-- ---- changes

found_put : (put : Bool) → put_of (put_number put) ≡ Some put
found_put true = refl
found_put false = refl

put_below : (put : Bool) → put_number put < 2 ^ 8
put_below true = omega arith
put_below false = omega arith

put_read : IsReadAs (λ put. ⊤) (λ put. put_number put ∷ []) put_at
unfolding put_at
put_read =
    alike (meaning_read put_number put_of octet_read found_put
    (numbered_is put_number (true ∷ false ∷ [])))
    (λ put h. (tt, refl)) (λ put h. put_below put)

abbrev IsSpelledChange : CidrChange → Type 0
IsSpelledChange change = HasName change × HasFewBlocks change

change_read : IsReadAs IsSpelledChange change_octets change_at
unfolding change_at
change_read =
    seen_read changed (in_turn_read (in_turn_read put_read location_read) (list_read block_read))
    (λ p h. ((record { name = h.0.1; prefixes = h.1.each }, h.1.count), refl)) from
  where
    from : (change : CidrChange) → IsSpelledChange change
        → (p : (Bool × List ℕ) × List Prefix)
        × ((⊤ × IsLocationName p.0.1) × AreListable IsPrefixed p.1) × (changed p ≡ change)
    from change h = (
      ((change.put, change.location), change.blocks),
      ((tt, h.0.name), record { count = h.1; each = h.0.prefixes }),
      refl,
    )

-- the changes of a command, one by one
both : (changes : List CidrChange) → HaveNames changes → AllByRecursion HasFewBlocks changes
    → AllByRecursion IsSpelledChange changes
both [] names few = tt
both (change ∷ changes) names few = ((names.0, few.0), both changes names.1 few.1)

apart : (changes : List CidrChange) → AllByRecursion IsSpelledChange changes
    → HaveNames changes × AllByRecursion HasFewBlocks changes
apart [] each = (tt, tt)
apart (change ∷ changes) each =
    let rest = apart changes each.1 in
    ((each.0.0, rest.0), (each.0.1, rest.1))

-- ---- commands

create_read : IsReadAs (IsOfKind 7) field_octets create_at
unfolding create_at
create_read = seen_read Create name_read (λ name h. (((h, tt), refl), refl)) from
  where
    from : (command : CidrCommand) → IsOfKind 7 command
        → (name : List ℕ) × IsCollectionName name × (Create name ≡ command)
    from (Create name) h = (name, h.0.0, refl)
    from (Change id changes) h = absurd (omega (arith, h.1))
    from (Delete id) h = absurd (omega (arith, h.1))

change_collection_read : IsReadAs (IsOfKind 8) field_octets change_collection_at
unfolding change_collection_at
change_collection_read =
    seen_read changing (in_turn_read number_read (list_read change_read)) into from
  where
    into : (p : ℕ × List CidrChange) → ⊤ × AreListable IsSpelledChange p.1
        → IsOfKind 8 (changing p)
        × (four_octets p.0 ++ list_octets change_octets p.1 ≡ field_octets (changing p))
    into p h =
        let split = apart p.1 h.1.each in
        (((split.0, (h.1.count, split.1)), refl), refl)

    from : (command : CidrCommand) → IsOfKind 8 command
        → (p : ℕ × List CidrChange) × (⊤ × AreListable IsSpelledChange p.1)
        × (changing p ≡ command)
    from (Create name) h = absurd (omega (arith, h.1))
    from (Change id changes) h = (
      (id, changes),
      (tt, record { count = h.0.1.0; each = both changes h.0.0 h.0.1.1 }),
      refl,
    )
    from (Delete id) h = absurd (omega (arith, h.1))

delete_read : IsReadAs (IsOfKind 9) field_octets delete_at
unfolding delete_at
delete_read = seen_read Delete number_read (λ id h. (((tt, tt), refl), refl)) from
  where
    from : (command : CidrCommand) → IsOfKind 9 command
        → (id : ℕ) × ⊤ × (Delete id ≡ command)
    from (Create name) h = absurd (omega (arith, h.1))
    from (Change id changes) h = absurd (omega (arith, h.1))
    from (Delete id) h = (id, tt, refl)

pub commands_read : CidrCommandsAreRead
commands_read =
    record { created = create_read; changed = change_collection_read; deleted = delete_read }
