-- What a reader leaves stands at the end of what it was given.
use Rattle.std.proofs.Common.{◌≡◌, ℕ, ◌<◌, ◌≤◌, Bool, true, false, List, [], ◌∷◌, ◌++◌, length}
use Rattle.std.proofs.Common.{suc, arith, ap, ◌∙◌, subst, Ok}
use Rattle.std.specs.Prelude.{slice_index}
use Rattle.std.proofs.lemmas.List.{length-append}
use Rattle.dns_name.specs.Names.{AreOctets}
use Rattle.octet_reading.specs.Readers.{Reader, in_turn_by, mapped}
use Rattle.octet_reading.specs.Reading.{◌>>=◌}
use Rattle.octet_reading.specs.Rules.{IsReadAs}
use Rattle.octet_reading.proofs.Base.{four_read, two_read}
use Rattle.octet_reading.proofs.Composed.{tested_read}
use Rattle.octet_reading.proofs.Digits.{bind_ok, joined, ok_is}
use Rattle.octet_reading.proofs.Optional.{list_read}
use Rattle.octet_reading.proofs.Rules.{behind_octets}
use Rattle.check_reading.specs.Fields.{spelled_at}
use Rattle.snapshot_octets.specs.LawsOfSetReading as set_laws
use Rattle.snapshot_octets.specs.Octets.{spells_collections}
use Rattle.snapshot_octets.specs.Reading.{is_later, later_at, zone_at}
use Rattle.snapshot_octets.proofs.Fields.{held_check_read, held_collection_read, version_read}
use Rattle.snapshot_octets.proofs.Fields.{zone_read}
use Rattle.snapshot_reading.specs.Parts.{Begun, begun, begun_at, checks_at, collections_at}
use Rattle.snapshot_reading.specs.Parts.{front_at, next_collection_at}

abbrev pub Leaves : {A : Type 0} → Reader A → Type 0
Leaves {A = A} read = (octets : List ℕ) (x : A) (rest : List ℕ) → AreOctets octets
    → read octets ≡ Ok (x, rest) → (piece : List ℕ) × (octets ≡ piece ++ rest)

-- ---- readers of readers

read_leaves : {A : Type 0} {is : A → Type 0} {octets_of : A → List ℕ} {read : Reader A}
    → IsReadAs is octets_of read → Leaves read
read_leaves {octets_of = octets_of} h octets x rest are e =
    (octets_of x, (h.stands octets x rest are e).0)

seen_leaves : {A B : Type 0} {read : Reader A} (view : A → B) → Leaves read
    → Leaves (mapped view read)
seen_leaves {B = B} {read = read} view leaves octets y rest are e =
    let b = bind_ok (read octets) (λ x. Ok (view x.0, x.1)) (y, rest) e in
    let same : b.0.1 ≡ rest =
    ap (λ (p : B × List ℕ). p.1) (ok_is (view b.0.0, b.0.1) (y, rest) b.2) in
    let l = leaves octets b.0.0 b.0.1 are b.1 in
    (l.0, l.1 ∙ ap (λ t. l.0 ++ t) same)

turns_leave : {A B : Type 0} {first : Reader A} {next : A → Reader B} → Leaves first
    → ((x : A) → Leaves (next x)) → Leaves (in_turn_by first next)
turns_leave {A = A} {B = B} {first = first} {next = next} leaves later octets y rest are e =
    let b = bind_ok (first octets) (λ x. next x.0 x.1 >>= λ z. Ok ((x.0, z.0), z.1)) (y, rest) e in
    let c = bind_ok (next b.0.0 b.0.1) (λ z. Ok ((b.0.0, z.0), z.1)) (y, rest) b.2 in
    let same : c.0.1 ≡ rest =
    ap (λ (p : (A × B) × List ℕ). p.1) (ok_is ((b.0.0, c.0.0), c.0.1) (y, rest) c.2) in
    let f = leaves octets b.0.0 b.0.1 are b.1 in
    let l = later b.0.0 b.0.1 c.0.0 c.0.1 (behind_octets octets f.0 b.0.1 are f.1) c.1 in
    let spelled : octets ≡ (f.0 ++ l.0) ++ c.0.1 = joined octets f.0 b.0.1 l.0 c.0.1 f.1 l.1 in
    (f.0 ++ l.0, subst (λ t. octets ≡ (f.0 ++ l.0) ++ t) same spelled)

told_leaves : {A : Type 0} {read : Reader A} (told : Bool) (left : A) → Leaves read
    → Leaves (spelled_at told left read)
told_leaves true left leaves octets x rest are e = leaves octets x rest are e
told_leaves {A = A} false left leaves octets x rest are e =
    ([], ap (λ (p : A × List ℕ). p.1) (ok_is (left, octets) (x, rest) e))

-- ---- the parts of a snapshot

later_leaves : Leaves later_at
unfolding later_at
later_leaves = read_leaves (tested_read is_later four_read)

next_leaves : (version : ℕ) → Leaves (next_collection_at version)
unfolding next_collection_at
next_leaves version = told_leaves (spells_collections version) 1 later_leaves

checks_leave : (version : ℕ) → Leaves (checks_at version)
unfolding checks_at
checks_leave version = read_leaves (list_read (held_check_read version))

collections_leave : (version : ℕ) → Leaves (collections_at version)
unfolding collections_at
collections_leave version =
    told_leaves (spells_collections version) [] (read_leaves (list_read held_collection_read))

begun_leaves : (version : ℕ) → Leaves (begun_at version)
unfolding begun_at
begun_leaves version =
    seen_leaves begun
    (turns_leave (turns_leave (turns_leave (turns_leave (turns_leave (read_leaves four_read)
    (λ x. read_leaves four_read)) (λ x. next_leaves version)) (λ x. checks_leave version))
    (λ x. collections_leave version)) (λ x. read_leaves two_read))

pub front_leaves : Leaves front_at
unfolding front_at
front_leaves =
    seen_leaves (λ (p : ℕ × Begun). p.1) (turns_leave (read_leaves version_read) begun_leaves)

pub zone_leaves : set_laws.WrittenReadsBack → set_laws.SetsAreTold → Leaves zone_at
zone_leaves written told = read_leaves (zone_read written told)

-- ---- of slices

-- octets of a slice are octets
pub are_octets : (octets : List ℕ) → ((i : ℕ) → slice_index octets i < 256) → AreOctets octets
are_octets [] bytes = tt
are_octets (b ∷ octets) bytes = (bytes 0, are_octets octets (λ i. bytes (suc i)))

pub rest_within : {A : Type 0} (read : Reader A) → Leaves read → (octets : List ℕ) (x : A)
    (rest : List ℕ) → AreOctets octets → read octets ≡ Ok (x, rest) → length rest ≤ length octets
rest_within read leaves octets x rest are e =
    let l = leaves octets x rest are e in
    omega (arith, ap length l.1, length-append l.0 rest)
