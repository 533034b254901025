-- Parts of a snapshot: what stands there where it is told, and lists that may be long.
use Rattle.std.proofs.Common.{◌≡◌, ℕ, ◌+◌, ◌*◌, ◌≤◌, inl, inr, Bool, true, false, List, [], ◌∷◌, ◌++◌, length, arith, ap, sym, refl, cond, append-nil, Ok, Err}
use Rattle.std.specs.List.{AllByRecursion}
use Rattle.std.proofs.lemmas.Bool.{leb-true, le-leb}
use Rattle.octets.specs.Numbers.{four_octets}
use Rattle.octet_reading.specs.Readers.{Reader, tested}
use Rattle.octet_reading.specs.Reading.{four_at}
use Rattle.octet_reading.specs.Rules.{IsReadAs}
use Rattle.octet_reading.proofs.Composed.{so_many_read, tested_read}
use Rattle.octet_reading.proofs.Rules.{err_is, alike, nothing_read, then_read}
use Rattle.check_octets.specs.Octets as checks
use Rattle.check_reading.specs.Fields.{counted_at, spelled_at}
use Rattle.check_reading.proofs.Parts.{number_read}
use Rattle.snapshot_octets.specs.Octets.{IsWhereSpelled, counted_octets}
use Rattle.snapshot_octets.specs.Reading.{is_later, later_at}
use Rattle.fault_places.specs.Fields.{Field, spelling, Stops}
use Rattle.fault_places.specs.Fields.Ending.{Sized}
use Rattle.fault_places.specs.Sets.{sized}
use Rattle.fault_places.proofs.Composed.{nothing_faults}
use Rattle.fault_places.proofs.Leaves.{four_faults}
use Rattle.fault_places.proofs.Steps.{Faults, Dead, dead_by, one_field, field_faults, sized_meets, alike_faults, then_faults}
use Rattle.command_faults.specs.Commands.{four_fields, where_spelled}
use Rattle.command_faults.proofs.Parts.{Part, one_part, so_many_part, flat_spelled, refused}
use Rattle.snapshot_faults.specs.Snapshots.{counted_fields}

-- ---- a number of four octets that is tested

module _ (test : ℕ → Bool) {is : ℕ → Type 0} (some : ℕ) (is_some : is some)
    (reads : IsReadAs is four_octets (tested test four_at)) where
  abbrev Stopping : List ℕ → ℕ → Type 0
  Stopping octets left =
      (x : ℕ) × is x × Stops Sized (four_octets x) octets left (Dead is four_octets octets)

  tested_four_stops : (octets : List ℕ) (left : ℕ) → tested test four_at octets ≡ Err left
      → Stopping octets left
  tested_four_stops [] left e =
      (some, is_some, inl (sym (err_is {A = ℕ × List ℕ} 0 left e), omega arith))
  tested_four_stops (a ∷ []) left e =
      (some, is_some, inl (sym (err_is {A = ℕ × List ℕ} 0 left e), omega arith))
  tested_four_stops (a ∷ b ∷ []) left e =
      (some, is_some, inl (sym (err_is {A = ℕ × List ℕ} 0 left e), omega arith))
  tested_four_stops (a ∷ b ∷ c ∷ []) left e =
      (some, is_some, inl (sym (err_is {A = ℕ × List ℕ} 0 left e), omega arith))
  tested_four_stops (a ∷ b ∷ c ∷ d ∷ rest) left e =
      let n = a * 16777216 + b * 65536 + c * 256 + d in
      let octets = a ∷ b ∷ c ∷ d ∷ rest in
      let r = refused (test n) (n, rest) (length octets) left e in (
        some,
        is_some,
        inr (
          omega (arith, r.1),
          omega arith,
          dead_by reads octets (λ more. (
            length (octets ++ more),
            ap (λ t. cond t (Ok (n, rest ++ more)) (Err (length (octets ++ more)))) r.0,
          )),
        ),
      )

  tested_four : Faults is (one_field four_octets Sized) (tested test four_at)
  tested_four = field_faults four_octets Sized (tested test four_at)
      (sized_meets four_octets 4 (λ x h. omega arith)) (λ x h. omega arith)
      (λ octets left are e. tested_four_stops octets left e)

-- ---- the next number of a collection

later_read : IsReadAs (λ next. 2 ≤ next) four_octets later_at
unfolding later_at
later_read = alike (tested_read is_later number_read) (λ next h. (leb-true 2 next h.1, refl))
    (λ next h. (tt, le-leb 2 next h))

later_faults : Faults (λ next. 2 ≤ next) (one_field four_octets Sized) later_at
unfolding later_at
later_faults = tested_four is_later 2 (omega arith) later_read

pub later_part : Part (λ next. 2 ≤ next) four_octets four_fields later_at
later_part = one_part (λ next. sized (four_octets next)) (λ next. refl) later_read later_faults 2
    (omega arith)

-- ---- what stands there where it is told

module _ {A : Type 0} {is : A → Type 0} {octets_of : A → List ℕ} {fields : A → List Field}
    {read : Reader A} (left : A) (part : Part is octets_of fields read) where
  told_read : (told : Bool)
      → IsReadAs (IsWhereSpelled told left is) (λ x. checks.where_spelled told (octets_of x))
      (spelled_at told left read)
  told_read true = alike part.reads (λ x h. (h, refl)) (λ x h. h)
  told_read false = alike (nothing_read left) (λ x h. (h, refl)) (λ x h. h)

  told_spells : (told : Bool) (x : A)
      → spelling (where_spelled told (fields x)) ≡ checks.where_spelled told (octets_of x)
  told_spells true x = part.spells x
  told_spells false x = refl

  told_faults : (told : Bool) → Faults (IsWhereSpelled told left is) (λ x. where_spelled told (fields x))
      (spelled_at told left read)
  told_faults true = alike_faults part.told (λ x h. (h, refl)) (λ x h. h)
  told_faults false =
      nothing_faults (λ x. x ≡ left) (λ x. where_spelled false (fields x)) left (λ x h. refl)

  some_told : (told : Bool) → (x : A) × IsWhereSpelled told left is x
  some_told true = (part.some, part.is_some)
  some_told false = (left, refl)

  pub told_part : (told : Bool)
      → Part (IsWhereSpelled told left is) (λ x. checks.where_spelled told (octets_of x))
      (λ x. where_spelled told (fields x)) (spelled_at told left read)
  told_part told = let s = some_told told in record {
    reads = told_read told;
    spells = told_spells told;
    told = told_faults told;
    some = s.0;
    is_some = s.1;
  }

-- ---- lists that may be long

module _ {A : Type 0} {is : A → Type 0} {octets_of : A → List ℕ} {fields : A → List Field}
    {read : Reader A} (part : Part is octets_of fields read) where
  counted_faults : Faults (AllByRecursion is) (counted_fields fields) (counted_at four_at read)
  counted_faults = alike_faults
      (then_faults (λ (xs : List A). length xs) number_read (λ n. append-nil (four_octets n))
      four_faults (λ n h. (so_many_part part n).told)
      (λ n h. let p = so_many_part part n in (p.some, p.is_some)))
      (λ xs h. (h.1, refl)) (λ xs h. (tt, h))

  pub counted_part : Part (AllByRecursion is) (counted_octets octets_of) (counted_fields fields)
      (counted_at four_at read)
  counted_part = record {
    reads = alike (then_read (λ (xs : List A). length xs) number_read (so_many_read part.reads))
        (λ xs h. (h.1, refl)) (λ xs h. (tt, h));
    spells = λ xs. ap (λ t. four_octets (length xs) ++ t)
        (flat_spelled octets_of fields part.spells xs);
    told = counted_faults;
    some = [];
    is_some = tt;
  }
