-- A part of a command: how it is read, its fields, and where it stops.
use Rattle.std.proofs.Common.{◌≡◌, ℕ, zero, suc, ◌*◌, ◌+◌, inl, inr, Bool, true, false, List, [], ◌∷◌, ◌++◌, length, arith, ap, ◌∙◌, sym, refl, cond, append-nil, Option, None, Some, Ok, Err}
use Rattle.std.specs.List.{AllByRecursion, flat_map}
use Rattle.octets.specs.Numbers.{two_octets}
use Rattle.octet_reading.specs.Readers.{Reader, mapped, in_turn, in_turn_by, so_many, list_at, optional_at, tested}
use Rattle.octet_reading.specs.Reading.{two_at}
use Rattle.octet_reading.specs.Rules.{IsReadAs, AreListable, WhereSome, flag_octet, list_octets, optional_octets}
use Rattle.octet_reading.proofs.Composed.{in_turn_read, in_turn_by_read, so_many_read}
use Rattle.octet_reading.proofs.Optional.{list_read, optional_read}
use Rattle.octet_reading.proofs.Rules.{err_is, alike, seen_read}
use Rattle.fault_places.specs.Fields.{Field, spelling, Stops}
use Rattle.fault_places.specs.Fields.Ending.{Sized}
use Rattle.fault_places.specs.Sets.{sized}
use Rattle.fault_places.proofs.Composed.{so_many_faults, list_faults, optional_faults, is_there, fields_there}
use Rattle.fault_places.proofs.Steps.{Faults, Dead, dead_by, one_field, field_faults, sized_meets, seen_faults, alike_faults, in_turn_faults, in_turn_by_faults, spelling_append}
use Rattle.command_faults.specs.Commands.{list_fields, optional_fields}

pub record Part {A : Type 0} (is : A → Type 0) (octets_of : A → List ℕ) (fields : A → List Field)
    (read : Reader A) : Type 0 where
  pub reads : IsReadAs is octets_of read
  pub spells : (x : A) → spelling (fields x) ≡ octets_of x
  pub told : Faults is fields read
  pub some : A
  pub is_some : is some

pub one_part : {A : Type 0} {is : A → Type 0} {octets_of : A → List ℕ} {read : Reader A}
    (field : A → Field) (spells : (x : A) → (field x).octets ≡ octets_of x)
    → IsReadAs is octets_of read → Faults is (λ x. field x ∷ []) read → (x : A) → is x
    → Part is octets_of (λ x. field x ∷ []) read
one_part field spells reads told x h = record {
  reads = reads;
  spells = λ y. append-nil (field y).octets ∙ spells y;
  told = told;
  some = x;
  is_some = h;
}

pub in_turn_part : {A B : Type 0} {is : A → Type 0} {octets_of : A → List ℕ}
    {fields : A → List Field} {read : Reader A} {later_is : B → Type 0} {later_of : B → List ℕ}
    {later : B → List Field} {next : Reader B} → Part is octets_of fields read
    → Part later_is later_of later next
    → Part (λ (p : A × B). is p.0 × later_is p.1) (λ p. octets_of p.0 ++ later_of p.1)
    (λ p. fields p.0 ++ later p.1) (in_turn read next)
in_turn_part {octets_of = octets_of} {fields = fields} {later = later} a b = record {
  reads = in_turn_read a.reads b.reads;
  spells = λ p.
      spelling_append (fields p.0) (later p.1) ∙ ap (λ t. t ++ spelling (later p.1)) (a.spells p.0)
      ∙ ap (λ t. octets_of p.0 ++ t) (b.spells p.1);
  told = in_turn_faults a.reads a.spells a.told b.told (b.some, b.is_some);
  some = (a.some, b.some);
  is_some = (a.is_some, b.is_some);
}

pub in_turn_by_part : {A B : Type 0} {is : A → Type 0} {octets_of : A → List ℕ}
    {fields : A → List Field} {read : Reader A} {later_is : A → B → Type 0}
    {later_of : A → B → List ℕ} {later : A → B → List Field} {next : A → Reader B}
    → Part is octets_of fields read
    → ((x : A) → IsReadAs (later_is x) (later_of x) (next x))
    → ((x : A) (y : B) → spelling (later x y) ≡ later_of x y)
    → ((x : A) → is x → Faults (later_is x) (later x) (next x))
    → ((x : A) → is x → (y : B) × later_is x y)
    → Part (λ (p : A × B). is p.0 × later_is p.0 p.1) (λ p. octets_of p.0 ++ later_of p.0 p.1)
    (λ p. fields p.0 ++ later p.0 p.1) (in_turn_by read next)
in_turn_by_part {octets_of = octets_of} {fields = fields} {later = later} a reads spells told some =
    let y = some a.some a.is_some in
    record {
      reads = in_turn_by_read a.reads reads;
      spells = λ p.
          spelling_append (fields p.0) (later p.0 p.1)
          ∙ ap (λ t. t ++ spelling (later p.0 p.1)) (a.spells p.0)
          ∙ ap (λ t. octets_of p.0 ++ t) (spells p.0 p.1);
      told = in_turn_by_faults a.reads a.spells a.told told some;
      some = (a.some, y.0);
      is_some = (a.is_some, y.1);
    }

pub seen_part : {A C : Type 0} {is : A → Type 0} {octets_of : A → List ℕ} {fields : A → List Field}
    {read : Reader A} {view_is : C → Type 0} {views_of : C → List ℕ} {views : C → List Field}
    (view : A → C) → Part is octets_of fields read
    → ((x : A) → is x → view_is (view x) × (octets_of x ≡ views_of (view x)) × (fields x ≡ views (view x)))
    → ((c : C) → view_is c → (x : A) × is x × (view x ≡ c))
    → ((c : C) → spelling (views c) ≡ views_of c)
    → Part view_is views_of views (mapped view read)
seen_part {read = read} view a into from spells = record {
  reads = seen_read view a.reads (λ x h. let i = into x h in (i.0, i.1)) from;
  spells = spells;
  told = seen_faults view (λ x h. let i = into x h in (i.0, i.2)) from read a.told;
  some = view a.some;
  is_some = (into a.some a.is_some).0;
}

pub alike_part : {A : Type 0} {is other_is : A → Type 0} {octets_of others_of : A → List ℕ}
    {fields others : A → List Field} {read : Reader A} → Part is octets_of fields read
    → ((x : A) → is x → other_is x) → ((x : A) → other_is x → is x)
    → ((x : A) → octets_of x ≡ others_of x) → ((x : A) → fields x ≡ others x)
    → Part other_is others_of others read
alike_part a into from same alike_fields = record {
  reads = alike a.reads (λ x h. (into x h, same x)) from;
  spells = λ x. ap spelling (sym (alike_fields x)) ∙ a.spells x ∙ same x;
  told = alike_faults a.told (λ x h. (into x h, alike_fields x)) from;
  some = a.some;
  is_some = into a.some a.is_some;
}

-- lists, and what is optional
pub flat_spelled : {A : Type 0} (octets_of : A → List ℕ) (fields : A → List Field)
    → ((x : A) → spelling (fields x) ≡ octets_of x) → (xs : List A)
    → spelling (flat_map fields xs) ≡ flat_map octets_of xs
flat_spelled octets_of fields spells [] = refl
flat_spelled octets_of fields spells (x ∷ xs) =
    spelling_append (fields x) (flat_map fields xs)
    ∙ ap (λ t. t ++ spelling (flat_map fields xs)) (spells x)
    ∙ ap (λ t. octets_of x ++ t) (flat_spelled octets_of fields spells xs)

module _ {A : Type 0} {is : A → Type 0} {octets_of : A → List ℕ} {fields : A → List Field}
    {read : Reader A} (a : Part is octets_of fields read) where
  pub list_part : Part (AreListable is) (list_octets octets_of) (list_fields fields) (list_at read)
  list_part = record {
    reads = list_read a.reads;
    spells = λ xs. ap (λ t. two_octets (length xs) ++ t) (flat_spelled octets_of fields a.spells xs);
    told = list_faults a.reads a.spells a.told a.some a.is_some;
    some = [];
    is_some = record { count = omega arith; each = tt };
  }

  several : (n : ℕ) → (xs : List A) × (AllByRecursion is xs × (length xs ≡ n))
  several zero = ([], (tt, refl))
  several (suc n) =
      let s = several n in (a.some ∷ s.0, ((a.is_some, s.1.0), omega (arith, s.1.1)))

  pub so_many_part : (n : ℕ) → Part (λ xs. AllByRecursion is xs × (length xs ≡ n))
      (λ xs. flat_map octets_of xs) (λ xs. flat_map fields xs) (so_many read n)
  so_many_part n = let s = several n in record {
    reads = so_many_read a.reads n;
    spells = flat_spelled octets_of fields a.spells;
    told = so_many_faults a.reads a.spells a.told a.some a.is_some n;
    some = s.0;
    is_some = s.1;
  }

  optional_named : (found : Option A)
      → sized (flag_octet (is_there found) ∷ []) ∷ fields_there fields found
      ≡ optional_fields fields found
  optional_named None = refl
  optional_named (Some x) = refl

  optional_spelled : (found : Option A)
      → spelling (optional_fields fields found) ≡ optional_octets octets_of found
  optional_spelled None = refl
  optional_spelled (Some x) = ap (λ t. 1 ∷ t) (a.spells x)

  pub optional_part : Part (WhereSome is) (optional_octets octets_of) (optional_fields fields)
      (optional_at read)
  optional_part = record {
    reads = optional_read a.reads;
    spells = optional_spelled;
    told = alike_faults (optional_faults a.told a.some a.is_some)
        (λ found h. (h, optional_named found)) (λ found h. h);
    some = None;
    is_some = tt;
  }

-- a number of two octets that is tested
pub refused : (b : Bool) (x : ℕ × List ℕ) (size left : ℕ)
    → cond b (Ok x) (Err size) ≡ Err left → (b ≡ false) × (size ≡ left)
refused true x size left e = absurd (let k : Ok x ≡ Err left = e in cc)
refused false x size left e = (refl, err_is {A = ℕ × List ℕ} size left e)

module _ (test : ℕ → Bool) {is : ℕ → Type 0} (some : ℕ) (is_some : is some)
    (reads : IsReadAs is two_octets (tested test two_at)) where
  tested_two_stops : (octets : List ℕ) (left : ℕ) → tested test two_at octets ≡ Err left
      → (x : ℕ) × is x × Stops Sized (two_octets x) octets left (Dead is two_octets octets)
  tested_two_stops [] left e =
      (some, is_some, inl (sym (err_is {A = ℕ × List ℕ} 0 left e), omega arith))
  tested_two_stops (a ∷ []) left e =
      (some, is_some, inl (sym (err_is {A = ℕ × List ℕ} 0 left e), omega arith))
  tested_two_stops (a ∷ b ∷ rest) left e =
      let r = refused (test (a * 256 + b)) (a * 256 + b, rest) (length (a ∷ b ∷ rest)) left e in (
        some,
        is_some,
        inr (
          omega (arith, r.1),
          omega arith,
          dead_by reads (a ∷ b ∷ rest) (λ more. (
            length (a ∷ b ∷ (rest ++ more)),
            ap (λ t. cond t (Ok (a * 256 + b, rest ++ more))
                (Err (length (a ∷ b ∷ (rest ++ more))))) r.0,
          )),
        ),
      )

  pub tested_two : Faults is (one_field two_octets Sized) (tested test two_at)
  tested_two = field_faults two_octets Sized (tested test two_at)
      (sized_meets two_octets 2 (λ x h. omega arith)) (λ x h. omega arith)
      (λ octets left are e. tested_two_stops octets left e)
