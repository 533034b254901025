-- Where lists, optional parts and kinds stop.
use Rattle.std.proofs.Common.{◌≡◌, ℕ, zero, suc, inl, inr, Bool, true, false, List, [], ◌∷◌, ◌++◌, length, arith, ap, ◌∙◌, sym, refl, subst, cond, eqb, append-nil, Option, None, Some, Result, Ok, Err}
use Rattle.std.specs.Prelude.{◌⊎◌, ◌||◌}
use Rattle.std.specs.List.{AllByRecursion, flat_map}
use Rattle.std.proofs.lemmas.Bool.{eqb-true}
use Rattle.octets.specs.Numbers.{two_octets}
use Rattle.octet_reading.specs.Readers.{Reader, in_turn, so_many, list_at, where_one, optional_at, tested, of_kind, has_kind, kinds}
use Rattle.octet_reading.specs.Reading.{◌>>=◌, octet_at}
use Rattle.octet_reading.specs.Rules.{IsReadAs, AreListable, WhereSome, flag_octet}
use Rattle.octet_reading.proofs.Base.{two_read, flag_read}
use Rattle.octet_reading.proofs.Composed.{seen_in_turn, tested_read}
use Rattle.fault_places.specs.Fields.{Field, spelling, StandsBehind}
use Rattle.fault_places.specs.Fields.Ending.{Sized}
use Rattle.fault_places.proofs.Leaves.{octet_read, two_faults, flag_faults, tested_octet}
use Rattle.fault_places.proofs.Steps.{Faults, AreFilled, seen_faults, alike_faults, so_faults, in_turn_faults, then_faults}

-- nothing is read, and nothing stops
nowhere : (before : List ℕ) (f : Field) (fields : List Field) → fields ≡ []
    → StandsBehind before f fields → ⊥
nowhere before f fields none s = go s.front (sym none ∙ s.parts)
  where
    go : (front : List Field) → [] ≡ front ++ f ∷ s.others → ⊥
    go [] e = absurd cc
    go (g ∷ front) e = absurd cc

pub nothing_faults : {A : Type 0} (is : A → Type 0) (fields : A → List Field) (x : A)
    → ((y : A) → is y → fields y ≡ []) → Faults is fields (λ octets. Ok (x, octets))
nothing_faults is fields x none = record {
  places = record {
    meet = λ y z before here rest f h k at same.
        absurd (nowhere before f (fields y) (none y h) at);
    filled = λ y h. subst AreFilled (sym (none y h)) tt;
  };
  told = λ octets left are e. absurd cc;
}

-- so many of one field
module _ {A : Type 0} {is : A → Type 0} {octets_of : A → List ℕ} {fields : A → List Field}
    {read : Reader A} (item : IsReadAs is octets_of read)
    (spells : (x : A) → spelling (fields x) ≡ octets_of x) (told : Faults is fields read)
    (least : A) (is_least : is least) where
  none_left : (xs : List A) → length xs ≡ 0 → flat_map fields xs ≡ []
  none_left [] e = refl
  none_left (x ∷ xs) e = absurd (omega (arith, e))

  some_of : (n : ℕ) → (xs : List A) × (AllByRecursion is xs × (length xs ≡ n))
  some_of zero = ([], (tt, refl))
  some_of (suc n) =
      let s = some_of n in (least ∷ s.0, ((is_least, s.1.0), omega (arith, s.1.1)))

  first_of : (n : ℕ) (xs : List A) → AllByRecursion is xs × (length xs ≡ suc n)
      → (p : A × List A) × (is p.0 × (AllByRecursion is p.1 × (length p.1 ≡ n))) × (p.0 ∷ p.1 ≡ xs)
  first_of n [] h = absurd (omega (arith, h.1))
  first_of n (x ∷ xs) h = ((x, xs), (h.0.0, (h.0.1, omega (arith, h.1))), refl)

  pub so_many_faults : (n : ℕ)
      → Faults (λ xs. AllByRecursion is xs × (length xs ≡ n)) (λ xs. flat_map fields xs)
      (so_many read n)
  so_many_faults zero = nothing_faults (λ xs. AllByRecursion is xs × (length xs ≡ zero))
      (λ xs. flat_map fields xs) [] (λ xs h. none_left xs h.1)
  so_many_faults (suc n) = so_faults
      (seen_faults (λ (p : A × List A). p.0 ∷ p.1)
      (λ p h. (((h.0, h.1.0), ap suc h.1.1), refl)) (first_of n) (in_turn read (so_many read n))
      (in_turn_faults item spells told (so_many_faults n) (some_of n)))
      (seen_in_turn (λ p. p.0 ∷ p.1) read (so_many read n))

  pub list_faults : Faults (AreListable is)
      (λ xs. record { ending = Sized; octets = two_octets (length xs) } ∷ flat_map fields xs)
      (list_at read)
  list_faults = alike_faults
      (then_faults (λ (xs : List A). length xs) two_read (λ n. append-nil (two_octets n)) two_faults
      (λ n h. so_many_faults n) (λ n h. some_of n))
      (λ xs h. (record { count = h.0; each = h.1 }, refl)) (λ xs h. (h.count, h.each))

-- an optional part
abbrev pub is_there : {A : Type 0} → Option A → Bool
is_there None = false
is_there (Some x) = true

abbrev pub fields_there : {A : Type 0} → (A → List Field) → Option A → List Field
fields_there fields None = []
fields_there fields (Some x) = fields x

module _ {A : Type 0} {is : A → Type 0} {fields : A → List Field} {read : Reader A}
    (told : Faults is fields read) (least : A) (is_least : is least) where
  some_there : (found : Option A) → WhereSome is found × (is_there found ≡ true)
      → (x : A) × is x × (Some x ≡ found)
  some_there None h = absurd (let k : false ≡ true = h.1 in cc)
  some_there (Some x) h = (x, h.0, refl)

  none_there : (found : Option A) → is_there found ≡ false → fields_there fields found ≡ []
  none_there None e = refl
  none_there (Some x) e = absurd (let k : true ≡ false = e in cc)

  part_faults : (flag : Bool)
      → Faults (λ found. WhereSome is found × (is_there found ≡ flag)) (fields_there fields)
      (where_one read flag)
  part_faults false =
      nothing_faults (λ found. WhereSome is found × (is_there found ≡ false))
      (fields_there fields) None (λ found h. none_there found h.1)
  part_faults true =
      seen_faults (λ (x : A). Some x) (λ x h. ((h, refl), refl)) some_there read told

  some_part : (flag : Bool)
      → (found : Option A) × (WhereSome is found × (is_there found ≡ flag))
  some_part false = (None, (tt, refl))
  some_part true = (Some least, (is_least, refl))

  pub optional_faults : Faults (WhereSome is)
      (λ found. record { ending = Sized; octets = flag_octet (is_there found) ∷ [] }
      ∷ fields_there fields found)
      (optional_at read)
  optional_faults = alike_faults
      (then_faults is_there flag_read (λ flag. refl) flag_faults (λ flag h. part_faults flag)
      (λ flag h. some_part flag))
      (λ found h. (h.1, refl)) (λ found h. (tt, h))

-- a kind, and the fields of that kind
module _ {A : Type 0} (kind_of : A → ℕ) (is : A → Type 0) (later : A → List Field) where
  abbrev Of : ℕ → A → Type 0
  Of kind x = is x × (kind_of x ≡ kind)

  -- each line of the table reads the values of its kind, and there are some
  abbrev pub LineStops : ℕ × Reader A → Type 0
  LineStops line = Faults (Of line.0) later line.1 × ((x : A) × Of line.0 x)

  abbrev pub LinesStop : List (ℕ × Reader A) → Type 0
  LinesStop lines = AllByRecursion LineStops lines

  picked : (b : Bool) (x y : Result (A × List ℕ) ℕ) (P : Result (A × List ℕ) ℕ → Type 0)
      → (b ≡ true → P x) → (b ≡ false → P y) → P (cond b x y)
  picked true x y P h k = h refl
  picked false x y P h k = k refl

  by_line : (b : Bool) (x y : Type 0) → (b ≡ true → x) → (b ≡ false → y) → x ⊎ y
  by_line true x y h k = inl (h refl)
  by_line false x y h k = inr (k refl)

  some_of_kind : (lines : List (ℕ × Reader A)) (kind : ℕ) → LinesStop lines
      → has_kind lines kind ≡ true → (x : A) × Of kind x
  some_of_kind [] kind each there = absurd cc
  some_of_kind (line ∷ lines) kind each there =
      elim (by_line (eqb kind line.0) (kind ≡ line.0) (has_kind lines kind ≡ true)
      (eqb-true kind line.0) (λ e. sym (ap (λ b. b || has_kind lines kind) e) ∙ there)) [
        | inl e ↦ let x = each.0.1 in (x.0, (x.1.0, x.1.1 ∙ sym e))
        | inr k ↦ some_of_kind lines kind each.1 k
      ]

  -- the reader of a kind that the table has
  of_kind_faults : (lines : List (ℕ × Reader A)) (kind : ℕ) → LinesStop lines
      → has_kind lines kind ≡ true
      → Faults (Of kind) later (λ rest. of_kind rest lines kind rest)
  of_kind_faults [] kind each there = absurd cc
  of_kind_faults (line ∷ lines) kind each there =
      go (of_kind_faults lines kind each.1) (eqb kind line.0) refl
    where
      go : (has_kind lines kind ≡ true → Faults (Of kind) later (λ rest. of_kind rest lines kind rest))
          → (b : Bool) → eqb kind line.0 ≡ b
          → Faults (Of kind) later (λ rest. of_kind rest (line ∷ lines) kind rest)
      go others true e =
          so_faults (subst (λ k. Faults (Of k) later line.1) (sym (eqb-true kind line.0 e)) each.0.0)
          (λ rest. ap (λ b. cond b (line.1 rest) (of_kind rest lines kind rest)) e)
      go others false e =
          so_faults (others
          (sym (ap (λ b. b || has_kind lines kind) e) ∙ there))
          (λ rest. ap (λ b. cond b (line.1 rest) (of_kind rest lines kind rest)) e)

  -- with the kind as a field that is tested
  known_kind : (octets : List ℕ) (lines : List (ℕ × Reader A)) (kind : ℕ) (rest : List ℕ)
      → has_kind lines kind ≡ true
      → of_kind octets lines kind rest ≡ of_kind rest lines kind rest
  known_kind octets [] kind rest there = absurd cc
  known_kind octets (line ∷ lines) kind rest there =
      go (known_kind octets lines kind rest) (eqb kind line.0) refl
    where
      go : (has_kind lines kind ≡ true
          → of_kind octets lines kind rest ≡ of_kind rest lines kind rest)
          → (b : Bool) → eqb kind line.0 ≡ b
          → of_kind octets (line ∷ lines) kind rest ≡ of_kind rest (line ∷ lines) kind rest
      go others true e = rw e refl
      go others false e = rw e (others
          (sym (ap (λ b. b || has_kind lines kind) e) ∙ there))

  no_kind : (octets : List ℕ) (lines : List (ℕ × Reader A)) (kind : ℕ) (rest : List ℕ)
      → has_kind lines kind ≡ false → of_kind octets lines kind rest ≡ Err (length octets)
  no_kind octets [] kind rest none = refl
  no_kind octets (line ∷ lines) kind rest none =
      go (no_kind octets lines kind rest) (eqb kind line.0) refl
    where
      go : (has_kind lines kind ≡ false → of_kind octets lines kind rest ≡ Err (length octets))
          → (b : Bool) → eqb kind line.0 ≡ b
          → of_kind octets (line ∷ lines) kind rest ≡ Err (length octets)
      go others true e = absurd (let k : true ≡ false = sym (ap (λ b. b || has_kind lines kind) e) ∙ none in cc)
      go others false e = rw e (others
          (sym (ap (λ b. b || has_kind lines kind) e) ∙ none))

  in_two_steps : (lines : List (ℕ × Reader A)) (octets : List ℕ)
      → kinds lines octets
      ≡ (tested (has_kind lines) octet_at octets >>= λ x. of_kind x.1 lines x.0 x.1)
  in_two_steps lines [] = refl
  in_two_steps lines (kind ∷ rest) = go (has_kind lines kind) refl
    where
      go : (b : Bool) → has_kind lines kind ≡ b
          → of_kind (kind ∷ rest) lines kind rest
          ≡ (cond {A = Result (ℕ × List ℕ) ℕ} b (Ok (kind, rest)) (Err (length (kind ∷ rest)))
          >>= λ x. of_kind x.1 lines x.0 x.1)
      go true e = known_kind (kind ∷ rest) lines kind rest e
      go false e = no_kind (kind ∷ rest) lines kind rest e

  pub kinds_faults : (lines : List (ℕ × Reader A)) → LinesStop lines
      → (least : ℕ) → has_kind lines least ≡ true
      → ((x : A) → is x → has_kind lines (kind_of x) ≡ true)
      → Faults is (λ x. record { ending = Sized; octets = kind_of x ∷ [] } ∷ later x) (kinds lines)
  kinds_faults lines each least has_least there = alike_faults
      (so_faults
      (then_faults kind_of (tested_read (has_kind lines) octet_read) (λ n. refl)
      (tested_octet (has_kind lines) least (tt, has_least)
      (tested_read (has_kind lines) octet_read))
      (λ kind h. of_kind_faults lines kind each h.1)
      (λ kind h. some_of_kind lines kind each h.1))
      (in_two_steps lines))
      (λ x h. (h.1, refl)) (λ x h. ((tt, there x h), h))
