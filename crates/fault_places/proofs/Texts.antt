-- Where the fields of sets stop whose own octets say where they end: names, letters and texts.
use Rattle.std.proofs.Common.{◌≡◌, ℕ, zero, suc, ◌+◌, ◌-◌, ◌<◌, ◌≤◌, inl, inr, Bool, true, false, not, List, [], ◌∷◌, ◌++◌, length, take, drop, arith, ap, ◌∙◌, sym, refl, subst, cond, append-nil, length-append, Result, Ok, Err}
use Rattle.std.specs.Prelude.{◌||◌, ◌&&◌, ◌==◌, nat_lt}
use Rattle.std.specs.List.{list_all, AllByRecursion, flat_map}
use Rattle.std.proofs.lemmas.Bool.{ltb-true, ltb-false, or_from, or_parts, and_parts, and_from, not_from_true}
use Rattle.rdata_layout.specs.Labels.{wire, frame}
use Rattle.rdata_layout.specs.Names.{IsName}
use Rattle.octet_reading.specs.Names.{name_at}
use Rattle.octet_reading.specs.Laws.{TellsName}
use Rattle.octet_reading.specs.Readers.{text_at}
use Rattle.octet_reading.proofs.Base.{name_read}
use Rattle.octet_reading.proofs.Rules.{err_is}
use Rattle.octet_reading.proofs.Texts.{all_from}
use Rattle.octet_reading.proofs.Told.{names_are_told}
use Rattle.set_fields.proofs.Fields.{fields_are_read}
use Rattle.set_fields.proofs.Textual.{texts_read}
use Rattle.set_fields.specs.TextsOfRouting.{IsText, IsIdent, IsRegion, IsSubdivision, IsLocation, is_printable, is_region_byte, is_subdivision_byte, is_location_byte}
use Rattle.set_fields.specs.Octets.{text_octets, is_capital}
use Rattle.set_fields.specs.Laws.{IsCountry}
use Rattle.set_fields.specs.Texts.{country_at, ident_at, region_at, sub_at, begins_with_star, location_at}
use Rattle.fault_places.specs.Fields.{Stops}
use Rattle.fault_places.specs.Fields.Ending.{Open}
use Rattle.fault_places.proofs.Steps.{Faults, Dead, dead_by, one_field, field_faults, open_meets}

-- why one of these fields stops
abbrev Stopping : {A : Type 0} → (A → Type 0) → (A → List ℕ) → List ℕ → ℕ → Type 0
Stopping {A = A} is octets_of octets left =
    (x : A) × is x × Stops Open (octets_of x) octets left (Dead is octets_of octets)

missing : {A : Type 0} {is : A → Type 0} (octets_of : A → List ℕ) (octets : List ℕ) (left : ℕ)
    (x : A) → is x → (more : List ℕ) → 0 < length more → octets ++ more ≡ octets_of x → 0 ≡ left
    → Stopping is octets_of octets left
missing octets_of octets left x h more some goes e = (x, h, inl (sym e, (more, some, goes)))

faulty : {A : Type 0} {is : A → Type 0} (octets_of : A → List ℕ) (octets : List ℕ) (left : ℕ)
    (x : A) → is x → length octets ≡ left → Dead is octets_of octets
    → Stopping is octets_of octets left
faulty octets_of octets left x h e dead = (x, h, inr (omega (arith, e), tt, dead))

-- some name; and each has an octet
some_name : (labels : List (List ℕ)) → 0 < length (wire labels)
some_name labels = omega (arith, length-append (flat_map frame labels) (0 ∷ []))

pub root_is : IsName []
root_is = record {
  raw = record { each = tt; fits = omega arith };
  lower = tt;
  octets = tt;
}

name_told : (octets : List ℕ) (left : ℕ) → TellsName octets (Err left)
    → Stopping IsName wire octets left
name_told octets left (inl t) =
    let c = t.1 in
    missing wire octets left c.labels c.begins.name c.more
    (by_more c.more c.labels c.begins.name (c.begins.spelled ∙ append-nil (wire c.labels)))
    (c.begins.spelled ∙ append-nil (wire c.labels)) (sym t.0)
  where
    by_more : (more : List ℕ) (labels : List (List ℕ)) → IsName labels
        → octets ++ more ≡ wire labels → 0 < length more
    by_more [] labels is e =
        absurd (t.1.not_yet labels [] (record {
          name = is;
          spelled = sym (append-nil octets) ∙ e ∙ sym (append-nil (wire labels));
        }))
    by_more (b ∷ more) labels is e = omega arith
name_told octets left (inr t) =
    faulty wire octets left [] root_is (sym t.0)
    (λ labels more rest is e. t.1 more labels rest (record { name = is; spelled = e }))

pub name_faults : Faults IsName (one_field wire Open) name_at
name_faults = field_faults wire Open name_at (open_meets wire name_read) (λ labels h. some_name labels) (λ octets left are e.
    name_told octets left (subst (TellsName octets) e (names_are_told octets are)))

-- the letters of a country
two_letters : (a b : ℕ) → is_capital a ≡ true → is_capital b ≡ true → IsCountry (a ∷ b ∷ [])
two_letters a b p q = record { two = refl; capital = (p, (q, tt)) }

one_letter : (a left : ℕ) (t : Bool) → is_capital a ≡ t
    → cond {A = Result (List ℕ × List ℕ) ℕ} t (Err 0) (Err 1) ≡ Err left
    → Stopping IsCountry (λ letters. letters) (a ∷ []) left
unfolding country_at
one_letter a left true p e =
    missing (λ letters. letters) (a ∷ []) left (a ∷ 0x41 ∷ []) (two_letters a 0x41 p refl)
    (0x41 ∷ []) (omega arith) refl (err_is {A = List ℕ × List ℕ} 0 left e)
one_letter a left false p e =
    faulty (λ letters. letters) (a ∷ []) left (0x41 ∷ 0x41 ∷ []) (two_letters 0x41 0x41 refl refl)
    (omega (arith, err_is {A = List ℕ × List ℕ} 1 left e))
    (dead_by fields_are_read.countries (a ∷ []) stops)
  where
    stops : (more : List ℕ) → (l : ℕ) × (country_at ((a ∷ []) ++ more) ≡ Err l)
    stops [] = (1, rw p refl)
    stops (b ∷ more) = (length more + 2, rw p refl)

both_letters : (a b : ℕ) (rest : List ℕ) (left : ℕ) (t : Bool)
    → (is_capital a && is_capital b) ≡ t
    → cond {A = Result (List ℕ × List ℕ) ℕ} t (Ok (a ∷ b ∷ [], rest)) (Err (length rest + 2))
    ≡ Err left
    → Stopping IsCountry (λ letters. letters) (a ∷ b ∷ rest) left
unfolding country_at
both_letters a b rest left true p e =
    absurd (let k : Ok (a ∷ b ∷ [], rest) ≡ Err left = e in cc)
both_letters a b rest left false p e =
    faulty (λ letters. letters) (a ∷ b ∷ rest) left (0x41 ∷ 0x41 ∷ [])
    (two_letters 0x41 0x41 refl refl)
    (omega (arith, err_is {A = List ℕ × List ℕ} (length rest + 2) left e))
    (dead_by fields_are_read.countries (a ∷ b ∷ rest)
    (λ more. (length (rest ++ more) + 2, rw p refl)))

country_stops : (octets : List ℕ) (left : ℕ) → country_at octets ≡ Err left
    → Stopping IsCountry (λ letters. letters) octets left
unfolding country_at
country_stops [] left e =
    missing (λ letters. letters) [] left (0x41 ∷ 0x41 ∷ []) (two_letters 0x41 0x41 refl refl)
    (0x41 ∷ 0x41 ∷ []) (omega arith) refl (err_is {A = List ℕ × List ℕ} 0 left e)
country_stops (a ∷ []) left e = one_letter a left (is_capital a) refl e
country_stops (a ∷ b ∷ rest) left e =
    both_letters a b rest left (is_capital a && is_capital b) refl e

pub country_faults : Faults IsCountry (one_field (λ letters. letters) Open) country_at
country_faults = field_faults (λ letters. letters) Open country_at (open_meets (λ letters. letters) fields_are_read.countries) (λ letters h. omega (arith, h.two))
    (λ octets left are e. country_stops octets left e)

-- so many of one byte
abbrev fill : (b n : ℕ) → List ℕ
fill b zero = []
fill b (suc n) = b ∷ fill b n

fill_size : (b n : ℕ) → length (fill b n) ≡ n
fill_size b zero = refl
fill_size b (suc n) = omega (arith, fill_size b n)

filled : (P : ℕ → Type 0) (b n : ℕ) (front : List ℕ) → P b → AllByRecursion P front
    → AllByRecursion P (front ++ fill b n)
filled P b zero [] p h = tt
filled P b (suc n) [] p h = (p, filled P b n [] p tt)
filled P b n (c ∷ front) p h = (h.0, filled P b n front p h.1)

take_all : (n : ℕ) (xs : List ℕ) → length xs ≤ n → take n xs ≡ xs
take_all zero [] h = refl
take_all (suc n) [] h = refl
take_all zero (x ∷ xs) h = absurd (omega (arith, h))
take_all (suc n) (x ∷ xs) h = ap (λ t. x ∷ t) (take_all n xs (omega (arith, h)))

-- the front of octets that pass a test passes it
front_all : (test : ℕ → Bool) (n : ℕ) (rest more : List ℕ)
    → list_all test (take n (rest ++ more)) ≡ true → list_all test (take n rest) ≡ true
front_all test zero [] more h = refl
front_all test (suc n) [] more h = refl
front_all test zero (b ∷ rest) more h = refl
front_all test (suc n) (b ∷ rest) more h =
    let p = and_parts (test b) (list_all test (take n (rest ++ more))) h in
    and_from (test b) (list_all test (take n rest)) p.0 (front_all test n rest more p.1)

not_false : (b : Bool) → not b ≡ false → b ≡ true
not_false true e = refl
not_false false e = absurd cc

refused_ok : {A : Type 0} (b : Bool) (left : ℕ) (read : Result A ℕ) (y : A)
    → cond b (Err left) read ≡ Ok y → b ≡ false
refused_ok true left read y e = absurd cc
refused_ok false left read y e = refl

module _ (is_plain : ℕ → Bool) (most plain_byte : ℕ) (is_plain_byte : is_plain plain_byte ≡ true)
    (some : 1 ≤ most) where
  abbrev bad : ℕ → List ℕ → Bool
  bad n rest = nat_lt n 1 || nat_lt most n || not (list_all is_plain (take n rest))

  least : IsText is_plain most (plain_byte ∷ [])
  least = record { filled = omega arith; short = omega (arith, some); plain = (is_plain_byte, tt) }

  -- what more octets can't mend
  stays_bad : (n : ℕ) (rest more : List ℕ) → bad n (rest ++ more) ≡ false → bad n rest ≡ false
  stays_bad n rest more h =
      let p = or_parts (nat_lt n 1 || nat_lt most n)
      (not (list_all is_plain (take n (rest ++ more)))) h in
      or_from (nat_lt n 1 || nat_lt most n) (not (list_all is_plain (take n rest))) p.0
      (not_from_true _ (front_all is_plain n rest more (not_false _ p.1)))

  bad_is_dead : (n : ℕ) (rest : List ℕ) → bad n rest ≡ true
      → Dead (IsText is_plain most) text_octets (n ∷ rest)
  unfolding text_at
  bad_is_dead n rest is_bad x more others h e =
      let r : text_at is_plain most (n ∷ (rest ++ more)) ≡ Ok (x, others) =
      ap (text_at is_plain most) e ∙ (texts_read is_plain most).again x others h in
      let good =
      refused_ok (bad n (rest ++ more)) (length (rest ++ more) + 1)
      (cond (nat_lt (length (rest ++ more)) n) (Err 0)
      (Ok (take n (rest ++ more), drop n (rest ++ more)))) (x, others) r in
      let k : true ≡ false = sym is_bad ∙ stays_bad n rest more good in cc

  goes_on : (n : ℕ) (rest : List ℕ) (left : ℕ) → bad n rest ≡ false → length rest < n → 0 ≡ left
      → Stopping (IsText is_plain most) text_octets (n ∷ rest) left
  goes_on n rest left good few e =
      let p = or_parts (nat_lt n 1 || nat_lt most n) (not (list_all is_plain (take n rest))) good in
      let q = or_parts (nat_lt n 1) (nat_lt most n) p.0 in
      let fits = ltb-false most n q.1 in
      let later = fill plain_byte (n - length rest) in
      let text = rest ++ later in
      let size : length text ≡ n =
      omega (
        arith,
        length-append rest later,
        fill_size plain_byte (n - length rest),
        few,
      ) in
      let plain : AllByRecursion (λ b. is_plain b ≡ true) rest =
      all_from is_plain rest
      (ap (list_all is_plain) (sym (take_all n rest (omega (arith, few)))) ∙ not_false _ p.1) in
      missing text_octets (n ∷ rest) left text
      (record {
        filled = omega (arith, size, few);
        short = omega (arith, size, fits);
        plain = filled (λ b. is_plain b ≡ true) plain_byte (n - length rest) rest is_plain_byte
            plain;
      })
      later (omega (arith, fill_size plain_byte (n - length rest), few))
      (ap (λ k. k ∷ text) (sym size)) e

  by_tests : (n : ℕ) (rest : List ℕ) (left : ℕ) (b c : Bool) → bad n rest ≡ b
      → nat_lt (length rest) n ≡ c
      → cond {A = Result (List ℕ × List ℕ) ℕ} b (Err (length rest + 1))
      (cond c (Err 0) (Ok (take n rest, drop n rest))) ≡ Err left
      → Stopping (IsText is_plain most) text_octets (n ∷ rest) left
  by_tests n rest left true c p q e =
      faulty text_octets (n ∷ rest) left (plain_byte ∷ []) least
      (omega (arith, err_is {A = List ℕ × List ℕ} (length rest + 1) left e))
      (bad_is_dead n rest p)
  by_tests n rest left false true p q e =
      goes_on n rest left p (ltb-true (length rest) n q) (err_is {A = List ℕ × List ℕ} 0 left e)
  by_tests n rest left false false p q e =
      absurd (let k : Ok (take n rest, drop n rest) ≡ Err left = e in cc)

  pub text_stops : (octets : List ℕ) (left : ℕ) → text_at is_plain most octets ≡ Err left
      → Stopping (IsText is_plain most) text_octets octets left
  unfolding text_at
  text_stops [] left e =
      missing text_octets [] left (plain_byte ∷ []) least (1 ∷ plain_byte ∷ []) (omega arith) refl
      (err_is {A = List ℕ × List ℕ} 0 left e)
  text_stops (n ∷ rest) left e =
      by_tests n rest left (bad n rest) (nat_lt (length rest) n) refl refl e

  pub text_faults : Faults (IsText is_plain most) (one_field text_octets Open)
      (text_at is_plain most)
  text_faults = field_faults text_octets Open (text_at is_plain most) (open_meets text_octets (texts_read is_plain most)) (λ text h. omega arith)
      (λ octets left are e. text_stops octets left e)

pub ident_faults : Faults IsIdent (one_field text_octets Open) ident_at
ident_faults = text_faults is_printable 128 0x61 refl (omega arith)

pub region_faults : Faults IsRegion (one_field text_octets Open) region_at
region_faults = text_faults is_region_byte 32 0x61 refl (omega arith)

pub sub_faults : Faults IsSubdivision (one_field text_octets Open) sub_at
sub_faults = text_faults is_subdivision_byte 3 0x41 refl (omega arith)

-- a location: `*`, or a name
a_name : IsText is_location_byte 16 (0x61 ∷ [])
a_name = record { filled = omega arith; short = omega arith; plain = (refl, tt) }

star_dead : (octets : List ℕ) (left : ℕ) → begins_with_star octets ≡ false
    → text_at is_location_byte 16 octets ≡ Err left → left + 0 ≡ length octets
    → Dead (IsText is_location_byte 16) text_octets octets
    → (more rest : List ℕ) → octets ++ more ≡ 1 ∷ 0x2A ∷ rest → ⊥
unfolding text_at
star_dead [] left star e size dead more rest same =
    dead (0x61 ∷ []) (1 ∷ 0x61 ∷ []) [] a_name refl
star_dead (n ∷ []) left star e size dead more rest same =
    let one : n ≡ 1 = cc in
    let f : text_at is_location_byte 16 (1 ∷ []) ≡ Err left =
    subst (λ k. text_at is_location_byte 16 (k ∷ []) ≡ Err left) one e in
    let k : ⊥ = omega (arith, size, err_is {A = List ℕ × List ℕ} 0 left f) in k
star_dead (n ∷ b ∷ others) left star e size dead more rest same =
    let one : n ≡ 1 = cc in
    let byte : b ≡ 0x2A = cc in
    let k : (1 == 1 && b == 0x2A) ≡ false = subst (λ i. (i == 1 && b == 0x2A) ≡ false) one star in
    let l : true ≡ false = subst (λ j. (1 == 1 && j == 0x2A) ≡ false) byte k in cc

location_from : (octets : List ℕ) (left : ℕ) → begins_with_star octets ≡ false
    → text_at is_location_byte 16 octets ≡ Err left
    → Stopping (IsText is_location_byte 16) text_octets octets left
    → Stopping IsLocation text_octets octets left
location_from octets left star e (x, h, inl m) = (x, inl h, inl m)
location_from octets left star e (x, h, inr m) = (x, inl h, inr (m.0, tt, dead))
  where
    dead : Dead IsLocation text_octets octets
    dead y more rest (inl k) same = m.2 y more rest k same
    dead y more rest (inr k) same =
        star_dead octets left star e m.0 m.2 more rest
        (same ∙ ap (λ t. text_octets t ++ rest) k)

by_star : (octets : List ℕ) (left : ℕ) (b : Bool) → begins_with_star octets ≡ b
    → cond {A = Result (List ℕ × List ℕ) ℕ} b (Ok (0x2A ∷ [], drop 2 octets))
    (text_at is_location_byte 16 octets) ≡ Err left
    → Stopping IsLocation text_octets octets left
by_star octets left true p e =
    absurd (let k : Ok (0x2A ∷ [], drop 2 octets) ≡ Err left = e in cc)
by_star octets left false p e =
    location_from octets left p e
    (text_stops is_location_byte 16 0x61 refl (omega arith) octets left e)

location_stops : (octets : List ℕ) (left : ℕ) → location_at octets ≡ Err left
    → Stopping IsLocation text_octets octets left
unfolding location_at
location_stops octets left e = by_star octets left (begins_with_star octets) refl e

pub location_faults : Faults IsLocation (one_field text_octets Open) location_at
location_faults = field_faults text_octets Open location_at (open_meets text_octets fields_are_read.locations) (λ text h. omega arith)
    (λ octets left are e. location_stops octets left e)
