-- A set at the front of octets.
use Rattle.std.proofs.Common.{◌≡◌, ℕ, ◌-◌, ◌≤◌, Bool, true, false, List, ◌++◌, length, arith, ap, ◌∙◌, sym}
use Rattle.std.proofs.Common.{refl, subst, cond, length-append, Result, Ok, Err}
use Rattle.std.specs.Prelude.{nat_lt, IfOk}
use Rattle.std.proofs.lemmas.Bool.{ltb-false, le-ltb}
use Rattle.set_fields.proofs.Digits.{ok_is}
use Rattle.set_fields.specs.NamesOfDnsName.{AreOctets}
use Rattle.set_fields.specs.RecordSetRecord.{RecordSet}
use Rattle.set_reading.specs.declared.faults.ReadFault.{ReadFault}
use Rattle.set_reading.specs.Gives.{GivesSet}
use Rattle.set_reading.specs.Laws.{OneSpelling, WrittenReadsBack, TellsSet, SetsAreTold}
use Rattle.set_fields.specs.Octets.{set_octets, most_octets}
use Rattle.set_fields.specs.Laws.{FieldsAreRead}
use Rattle.set_reading.specs.Reading.{set_at, by_place, read}
use Rattle.set_reading.specs.Sets.{BeginsWithSet}
use Rattle.set_reading.proofs.Answering.{set_read}

-- a test that refuses
guard_ok : {A : Type 0} (b : Bool) (left : ℕ) (read : Result A ℕ) (y : A)
    → cond b (Err left) read ≡ Ok y → (b ≡ false) × (read ≡ Ok y)
guard_ok true left read y e = absurd cc
guard_ok false left read y e = (refl, e)

-- the place of a fault
refused : (b : Bool) (y : RecordSet × ℕ) (place : ℕ) → cond b (Err 0) (Ok y) ≡ Err place → 0 ≡ place
refused true y place e = cc
refused false y place e = absurd cc

placed_inside : (total : ℕ) (parts : Result (RecordSet × List ℕ) ℕ) (place : ℕ)
    → by_place total parts ≡ Err place → place ≤ total
placed_inside total (Ok x) place e = let first = refused (nat_lt most_octets (total - length x.1))
    (x.0, total - length x.1) place e in omega (arith, first)
placed_inside total (Err left) place e = let same : total - left ≡ place = cc in omega (arith, same)

inside : (octets : List ℕ) (place : ℕ) → read octets ≡ Err place → place ≤ length octets
unfolding read
inside octets place e = placed_inside (length octets) (set_at octets) place e

-- a set that is no longer than sets may be
placed_ok : (total : ℕ) (x : RecordSet × List ℕ) (n : ℕ) → total - length x.1 ≡ n → n ≤ most_octets
    → by_place total (Ok x) ≡ Ok (x.0, n)
placed_ok total x n size short =
    let fits : nat_lt most_octets n ≡ false = le-ltb most_octets n short in
    rw (size, fits) refl

module _ (fields : FieldsAreRead) where
  found : (octets : List ℕ) (parts : Result (RecordSet × List ℕ) ℕ) (y : RecordSet × ℕ)
      → AreOctets octets
      → set_at octets ≡ parts → by_place (length octets) parts ≡ Ok y → BeginsWithSet octets y.0 y.1
  found octets (Ok x) y bytes s e =
      let n = length octets - length x.1 in
      let g = guard_ok (nat_lt most_octets n) 0 (Ok (x.0, n)) y e in
      let stands = (set_read fields).stands octets x.0 x.1 bytes s in
      let size : n ≡ length (set_octets x.0) =
      omega (arith, ap length stands.0, length-append (set_octets x.0) x.1) in
      let short = ltb-false most_octets n g.0 in
      subst (λ (z : RecordSet × ℕ). BeginsWithSet octets z.0 z.1) (ok_is (x.0, n) y g.1) (record {
        rest = x.1;
        is = stands.1.is;
        has_spelling =
            record {
              routing = stands.1.routing;
              body = stands.1.body;
              of_type =
                  stands.1.of_type;
              short = omega (arith, size, short);
            };
        spelled = stands.0;
        size = size;
      })
  found octets (Err left) y bytes s e = absurd cc

  read_found : (octets : List ℕ) (y : RecordSet × ℕ) → AreOctets octets → read octets ≡ Ok y
      → BeginsWithSet octets y.0 y.1
  unfolding read
  read_found octets y bytes e = found octets (set_at octets) y bytes refl e

  read_again : (octets : List ℕ) (set : RecordSet) (n : ℕ) → BeginsWithSet octets set n
      → read octets ≡ Ok (set, n)
  unfolding read
  read_again octets set n b =
      let parts : set_at octets ≡ Ok (set, b.rest) = ap set_at b.spelled
      ∙ (set_read fields).again set b.rest
      (record {
        is = b.is;
        routing = b.has_spelling.routing;
        body = b.has_spelling.body;
        of_type =
            b.has_spelling.of_type;
      }) in
      let size : length octets - length b.rest ≡ n =
      omega (arith, ap length b.spelled, length-append (set_octets set) b.rest, b.size) in
      ap (by_place (length octets)) parts
      ∙ placed_ok (length octets) (
        set,
        b.rest,
      ) n size (omega (arith, b.size, b.has_spelling.short))

  pub is_found : (octets : List ℕ) (result : Result (RecordSet × ℕ) ReadFault) → AreOctets octets
      → GivesSet result (read octets) → IfOk result (λ r. BeginsWithSet octets r.0 r.1)
  is_found octets (Ok r) bytes e = read_found octets r bytes e
  is_found octets (Err fault) bytes e = tt

  pub is_only : (octets : List ℕ) (result : Result (RecordSet × ℕ) ReadFault)
      → GivesSet result (read octets)
      → (set : RecordSet) (n : ℕ) → BeginsWithSet octets set n → GivesSet result (Ok (set, n))
  is_only octets result e set n b = subst (GivesSet result) (read_again octets set n b) e

  pub written_reads_back : WrittenReadsBack
  written_reads_back set rest is spelling =
      read_again (set_octets set ++ rest) set (length (set_octets set))
      (record { rest = rest; is = is; has_spelling = spelling; spelled = refl; size = refl })

  pub one_spelling : OneSpelling
  one_spelling set other rest others is other_is spelling other_spelling e =
      let first = (set_read fields).again set rest
      (record {
        is = is;
        routing = spelling.routing;
        body = spelling.body;
        of_type =
            spelling.of_type;
      }) in
      let second = (set_read fields).again other others
      (record {
        is = other_is;
        routing = other_spelling.routing;
        body =
            other_spelling.body;
        of_type = other_spelling.of_type;
      }) in
      let same = ok_is (set, rest) (other, others) (sym first ∙ ap set_at e ∙ second) in
      (ap (λ (p : RecordSet × List ℕ). p.0) same, ap (λ (p : RecordSet × List ℕ). p.1) same)

  told : (octets : List ℕ) (result : Result (RecordSet × ℕ) ℕ) → AreOctets octets
      → read octets ≡ result → TellsSet octets result
  told octets (Ok x) bytes e = read_found octets x bytes e
  told octets (Err place) bytes e = (
    inside octets place e,
    λ set n b. let k : Err place
        ≡ Ok (set, n) = sym e ∙ read_again octets set n b in absurd cc,
  )

  pub sets_are_told : SetsAreTold
  sets_are_told octets are = told octets (read octets) are refl
