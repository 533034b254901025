-- The laws: what reading tells, and where octets stop.
use Rattle.std.proofs.Common.{◌≡◌, ℕ, ◌+◌, ◌-◌, ◌≤◌, ◌<◌, inl, inr, Bool, true, false, List, [], ◌∷◌, ◌++◌, length, arith, ap, ◌∙◌, sym, refl, subst, eqb, cond, length-append, Result, Ok, Err}
use Rattle.std.proofs.lemmas.Bool.{eqb-true}
use Rattle.rdata_layout.specs.Names.{AreOctets}
use Rattle.octet_reading.specs.Readers.{alone, by_place}
use Rattle.octet_reading.specs.Reading.{◌>>=◌}
use Rattle.octet_reading.specs.Rules.{IsReadAs}
use Rattle.octet_reading.proofs.Rules.{err_is}
use Rattle.set_fields.proofs.Fields.{fields_are_read}
use Rattle.set_reading.proofs.Whole.{written_reads_back, sets_are_told}
use Rattle.snapshot_octets.specs.Configs.{Config}
use Rattle.snapshot_octets.specs.Reading.{versioned_at, unversioned, read}
use Rattle.snapshot_octets.proofs.Fields.{IsIn, octets_in, front_read}
use Rattle.fault_places.specs.Fields.{Field, StandsBehind, StopsIn, led_by}
use Rattle.fault_places.proofs.Places.{none_begins, one_stop}
use Rattle.fault_places.proofs.Steps.{stands_whole}
use Rattle.snapshot_faults.specs.Snapshots.{fields_of, octets_of_snapshot, IsSnapshotInGrammar, HasLongSetAt, HasSurplusAt}
use Rattle.snapshot_faults.specs.Laws.{SnapshotsAreFields, NoFieldIsEmpty, SnapshotStopsAt, GoesOn, FaultsStandFirst, HasFaultAt, SnapshotFaultsAsTold, OneFaultOfSnapshots}
use Rattle.command_faults.proofs.Long.{remains}
use Rattle.snapshot_faults.proofs.Snapshots.{any_front_at, front_part}
use Rattle.snapshot_faults.proofs.Long.{front_agrees, long_of, long_is_front}

pub snapshots_are_fields : SnapshotsAreFields
snapshots_are_fields versioned = sym (front_part.spells versioned)

pub no_field_is_empty : NoFieldIsEmpty
no_field_is_empty = front_part.told.places.filled

front : IsReadAs IsIn octets_in versioned_at
front = front_read (written_reads_back fields_are_read) (sets_are_told fields_are_read)

-- ---- octets as a whole

abbrev answer : (octets : List ℕ) → Result ((ℕ × Config) × List ℕ) ℕ → Result Config ℕ
answer octets parts = unversioned (by_place (length octets) (parts >>= alone))

read_is : (octets : List ℕ) → read octets ≡ answer octets (versioned_at octets)
unfolding read
read_is octets = refl

-- where reading its front stops
front_stops : (octets : List ℕ) (place left : ℕ) → versioned_at octets ≡ Err left
    → place + left ≡ length octets → read octets ≡ Err place
front_stops octets place left e size =
    let same : length octets - left ≡ place = omega (arith, size) in
    read_is octets ∙ ap (answer octets) e ∙ ap Err same

some_is : (n : ℕ) → 0 < n → eqb n 0 ≡ false
some_is n some = go (eqb n 0) refl
  where
    go : (b : Bool) → eqb n 0 ≡ b → eqb n 0 ≡ false
    go true e = absurd (omega (arith, eqb-true n 0 e, some))
    go false e = e

behind_it : (octets surplus : List ℕ) (what : ℕ × Config) → 0 < length surplus
    → answer octets (Ok (what, surplus)) ≡ Err (length octets - length surplus)
behind_it octets surplus what some =
    ap (λ b. unversioned (by_place (length octets)
    (cond {A = Result (ℕ × Config) ℕ} b (Ok what) (Err (length surplus)))))
    (some_is (length surplus) some)

surplus_is_told : (octets : List ℕ) (place : ℕ) → HasSurplusAt octets place
    → read octets ≡ Err place
surplus_is_told octets place s =
    let parts : versioned_at octets ≡ Ok ((s.is.version, s.config), s.surplus) =
    ap versioned_at (s.parts ∙ ap (λ t. t ++ s.surplus) s.is.spelled)
    ∙ front.again (s.is.version, s.config) s.surplus s.is.has in
    let same : length octets - length s.surplus ≡ place =
    omega (arith, ap length s.parts, length-append s.front s.surplus, s.behind) in
    read_is octets ∙ ap (answer octets) parts
    ∙ behind_it octets s.surplus (s.is.version, s.config) s.some ∙ ap Err same

-- ---- what reading tells

none_before : (octets : List ℕ) (place left : ℕ) → versioned_at octets ≡ Err left
    → place + left ≡ length octets → (other : ℕ) → HasLongSetAt octets other → other < place → ⊥
none_before octets place left e size other h less =
    let f = long_is_front octets other h in
    let same : f.0 ≡ left =
    err_is {A = (ℕ × Config) × List ℕ} f.0 left (sym f.1 ∙ e) in
    let k : ⊥ = omega (arith, same, f.2, size, less) in k

told_by_front : (octets : List ℕ) (place left : ℕ) → AreOctets octets → versioned_at octets ≡ Err left
    → place + left ≡ length octets → HasFaultAt octets place
told_by_front octets place left are e size =
    elim (front_agrees octets are) [
      | inl same ↦
          inl (
            record {
              left = left;
              behind = size;
              stops = front_part.told.told octets left are (sym same ∙ e);
            },
            none_before octets place left e size,
          )
      | inr w ↦
          let l = long_of octets w.0 w.2 in
          let s : w.0 ≡ left = err_is {A = (ℕ × Config) × List ℕ} w.0 left (sym w.1 ∙ e) in
          let p : l.0 ≡ place = omega (arith, l.2, size, s) in
          inr (inl (subst (HasLongSetAt octets) p l.1))
    ]

told : (octets : List ℕ) (place : ℕ) (parts : Result ((ℕ × Config) × List ℕ) ℕ) → AreOctets octets
    → versioned_at octets ≡ parts → answer octets parts ≡ Err place → HasFaultAt octets place
told octets place (Ok (what, [])) are f e =
    absurd (let k : Ok what.1 ≡ Err place = e in cc)
told octets place (Ok (what, b ∷ surplus)) are f e =
    let s = front.stands octets what (b ∷ surplus) are f in
    let same : length octets - length (b ∷ surplus) ≡ place =
    err_is {A = Config} (length octets - length (b ∷ surplus)) place
    (sym (behind_it octets (b ∷ surplus) what (omega arith)) ∙ e) in
    inr (inr (record {
      front = octets_in what;
      surplus = b ∷ surplus;
      config = what.1;
      is = record { version = what.0; has = s.1; spelled = refl };
      some = omega arith;
      parts = s.0;
      behind = omega (arith, same, ap length s.0, length-append (octets_in what) (b ∷ surplus));
    }))
told octets place (Err left) are f e =
    let same : length octets - left ≡ place = err_is {A = Config} (length octets - left) place e in
    told_by_front octets place left are f (omega (arith, same, front.fault octets left f))

-- ---- octets that stop are told

no_snapshot : (octets : List ℕ) (left : ℕ) → StopsIn IsSnapshotInGrammar fields_of octets left
    → (versioned : ℕ × Config) (rest : List ℕ) → IsSnapshotInGrammar versioned
    → octets ≡ octets_of_snapshot versioned ++ rest → ⊥
no_snapshot octets left s versioned rest is e =
    none_begins front_part.told.places octets left s versioned rest is
    (e ∙ ap (λ t. t ++ rest) (snapshots_are_fields versioned))

stop_read : (octets : List ℕ) (left : ℕ) → AreOctets octets
    → StopsIn IsSnapshotInGrammar fields_of octets left → any_front_at octets ≡ Err left
stop_read octets left are s = go (any_front_at octets) refl
  where
    go : (r : Result ((ℕ × Config) × List ℕ) ℕ) → any_front_at octets ≡ r → r ≡ Err left
    go (Ok x) e =
        let t = front_part.reads.stands octets x.0 x.1 are e in
        absurd (no_snapshot octets left s x.0 x.1 t.1 t.0)
    go (Err other) e =
        ap Err (one_stop front_part.told.places octets other left
        (front_part.told.told octets other are e) s)

stops_told : (octets : List ℕ) (place : ℕ) → AreOctets octets → SnapshotStopsAt octets place
    → ((other : ℕ) → HasLongSetAt octets other → other < place → ⊥) → read octets ≡ Err place
stops_told octets place are s none =
    let any = stop_read octets s.left are s.stops in
    elim (front_agrees octets are) [
      | inl same ↦ front_stops octets place s.left (same ∙ any) s.behind
      | inr w ↦
          let l = long_of octets w.0 w.2 in
          let size : remains (any_front_at octets) ≡ s.left = ap remains any in
          absurd (none l.0 l.1 (omega (arith, l.2, s.behind, w.3, size)))
    ]

has_told : (octets : List ℕ) (place : ℕ) → AreOctets octets → HasFaultAt octets place
    → read octets ≡ Err place
has_told octets place are (inl s) = stops_told octets place are s.0 s.1
has_told octets place are (inr (inl h)) =
    let f = long_is_front octets place h in front_stops octets place f.0 f.1 f.2
has_told octets place are (inr (inr s)) = surplus_is_told octets place s

pub snapshot_faults_as_told : SnapshotFaultsAsTold
snapshot_faults_as_told octets place are = (
  (λ e. told octets place (versioned_at octets) are refl (sym (read_is octets) ∙ e)),
  has_told octets place are,
)

pub one_fault_of_snapshots : OneFaultOfSnapshots
one_fault_of_snapshots octets place other are h k =
    err_is {A = Config} place other
    (sym (has_told octets place are h) ∙ has_told octets other are k)

-- ---- the fields before the place

goes_on : (before : List ℕ) (versioned : ℕ × Config) (field : Field)
    → IsSnapshotInGrammar versioned → StandsBehind before field (fields_of versioned)
    → GoesOn before
goes_on before versioned field is stands =
    let w = stands_whole before field (fields_of versioned) stands in
    (versioned, field.octets ++ w.0, is, sym w.1 ∙ sym (snapshots_are_fields versioned))

pub faults_stand_first : FaultsStandFirst
faults_stand_first octets place s = (
  goes_on s.stops.before s.stops.value s.stops.field s.stops.good s.stops.stands,
  (elim s.stops.why [ inl m ↦ at_end m.0 | inr m ↦ at_field m.0 ]),
  (elim s.stops.why [
    | inl m ↦ inl (omega (arith, s.behind, m.0))
    | inr m ↦ inr (λ versioned more rest is e.
        m.2.whole versioned more rest is
        (ap (λ t. t ++ more) (sym s.stops.parts) ∙ e
        ∙ ap (λ t. t ++ rest) (snapshots_are_fields versioned)))
  ]),
)
  where
    size : length octets ≡ length s.stops.before + length s.stops.here
    size = ap length s.stops.parts ∙ length-append s.stops.before s.stops.here

    at_end : s.left ≡ 0 → length s.stops.before ≤ place
    at_end e = omega (arith, size, s.behind, e)

    at_field : s.left + led_by s.stops.field.ending ≡ length s.stops.here
        → length s.stops.before ≤ place
    at_field e = omega (arith, size, s.behind, e)
