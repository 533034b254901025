-- How an index is left by a command by which the first evaluated alias comes that leads to a group.
use Rattle.std.proofs.Common.{◌≡◌, ◌≢◌, ◌≤◌, ◌<◌, ◌+◌, ◌++◌, ℕ, zero, suc, List, [], ◌∷◌, length, arith, refl, ap, sym, ◌∙◌, inl, inr, Some}
use Rattle.std.specs.Prelude.{slice_get}
use Rattle.std.proofs.lemmas.Bool.{cases_eq, false≢true}
use mathlib.Core.Path.{subst}
use Rattle.check_model.specs.Checks.{Checks}
use Rattle.health_standing.proofs.ByOne.{at_first}
use Rattle.health_standing.proofs.Counted.{all_plain, none_own}
use Rattle.health_standing.proofs.FoundCome.{ends_founded, founded_stands}
use Rattle.health_standing.proofs.Moving.{moved}
use Rattle.health_standing.proofs.Regrouped.{watched_on}
use Rattle.health_standing.proofs.Slots.{slot_in}
use Rattle.health_standing.proofs.TwoMore.{there}
use Rattle.health_standing.specs.Founding.{AreSeatedOwned, ComesFirst, ComesFirstOwned, Founds, FoundsOwned, refs_of, with_group, with_two_counts}
use Rattle.health_standing.specs.Index.{Index, IsIntact, Space, StandsFor}
use Rattle.health_standing.specs.Leading.{ComesToLead}
use Rattle.health_standing.specs.Leaving.{AreLeft, KeepsValves, SparesValves}
use Rattle.health_standing.specs.Regrouping.{HasCome}
use Rattle.health_model.specs.Laws.{PathsEnd}
use Rattle.health_model.specs.Sound.{IsSound}
use Rattle.health_model.specs.Statuses.{Report}
use Rattle.health_planning.proofs.Built.{last_there, still_there}
use Rattle.health_planning.proofs.Members.{one_named}
use Rattle.health_planning.specs.Building.{AreGiven, TellSlot}
use Rattle.health_planning.specs.Changes.{ref_in}
use Rattle.health_planning.specs.DeltaRecord.{Delta}
use Rattle.health_planning.specs.SetRefRecord.{SetRef}
use Rattle.health_planning.specs.Tables.{HaveSlotsApart}
use Rattle.health_planning.proofs.Wiring.{first_here, member_there}
use Rattle.health_planning.specs.Telling.{evaluates, target_of}
use Rattle.health_planning.specs.Wired.{AreMembers, group_seat, is_watched, own_part, plain_among, set_seat, valves_of, watched_of}
use Rattle.health_planning.specs.Zones.{AreZones, Zone, placed_in}
use Rattle.health_planning.specs.declared.seats.Seat.{Seat}
use Rattle.health_valves.specs.Pass.{IsIdle, MeetAll}
use Rattle.health_valves.specs.Valves.{Condition, HasEnds, Net, ValvesStandFor, size_of}
use Rattle.health_valves.specs.declared.valves.Valves.{Valves}
use Rattle.rdata_layout.specs.declared.types.RType.{RType}
use Rattle.record_set.specs.declared.sets.RecordSet.{RecordSet}
use Rattle.zone_model.specs.Slotted.{IsHere, Slotted}

-- ---- what holds of every index

-- what was noted is noted still, and so are these
still_noted : (xs ys : List SetRef) (k : ℕ) (r : SetRef) → slice_get xs k ≡ Some r → slice_get (xs ++ ys) k ≡ Some r
still_noted [] ys k r e = let no : ⊥ = cc in absurd no
still_noted (x ∷ xs) ys zero r e = e
still_noted (x ∷ xs) ys (suc k) r e = still_noted xs ys k r e

noted_behind : (xs ys : List SetRef) (k : ℕ) (r : SetRef) → slice_get ys k ≡ Some r
    → slice_get (xs ++ ys) (length xs + k) ≡ Some r
noted_behind [] ys k r e =
    let none : k ≡ 0 + k = omega arith in
    subst (λ (n : ℕ). slice_get ys n ≡ Some r) none e
noted_behind (x ∷ xs) ys k r e =
    let one : suc (length xs + k) ≡ suc (length xs) + k = omega arith in
    subst (λ (n : ℕ). slice_get (x ∷ xs ++ ys) n ≡ Some r) one (noted_behind xs ys k r e)

tell_noted : (zone : ℕ) (those : List Slotted) (p : Slotted) → IsHere those p → TellSlot (refs_of zone those) p.slot
tell_noted zone [] p m = absurd m
tell_noted zone (q ∷ those) p (inl same) = (0, (ref_in zone q, (refl, ap (λ (x : Slotted). x.slot) same)))
tell_noted zone (q ∷ those) p (inr later) =
    let t = tell_noted zone those p later in
    (suc t.0, (t.1.0, (t.1.1.0, t.1.1.1)))

given_founded : (refs noted listed noted_now : List SetRef) (seats now : List Seat) (ref : SetRef) (members : List Slotted)
    (told : ℕ) → AreSeatedOwned ref.slot members told seats now → listed ≡ refs ++ ref ∷ []
    → noted_now ≡ noted ++ refs_of ref.zone members → AreGiven refs noted seats → AreGiven listed noted_now now
given_founded refs noted listed noted_now seats now ref members told seated is is_noted given = record {
  sets = λ s some. subst (λ (l : List SetRef). TellSlot l s) (sym is) (elim (cases_eq s ref.slot) [
    | inl e ↦ (length refs, (ref, (last_there refs ref, sym e)))
    | inr apart ↦
        let t = given.sets s (λ bare. some (ap own_part (seated.sets s apart).0 ∙ bare)) in
        (t.0, (t.1.0, (still_there refs ref t.1.0 t.0 t.1.1.0, t.1.1.1)))
  ]);
  groups = λ s some. subst (λ (l : List SetRef). TellSlot l s) (sym is_noted) (elim (cases_eq s ref.slot) [
    | inl e ↦ absurd (some (ap (group_seat now) e ∙ seated.none))
    | inr apart ↦ elim (slot_in members s) [
      | inl has ↦
          let t = tell_noted ref.zone members has.0 has.1 in
          (length noted + t.0, (t.1.0, (noted_behind noted (refs_of ref.zone members) t.0 t.1.0 t.1.1.0, t.1.1.1 ∙ has.2)))
      | inr none ↦
          let o = seated.others s apart (λ h. none h.0 h.1 h.2) in
          let t = given.groups s (λ bare. some (o ∙ bare)) in
          (t.0, (t.1.0, (still_noted noted (refs_of ref.zone members) t.0 t.1.0 t.1.1.0, t.1.1.1)))
    ]
  ]);
}

-- what nothing fed, nothing feeds
still_alone : (net : Net) (own : ℕ → ℕ) (fed feeders : List ℕ) (sets valve : ℕ) → valve < net.size
    → (net.condition valve).feeders ≡ [] → ((with_group fed feeders net).condition valve).feeders ≡ []
still_alone net own fed feeders sets valve low alone =
    ap (λ (c : Condition). c.feeders) (there fed feeders sets net own valve low) ∙ alone

pub whole_founded : (index : Index) (w : IsIntact index) (valves : Valves) (fed feeders : List ℕ) (sets : ℕ) (now : List Seat)
    (ref : SetRef) (members : List Slotted) (listed noted : List SetRef) (space : Space) → 200 ≤ size_of index.valves
    → ValvesStandFor (with_group fed feeders w.net) (with_two_counts sets w.net.size w.own) valves
    → IsIdle valves → AreSeatedOwned ref.slot members (suc (size_of index.valves)) index.seats now
    → listed ≡ index.refs ++ ref ∷ [] → noted ≡ index.members ++ refs_of ref.zone members
    → IsIntact (record index { seats = now; refs = listed; members = noted; valves = valves; space = space })
whole_founded index w valves fed feeders sets now ref members listed noted space many fits idle seated is is_noted = record {
  net = with_group fed feeders w.net;
  own = with_two_counts sets w.net.size w.own;
  fits = fits;
  idle = idle;
  as_many = w.as_many;
  apart = w.apart;
  numbers = w.numbers;
  within = λ place valve at. (let low = w.within place valve at in omega (arith, low));
  seated = λ s valve tells. elim (cases_eq s ref.slot) [
    | inl e ↦
        let told = ap (set_seat now) (sym e) in
        let its = seated.own in
        let size = w.fits.laid.size in
        omega (arith, told, its, size, tells)
    | inr apart ↦
        let low = w.seated s valve (sym (seated.sets s apart).0 ∙ tells) in
        omega (arith, low)
  ];
  given = given_founded index.refs index.members listed noted index.seats now ref members (suc (size_of index.valves)) seated is is_noted w.given;
  alone = λ place valve its at numbered.
      still_alone w.net w.own fed feeders sets valve (w.within place valve numbered) (w.alone place valve its at numbered);
  spare = λ valve free.
      let low = free.0 in
      let size = w.fits.laid.size in
      still_alone w.net w.own fed feeders sets valve (omega (arith, low, size, many)) (w.spare valve free);
}

-- ---- what an index is then

pub index_founded : (index now : Index) (seats : List Seat) (listed noted : List SetRef) (valves : Valves) (space : Space)
    → index ≡ now → space ≡ index.space
    → record index { seats = seats; refs = listed; members = noted; valves = valves; space = space }
    ≡ record now { seats = seats; refs = listed; members = noted; valves = valves }
index_founded index now seats listed noted valves space same room =
    subst (λ (i : Index). record index { seats = seats; refs = listed; members = noted; valves = valves; space = space }
    ≡ record i { seats = seats; refs = listed; members = noted; valves = valves }) same
    (ap (λ (s : Space). record index { seats = seats; refs = listed; members = noted; valves = valves; space = s }) room)

-- ---- commands

pub founded_by : (before after : List Zone) (old new : Checks) (reports : List Report) (index : Index)
    (delta : Delta) (stands : StandsFor before old reports index) → AreZones after → HaveSlotsApart after
    → IsSound (watched_of after new) → PathsEnd → (valves : Valves) (space : Space) (now : List Seat)
    (listed noted : List SetRef) (ref : SetRef) (members : List Slotted) (feeders : List ℕ)
    → ((net : Net) (own : ℕ → ℕ) → ValvesStandFor net own index.valves
    → ValvesStandFor (with_group (valves_of index.seats members) feeders net)
    (with_two_counts (plain_among index.seats members) net.size own) valves)
    → ((net : Net) (own : ℕ → ℕ) → ValvesStandFor net own index.valves
    → HasEnds (with_group (valves_of index.seats members) feeders net) → MeetAll net own index.valves
    → MeetAll (with_group (valves_of index.seats members) feeders net)
    (with_two_counts (plain_among index.seats members) net.size own) valves)
    → IsIdle valves → AreLeft before old after new delta → HasCome delta ref
    → ComesFirstOwned after index.ids index.numbers index.seats index.valves ref members feeders
    → AreSeatedOwned ref.slot members (suc (size_of index.valves)) index.seats now → listed ≡ index.refs ++ ref ∷ []
    → StandsFor after new reports (record index { seats = now; refs = listed; members = noted; valves = valves; space = space })
founded_by before after old new reports index delta stands are_after slots_after sound law valves space now listed noted ref members feeders fits meet idle (inl (made, (allowed, edits, kept))) come comes seated is =
    let sound_old = subst (λ (c : Checks). IsSound (watched_of after c)) kept sound in
    let moves = moved before after stands.are_zones are_after made delta allowed edits come.zone in
    let ends = ends_founded before after old reports index stands are_after slots_after sound_old delta.removed delta.added moves ref
    come.removed come.added members feeders comes now seated law in
    subst (λ (c : Checks). StandsFor after c reports (record index { seats = now; refs = listed; members = noted; valves = valves; space = space })) (sym kept)
    (founded_stands before after old reports index stands are_after slots_after sound_old
    delta.removed delta.added moves ref come.removed come.added members feeders comes now seated
    law valves space (fits stands.net stands.own stands.fits) (meet stands.net stands.own stands.fits ends stands.meet) idle listed is noted)
founded_by before after old new reports index delta stands are_after slots_after sound law valves space now listed noted ref members feeders fits meet idle (inr (stayed, follows, none)) come comes seated is =
    absurd (come.zone none)

-- ---- no other way is taken by such a command

pub founded_not_kept : (zones : List Zone) (are_zones : AreZones zones) (ids numbers : List ℕ) (seats : List Seat)
    (valves : Valves) (delta : Delta) (ref : SetRef) (members : List Slotted) (feeders : List ℕ)
    → KeepsValves zones ids numbers seats valves delta → HasCome delta ref
    → ComesFirstOwned zones ids numbers seats valves ref members feeders → ⊥
founded_not_kept zones are_zones ids numbers seats valves delta ref members feeders keeps come comes =
    let c = keeps.came 0 ref (at_first delta.added ref come.added) in
    let same = one_named zones ref c.set comes.set are_zones c.names comes.names in
    elim c.as_seated [
      | inl (inl plain) ↦ false≢true (sym plain.1 ∙ ap is_watched same ∙ watched_on comes.set comes.on)
      | inl (inr alone) ↦ alone.0 comes.bare
      | inr fed ↦ (let tells = fed.seat in let bare = ap own_part comes.bare in omega (arith, tells, bare))
    ]

pub founded_not_beside : (zones : List Zone) (are_zones : AreZones zones) (ids numbers : List ℕ) (seats : List Seat)
    (valves : Valves) (delta : Delta) (ref : SetRef) (members : List Slotted) (feeders : List ℕ) → SparesValves zones seats delta
    → HasCome delta ref → ComesFirstOwned zones ids numbers seats valves ref members feeders → ⊥
founded_not_beside zones are_zones ids numbers seats valves delta ref members feeders spares come comes =
    let c = spares.came 0 ref (at_first delta.added ref come.added) in
    let same = one_named zones ref c.set comes.set are_zones c.names comes.names in
    false≢true (sym c.off ∙ ap (λ (s : RecordSet). evaluates s.body) same ∙ comes.on)

some_same : {X : Type 0} {x y : X} → Some x ≡ Some y → x ≡ y
some_same e = cc

-- a group has no valve yet of whose sets no seat tells one
pub founded_not_led : (zones : List Zone) (are_zones : AreZones zones) (ids numbers : List ℕ) (seats : List Seat)
    (valves : Valves) (ref : SetRef) (members : List Slotted) (feeders others : List ℕ)
    → ComesToLead zones ids numbers seats valves ref others
    → ComesFirstOwned zones ids numbers seats valves ref members feeders → ⊥
founded_not_led zones are_zones ids numbers seats valves ref members feeders others leads comes =
    let same = one_named zones ref leads.set comes.set are_zones leads.names comes.names in
    let t = leads.its_target in
    let both : ◌≡◌ {A = List (List ℕ) × RType} (t.name, t.rtype) (comes.its_target.name, comes.its_target.rtype) =
    some_same (sym t.target ∙ ap target_of same ∙ comes.its_target.target) in
    let are = subst (λ (x : List (List ℕ) × RType). AreMembers zones ref.zone x.0 x.1 members) (sym both) comes.its_target.are in
    let f = first_here t.members t.seat.0 t.seat.1.0 in
    let m = member_there zones are_zones ref.zone t.name t.rtype t.members members f.0 t.are f.1 are in
    let none = ap (group_seat seats) (sym f.2) ∙ (comes.its_target.own f.0 m).1.1 in
    let told = t.seat.1.1 in
    omega (arith, none, told)

-- what an index has for such a command has one that is the same
pub comes_first_by : (zones : List Zone) (ref : SetRef) (members : List Slotted) (feeders : List ℕ) {ids ids_now numbers numbers_now : List ℕ}
    {seats seats_now : List Seat} {valves valves_now : Valves} → ids ≡ ids_now → numbers ≡ numbers_now
    → seats ≡ seats_now → valves ≡ valves_now → ComesFirstOwned zones ids numbers seats valves ref members feeders
    → ComesFirstOwned zones ids_now numbers_now seats_now valves_now ref members feeders
comes_first_by zones ref members feeders {ids} {ids_now} {numbers} {numbers_now} {seats} {seats_now} {valves} {valves_now} a b s v comes =
    subst (λ (x : Valves). ComesFirstOwned zones ids_now numbers_now seats_now x ref members feeders) v
    (subst (λ (x : List Seat). ComesFirstOwned zones ids_now numbers_now x valves ref members feeders) s
    (subst (λ (x : List ℕ). ComesFirstOwned zones ids_now x seats valves ref members feeders) b
    (subst (λ (x : List ℕ). ComesFirstOwned zones x numbers seats valves ref members feeders) a comes)))

-- ---- where nothing decides any set of the target group

module _ (zones : List Zone) (are_zones : AreZones zones) (ids numbers : List ℕ) (seats : List Seat) (valves : Valves)
    (ref : SetRef) (members : List Slotted) (feeders : List ℕ)
    (comes : ComesFirst zones ids numbers seats valves ref members feeders) where
  bare : (p : Slotted) → IsHere members p → set_seat seats p.slot ≡ 0
  bare p m = (comes.its_target.bare p m).1.0

  other : (p : Slotted) → IsHere members p → p.slot ≢ ref.slot
  other p m e =
      let same = one_named zones ref p.set comes.set are_zones
      (subst (λ (n : ℕ). IsHere (placed_in zones ref.zone) (record { slot = n; set = p.set })) e (comes.its_target.are.here p m)) comes.names in
      false≢true (sym (comes.its_target.bare p m).0 ∙ ap is_watched same ∙ watched_on comes.set comes.on)

  -- they have no valves of their own, so that their seats tell none but these
  pub plain_owned : ComesFirstOwned zones ids numbers seats valves ref members feeders
  plain_owned = record {
    set = comes.set;
    names = comes.names;
    on = comes.on;
    bare = comes.bare;
    none = comes.none;
    alone = comes.alone;
    its_check = comes.its_check;
    its_target = record {
      name = comes.its_target.name;
      rtype = comes.its_target.rtype;
      target = comes.its_target.target;
      are = comes.its_target.are;
      some = comes.its_target.some;
      own = λ p m. (other p m, (bare p m ∙ sym (ap own_part (bare p m)), (comes.its_target.bare p m).1.1));
    };
    are = comes.are;
    within = comes.within;
    many = comes.many;
  }

  pub plain_valves : valves_of seats members ≡ []
  plain_valves = none_own seats members bare

  -- and nothing feeds the valve of the group
  pub plain_founds : (before after : Index) → before.seats ≡ seats → FoundsOwned ref members feeders before after
      → Founds ref members feeders before after
  plain_founds before after same founds = record {
    rest = founds.rest;
    seated = record {
      own = founds.seated.own;
      check = founds.seated.check;
      none = founds.seated.none;
      set = λ p m apart. (founds.seated.sets p.slot apart).0 ∙ ap (λ (l : List Seat). set_seat l p.slot) same ∙ bare p m;
      group = founds.seated.group;
      others = λ s apart none. (founds.seated.sets s apart, founds.seated.others s apart none);
    };
    fed = λ net own fits.
        subst (λ (l : List ℕ). ValvesStandFor (with_group l feeders net) (with_two_counts (length members) net.size own) after.valves)
        (ap (λ (l : List Seat). valves_of l members) same ∙ plain_valves)
        (subst (λ (n : ℕ). ValvesStandFor (with_group (valves_of before.seats members) feeders net) (with_two_counts n net.size own) after.valves)
        (ap (λ (l : List Seat). plain_among l members) same ∙ all_plain seats members bare) (founds.fed net own fits));
  }
