-- How an index is left by a command that regroups one set.
use Rattle.std.proofs.Common.{◌≡◌, ◌≢◌, ◌+◌, ◌-◌, ◌++◌, ℕ, suc, List, [], ◌∷◌, length, arith, refl, ap, sym, ◌∙◌, inl, inr, Some}
use Rattle.std.specs.Prelude.{slice_get}
use Rattle.std.proofs.lemmas.Bool.{cases_eq}
use mathlib.Core.Path.{subst}
use Rattle.check_model.specs.Checks.{Checks}
use Rattle.health_standing.proofs.GroupJoined.{joined_stands}
use Rattle.health_standing.proofs.GroupLeft.{is_none, left_stands}
use Rattle.health_standing.proofs.Moving.{moved}
use Rattle.health_standing.specs.Index.{Index, IsIntact, Space, StandsFor}
use Rattle.health_standing.specs.Leaving.{AreLeft, HasNoValve, KeepsValves, SparesValves}
use Rattle.health_standing.specs.Regrouping.{HasCome, HasGone, IsSeatedIn, JoinsGroup, LeavesGroup, Recounts}
use Rattle.health_model.specs.Sound.{IsSound}
use Rattle.health_model.specs.Statuses.{Report}
use Rattle.health_planning.proofs.Built.{still_there}
use Rattle.health_planning.proofs.Members.{one_named}
use Rattle.health_planning.specs.Building.{AreGiven, TellSlot}
use Rattle.health_planning.specs.DeltaRecord.{Delta}
use Rattle.health_planning.specs.Looking.{RefersTo}
use Rattle.health_planning.specs.SetRefRecord.{SetRef}
use Rattle.health_planning.specs.Tables.{HaveSlotsApart}
use Rattle.health_planning.specs.Wired.{group_seat, own_part, seat_of, set_seat, watched_of}
use Rattle.health_planning.specs.Zones.{AreZones, Zone}
use Rattle.health_planning.specs.declared.seats.Seat.{Seat}
use Rattle.health_valves.specs.Pass.{IsIdle, MeetAll}
use Rattle.health_valves.specs.Valves.{HasEnds, Net, ValvesStandFor, with_own}
use Rattle.health_valves.specs.declared.valves.Valves.{Valves}
use Rattle.record_set.specs.declared.sets.RecordSet.{RecordSet}

-- ---- what holds of every index

pub given_in : (refs members noted : List SetRef) (seats now : List Seat) (slot group : ℕ)
    → IsSeatedIn slot group seats now → AreGiven refs members seats
    → ((s : ℕ) → TellSlot members s → TellSlot noted s) → (group ≢ 0 → TellSlot noted slot)
    → AreGiven refs noted now
given_in refs members noted seats now slot group seated given goes_on its = record {
  sets = λ s some. elim (cases_eq s slot) [
    | inl e ↦ absurd (some (ap (seat_of now) e ∙ ap own_part seated.set))
    | inr apart ↦ given.sets s (λ none. some (ap own_part (seated.others s apart).0.0 ∙ none))
  ];
  groups = λ s some. elim (cases_eq s slot) [
    | inl e ↦ subst (TellSlot noted) (sym e) (its (λ none. some (ap (group_seat now) e ∙ seated.group_is ∙ none)))
    | inr apart ↦ goes_on s (given.groups s (λ none. some ((seated.others s apart).1 ∙ none)))
  ];
}

whole_with : (index : Index) (w : IsIntact index) (valves : Valves) (own : ℕ → ℕ) (now : List Seat)
    (slot group : ℕ) (noted : List SetRef) (space : Space) → ValvesStandFor w.net own valves → IsIdle valves
    → IsSeatedIn slot group index.seats now → AreGiven index.refs noted now
    → IsIntact (record index { seats = now; members = noted; valves = valves; space = space })
whole_with index w valves own now slot group noted space fits idle seated given = record {
  net = w.net;
  own = own;
  fits = fits;
  idle = idle;
  as_many = w.as_many;
  apart = w.apart;
  numbers = w.numbers;
  within = w.within;
  seated = λ s valve is. elim (cases_eq s slot) [
    | inl e ↦ (let none : set_seat now s ≡ 0 = ap (set_seat now) e ∙ seated.set in absurd (omega (arith, none, is)))
    | inr apart ↦ w.seated s valve (sym (seated.others s apart).0.0 ∙ is)
  ];
  given = given;
  alone = w.alone;
  spare = w.spare;
}

pub whole_left : (index : Index) (w : IsIntact index) (valves : Valves) (own : ℕ → ℕ) (now : List Seat)
    (slot : ℕ) (space : Space) → ValvesStandFor w.net own valves → IsIdle valves
    → IsSeatedIn slot 0 index.seats now
    → IsIntact (record index { seats = now; members = index.members; valves = valves; space = space })
whole_left index w valves own now slot space fits idle seated =
    whole_with index w valves own now slot 0 index.members space fits idle seated
    (given_in index.refs index.members index.members index.seats now slot 0 seated w.given (λ s told. told) (λ some. absurd (some refl)))

at_end : {X : Type 0} (xs : List X) (x : X) → slice_get (xs ++ x ∷ []) (length xs) ≡ Some x
at_end [] x = refl
at_end (y ∷ xs) x = at_end xs x

pub whole_joined : (index : Index) (w : IsIntact index) (valves : Valves) (own : ℕ → ℕ) (now : List Seat)
    (ref : SetRef) (group : ℕ) (noted : List SetRef) (space : Space) → ValvesStandFor w.net own valves → IsIdle valves
    → IsSeatedIn ref.slot group index.seats now → noted ≡ index.members ++ ref ∷ []
    → IsIntact (record index { seats = now; members = noted; valves = valves; space = space })
whole_joined index w valves own now ref group noted space fits idle seated are =
    whole_with index w valves own now ref.slot group noted space fits idle seated
    (given_in index.refs index.members noted index.seats now ref.slot group seated w.given
    (λ s told. subst (λ (l : List SetRef). TellSlot l s) (sym are)
    (told.0, (told.1.0, (still_there index.members ref told.1.0 told.0 told.1.1.0, told.1.1.1))))
    (λ some. subst (λ (l : List SetRef). TellSlot l ref.slot) (sym are)
    (length index.members, (ref, (at_end index.members ref, refl)))))

-- ---- what an index is then

pub index_regrouped : (index now : Index) (seats : List Seat) (noted : List SetRef) (valves : Valves)
    (space : Space) → index ≡ now → space ≡ index.space
    → record index { seats = seats; members = noted; valves = valves; space = space }
    ≡ record now { seats = seats; members = noted; valves = valves }
index_regrouped index now seats noted valves space same room =
    subst (λ (i : Index). record index { seats = seats; members = noted; valves = valves; space = space }
    ≡ record i { seats = seats; members = noted; valves = valves }) same
    (ap (λ (s : Space). record index { seats = seats; members = noted; valves = valves; space = s }) room)

pub recounts : (valve n : ℕ) (many : ℕ → ℕ) (before after : Valves)
    → ((net : Net) (own : ℕ → ℕ) → ValvesStandFor net own before → ValvesStandFor net (with_own valve n own) after)
    → ((net : Net) (own : ℕ → ℕ) → ValvesStandFor net own before → n ≡ many (own valve))
    → Recounts valve many before after
recounts valve n many before after fits is net own was =
    subst (λ (k : ℕ). ValvesStandFor net (with_own valve k own) after) (is net own was) (fits net own was)

-- ---- commands

module _ (before after : List Zone) (old new : Checks) (reports : List Report) (index : Index)
    (delta : Delta) (stands : StandsFor before old reports index) (are_after : AreZones after)
    (slots_after : HaveSlotsApart after) (sound : IsSound (watched_of after new))
    (valves : Valves) (space : Space) (now : List Seat) (ref : SetRef) (g n : ℕ)
    (fits : (net : Net) (own : ℕ → ℕ) → ValvesStandFor net own index.valves → ValvesStandFor net (with_own g n own) valves)
    (meet : (net : Net) (own : ℕ → ℕ) → ValvesStandFor net own index.valves → HasEnds net
    → MeetAll net own index.valves → MeetAll net (with_own g n own) valves) (idle : IsIdle valves) where
  pub left_by : AreLeft before old after new delta → HasGone delta ref
      → LeavesGroup after index.seats index.valves ref g → IsSeatedIn ref.slot 0 index.seats now
      → n ≡ stands.own g - 1
      → StandsFor after new reports (record index { seats = now; members = index.members; valves = valves; space = space })
  left_by (inl (made, (allowed, edits, kept))) gone leaves seated is =
      subst (λ (c : Checks). StandsFor after c reports (record index { seats = now; members = index.members; valves = valves; space = space })) (sym kept)
      (left_stands before after old reports index stands are_after slots_after (subst (λ (c : Checks). IsSound (watched_of after c)) kept sound)
      delta.removed delta.added (moved before after stands.are_zones are_after made delta allowed edits gone.zone) ref gone.removed gone.added g leaves now seated
      valves space (subst (λ (k : ℕ). ValvesStandFor stands.net (with_own g k stands.own) valves) is (fits stands.net stands.own stands.fits))
      (subst (λ (k : ℕ). MeetAll stands.net (with_own g k stands.own) valves) is (meet stands.net stands.own stands.fits stands.ends stands.meet)) idle)
  left_by (inr (stayed, follows, none)) gone leaves seated is = absurd (gone.zone none)

  pub joined_by : AreLeft before old after new delta → HasCome delta ref
      → JoinsGroup after index.seats index.valves ref g → IsSeatedIn ref.slot (suc g) index.seats now
      → n ≡ stands.own g + 1 → (noted : List SetRef)
      → StandsFor after new reports (record index { seats = now; members = noted; valves = valves; space = space })
  joined_by (inl (made, (allowed, edits, kept))) come joins seated is noted =
      subst (λ (c : Checks). StandsFor after c reports (record index { seats = now; members = noted; valves = valves; space = space })) (sym kept)
      (joined_stands before after old reports index stands are_after slots_after (subst (λ (c : Checks). IsSound (watched_of after c)) kept sound)
      delta.removed delta.added (moved before after stands.are_zones are_after made delta allowed edits come.zone) ref come.removed come.added g joins now seated
      valves space (subst (λ (k : ℕ). ValvesStandFor stands.net (with_own g k stands.own) valves) is (fits stands.net stands.own stands.fits))
      (subst (λ (k : ℕ). MeetAll stands.net (with_own g k stands.own) valves) is (meet stands.net stands.own stands.fits stands.ends stands.meet)) idle noted)
  joined_by (inr (stayed, follows, none)) come joins seated is noted = absurd (come.zone none)

-- ---- no other way is taken by such a command

no_valve : (zones : List Zone) (are_zones : AreZones zones) (seats : List Seat) (valves : Valves) (ref : SetRef)
    (g : ℕ) (joins : JoinsGroup zones seats valves ref g) (set : RecordSet) → RefersTo zones ref set
    → HasNoValve zones seats ref.zone set.name set.rtype → ⊥
no_valve zones are_zones seats valves ref g joins set names none =
    let same = one_named zones ref set joins.set are_zones names joins.names in
    let bare = none joins.group.member joins.group.here (ap (λ (s : RecordSet). s.name) same ∙ joins.group.name_is)
    (ap (λ (s : RecordSet). s.rtype) same ∙ joins.group.rtype_is) in
    let tells = joins.group.tells in
    omega (arith, bare, tells)

pub at_first : {X : Type 0} (xs : List X) (x : X) → xs ≡ x ∷ [] → slice_get xs 0 ≡ Some x
at_first xs x are = ap (λ l. slice_get l 0) are

pub left_not_kept : (zones : List Zone) (ids numbers : List ℕ) (seats : List Seat) (valves : Valves)
    (delta : Delta) (ref : SetRef) (g : ℕ) → KeepsValves zones ids numbers seats valves delta
    → HasGone delta ref → LeavesGroup zones seats valves ref g → ⊥
left_not_kept zones ids numbers seats valves delta ref g keeps gone leaves =
    elim (keeps.went 0 ref (at_first delta.removed ref gone.removed)) [
      | inl none ↦ (let bare = none.1 in let tells = leaves.seat in omega (arith, bare, tells))
      | inr other ↦ is_none delta.added ref gone.added other
    ]

pub joined_not_kept : (zones : List Zone) (are_zones : AreZones zones) (ids numbers : List ℕ) (seats : List Seat)
    (valves : Valves) (delta : Delta) (ref : SetRef) (g : ℕ) → KeepsValves zones ids numbers seats valves delta
    → HasCome delta ref → JoinsGroup zones seats valves ref g → ⊥
joined_not_kept zones are_zones ids numbers seats valves delta ref g keeps come joins =
    let c = keeps.came 0 ref (at_first delta.added ref come.added) in
    elim c.place [
      | inl told ↦ is_none delta.removed ref come.removed told
      | inr alone ↦ no_valve zones are_zones seats valves ref g joins c.set c.names alone.1
    ]

pub left_not_beside : (zones : List Zone) (seats : List Seat) (valves : Valves) (delta : Delta) (ref : SetRef)
    (g : ℕ) → SparesValves zones seats delta → HasGone delta ref → LeavesGroup zones seats valves ref g → ⊥
left_not_beside zones seats valves delta ref g spares gone leaves =
    let free = spares.went 0 ref (at_first delta.removed ref gone.removed) in
    let bare = free.1 in
    let tells = leaves.seat in
    omega (arith, bare, tells)

pub joined_not_beside : (zones : List Zone) (are_zones : AreZones zones) (seats : List Seat) (valves : Valves)
    (delta : Delta) (ref : SetRef) (g : ℕ) → SparesValves zones seats delta → HasCome delta ref
    → JoinsGroup zones seats valves ref g → ⊥
joined_not_beside zones are_zones seats valves delta ref g spares come joins =
    let c = spares.came 0 ref (at_first delta.added ref come.added) in
    no_valve zones are_zones seats valves ref g joins c.set c.names c.none
