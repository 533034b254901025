-- How an index is left by a command by which the last evaluated alias goes that leads to a group.
use Rattle.std.proofs.Common.{◌≡◌, ◌≢◌, ◌≤◌, ℕ, zero, suc, Bool, true, false, List, [], ◌∷◌, length, arith, refl, ap, sym, ◌∙◌, inl, inr, Some}
use Rattle.std.specs.Prelude.{nat_eq, not}
use Rattle.std.proofs.lemmas.Bool.{cases_eq, false≢true, ne_eqb}
use mathlib.Core.Path.{subst}
use Rattle.check_model.specs.Checks.{Checks}
use Rattle.health_standing.proofs.ByOne.{at_first}
use Rattle.health_standing.proofs.GroupLeft.{is_none}
use Rattle.health_standing.proofs.LastLeft.{unfounded}
use Rattle.health_standing.proofs.Moving.{moved}
use Rattle.health_standing.proofs.Unled.{still_alone}
use Rattle.health_standing.specs.Index.{Index, IsIntact, Space, StandsFor}
use Rattle.health_standing.specs.Leaving.{AreLeft, KeepsValves, SparesValves}
use Rattle.health_standing.specs.Regrouping.{HasGone, IsSeatedIn}
use Rattle.health_standing.specs.Unfounding.{AreSeatedWithout, LeavesLast, TellWithout, told_among}
use Rattle.health_standing.specs.Unleading.{LeavesValve}
use Rattle.health_model.specs.Sound.{IsSound}
use Rattle.health_model.specs.Statuses.{Report}
use Rattle.health_planning.specs.Building.{TellSlot}
use Rattle.health_planning.specs.DeltaRecord.{Delta}
use Rattle.health_planning.specs.SetRefRecord.{SetRef}
use Rattle.health_planning.specs.Tables.{HaveSlotsApart}
use Rattle.health_planning.specs.Wired.{group_seat, own_part, set_seat, watched_of}
use Rattle.health_planning.specs.Zones.{AreZones, Zone}
use Rattle.health_planning.specs.declared.seats.Seat.{Seat}
use Rattle.health_valves.specs.Pass.{IsIdle, MeetAll}
use Rattle.health_valves.specs.Valves.{Feeds, HasEnds, Net, ValvesStandFor, unfed_condition, with_condition, with_own}
use Rattle.health_valves.specs.declared.valves.Valves.{Valves}

-- ---- seats

-- the seats of a group tell no valve for it, and then one tells nothing
pub seated_without : (seats middle now : List Seat) (slot told : ℕ) → TellWithout told seats middle
    → IsSeatedIn slot 0 middle now → AreSeatedWithout slot told seats now
seated_without seats middle now slot told without seated = record {
  set = seated.set;
  none = seated.group_is;
  others = λ other apart.
      let t = seated.others other apart in
      let w = without.sets other in
      (t.0.0 ∙ w.0, t.0.1 ∙ w.1);
  gone = λ other apart is. (seated.others other apart).1 ∙ without.gone other is;
  groups = λ other apart stays. (seated.others other apart).1 ∙ without.groups other stays;
}

-- ---- those that stay noted

some_same : {X : Type 0} {x y : X} → Some x ≡ Some y → x ≡ y
some_same e = cc

eq_none : (n : ℕ) → not (nat_eq n 0) ≡ false → n ≡ 0
eq_none n e = elim (cases_eq n 0) [
  | inl is ↦ is
  | inr other ↦ absurd (false≢true (sym e ∙ ap not (ne_eqb n 0 other)))
]

kept_here : (seats : List Seat) (r : SetRef) (refs : List SetRef) → not (nat_eq (group_seat seats r.slot) 0) ≡ true
    → told_among seats (r ∷ refs) ≡ r ∷ told_among seats refs
kept_here seats r refs e = rw (e) refl

left_out : (seats : List Seat) (r : SetRef) (refs : List SetRef) → not (nat_eq (group_seat seats r.slot) 0) ≡ false
    → told_among seats (r ∷ refs) ≡ told_among seats refs
left_out seats r refs e = rw (e) refl

-- a slot that was noted and tells a valve of a group is noted still
pub still_told : (seats : List Seat) (refs : List SetRef) (slot : ℕ) → group_seat seats slot ≢ 0 → TellSlot refs slot
    → TellSlot (told_among seats refs) slot
still_told seats [] slot some (k, (r, (at, is))) = let no : ⊥ = cc in absurd no
still_told seats (r ∷ refs) slot some tells =
    by (not (nat_eq (group_seat seats r.slot) 0)) refl (λ t. still_told seats refs slot some t)
  where
    none_here : not (nat_eq (group_seat seats r.slot) 0) ≡ false → r.slot ≡ slot → ⊥
    none_here e is = some (ap (group_seat seats) (sym is) ∙ eq_none (group_seat seats r.slot) e)

    rest : not (nat_eq (group_seat seats r.slot) 0) ≡ false → TellSlot (r ∷ refs) slot → TellSlot refs slot
    rest e (zero, (q, (at, is))) = absurd (none_here e (ap (λ (x : SetRef). x.slot) (some_same at) ∙ is))
    rest e (suc k, (q, (at, is))) = (k, (q, (at, is)))

    in_front : (TellSlot refs slot → TellSlot (told_among seats refs) slot) → TellSlot (r ∷ refs) slot
        → TellSlot (r ∷ told_among seats refs) slot
    in_front later (zero, (q, (at, is))) = (0, (r, (refl, ap (λ (x : SetRef). x.slot) (some_same at) ∙ is)))
    in_front later (suc k, (q, (at, is))) =
        let t = later (k, (q, (at, is))) in
        (suc t.0, (t.1.0, (t.1.1.0, t.1.1.1)))

    by : (b : Bool) → not (nat_eq (group_seat seats r.slot) 0) ≡ b
        → (TellSlot refs slot → TellSlot (told_among seats refs) slot) → TellSlot (told_among seats (r ∷ refs)) slot
    by true e later = subst (λ (l : List SetRef). TellSlot l slot) (sym (kept_here seats r refs e)) (in_front later tells)
    by false e later = subst (λ (l : List SetRef). TellSlot l slot) (sym (left_out seats r refs e)) (later (rest e tells))

-- no more are noted than were
pub few_told : (seats : List Seat) (refs : List SetRef) → length (told_among seats refs) ≤ length refs
few_told seats [] = omega arith
few_told seats (r ∷ refs) = by (not (nat_eq (group_seat seats r.slot) 0)) refl (few_told seats refs)
  where
    by : (b : Bool) → not (nat_eq (group_seat seats r.slot) 0) ≡ b → length (told_among seats refs) ≤ length refs
        → length (told_among seats (r ∷ refs)) ≤ length (r ∷ refs)
    by true e few =
        let is = ap (λ (l : List SetRef). length l) (kept_here seats r refs e) in
        omega (arith, few, is)
    by false e few =
        let is = ap (λ (l : List SetRef). length l) (left_out seats r refs e) in
        omega (arith, few, is)

-- ---- what holds of every index

pub whole_unfounded : (index : Index) (w : IsIntact index) (valves : Valves) (v g : ℕ) (now : List Seat) (slot : ℕ)
    (noted : List SetRef) (space : Space) → noted ≡ told_among now index.members
    → ValvesStandFor (with_condition g unfed_condition (with_condition v unfed_condition w.net))
    (with_own g 0 (with_own v 0 w.own)) valves
    → IsIdle valves → AreSeatedWithout slot (suc g) index.seats now
    → IsIntact (record index { seats = now; members = noted; valves = valves; space = space })
whole_unfounded index w valves v g now slot noted space is_noted fits idle seated = record {
  net = with_condition g unfed_condition (with_condition v unfed_condition w.net);
  own = with_own g 0 (with_own v 0 w.own);
  fits = fits;
  idle = idle;
  as_many = w.as_many;
  apart = w.apart;
  numbers = w.numbers;
  within = w.within;
  seated = λ s valve is. elim (cases_eq s slot) [
    | inl e ↦ (let none : set_seat now s ≡ 0 = ap (set_seat now) e ∙ seated.set in absurd (omega (arith, none, is)))
    | inr apart ↦ w.seated s valve (sym (seated.others s apart).0 ∙ is)
  ];
  given = record {
    sets = λ s some. elim (cases_eq s slot) [
      | inl e ↦ absurd (some (ap own_part (ap (set_seat now) e ∙ seated.set)))
      | inr apart ↦ w.given.sets s (λ none. some (ap own_part (seated.others s apart).0 ∙ none))
    ];
    groups = λ s some. elim (cases_eq s slot) [
      | inl e ↦ absurd (some (ap (group_seat now) e ∙ seated.none))
      | inr apart ↦ elim (cases_eq (group_seat index.seats s) (suc g)) [
        | inl its ↦ absurd (some (seated.gone s apart its))
        | inr stays ↦ subst (λ (l : List SetRef). TellSlot l s) (sym is_noted) (still_told now index.members s some (w.given.groups s (λ none. some (seated.groups s apart stays ∙ none))))
      ]
    ];
  };
  alone = λ place valve its at numbered.
      still_alone (with_condition v unfed_condition w.net) (with_own v 0 w.own) g valve
      (still_alone w.net w.own v valve (w.alone place valve its at numbered));
  spare = λ valve is.
      still_alone (with_condition v unfed_condition w.net) (with_own v 0 w.own) g valve
      (still_alone w.net w.own v valve (w.spare valve is));
}

-- ---- commands

-- an index stands for what it stood for, whatever is noted
noted_anew : (zones : List Zone) (checks : Checks) (reports : List Report) (index : Index) (noted : List SetRef)
    → StandsFor zones checks reports index → StandsFor zones checks reports (record index { members = noted })
noted_anew zones checks reports index noted s = record {
  are_zones = s.are_zones;
  slots = s.slots;
  are_checks = s.are_checks;
  sound = s.sound;
  are_reports = s.are_reports;
  ids = s.ids;
  numbers = s.numbers;
  seen = s.seen;
  as_many = s.as_many;
  kin = s.kin;
  listed = s.listed;
  net = s.net;
  own = s.own;
  wired = s.wired;
  told = s.told;
  fits = s.fits;
  ends = s.ends;
  meet = s.meet;
  idle = s.idle;
}

pub unfounded_by : (before after : List Zone) (old new : Checks) (reports : List Report) (index : Index)
    (delta : Delta) (stands : StandsFor before old reports index) → AreZones after → HaveSlotsApart after
    → IsSound (watched_of after new) → (valves : Valves) (space : Space) (now : List Seat) (noted : List SetRef) (ref : SetRef) (v g : ℕ)
    → ((net : Net) (own : ℕ → ℕ) → ValvesStandFor net own index.valves
    → ValvesStandFor (with_condition g unfed_condition (with_condition v unfed_condition net)) (with_own g 0 (with_own v 0 own)) valves)
    → ((net : Net) (own : ℕ → ℕ) → ValvesStandFor net own index.valves → HasEnds net → MeetAll net own index.valves
    → MeetAll (with_condition g unfed_condition (with_condition v unfed_condition net)) (with_own g 0 (with_own v 0 own)) valves)
    → IsIdle valves → AreLeft before old after new delta → HasGone delta ref
    → LeavesLast after index.seats index.valves ref v g → AreSeatedWithout ref.slot (suc g) index.seats now
    → StandsFor after new reports (record index { seats = now; members = noted; valves = valves; space = space })
unfounded_by before after old new reports index delta stands are_after slots_after sound valves space now noted ref v g fits meet idle (inl (made, (allowed, edits, kept))) gone leaves seated =
    subst (λ (c : Checks). StandsFor after c reports (record index { seats = now; members = noted; valves = valves; space = space })) (sym kept)
    (noted_anew after old reports (record index { seats = now; members = index.members; valves = valves; space = space }) noted
    (unfounded before after old reports index stands
    delta.removed delta.added (moved before after stands.are_zones are_after made delta allowed edits gone.zone) ref gone.removed gone.added v g leaves
    are_after slots_after (subst (λ (c : Checks). IsSound (watched_of after c)) kept sound) now seated
    valves space (fits stands.net stands.own stands.fits) (meet stands.net stands.own stands.fits stands.ends stands.meet) idle))
unfounded_by before after old new reports index delta stands are_after slots_after sound valves space now noted ref v g fits meet idle (inr (stayed, follows, none)) gone leaves seated =
    absurd (gone.zone none)

-- ---- no other way is taken by such a command

pub unfounded_not_kept : (zones : List Zone) (ids numbers : List ℕ) (seats : List Seat) (valves : Valves)
    (delta : Delta) (ref : SetRef) (v g : ℕ) → KeepsValves zones ids numbers seats valves delta
    → HasGone delta ref → LeavesLast zones seats valves ref v g → ⊥
unfounded_not_kept zones ids numbers seats valves delta ref v g keeps gone leaves =
    elim (keeps.went 0 ref (at_first delta.removed ref gone.removed)) [
      | inl none ↦ (let bare = ap own_part none.0 in let tells = leaves.seat in omega (arith, bare, tells))
      | inr other ↦ is_none delta.added ref gone.added other
    ]

pub unfounded_not_beside : (zones : List Zone) (seats : List Seat) (valves : Valves) (delta : Delta) (ref : SetRef)
    (v g : ℕ) → SparesValves zones seats delta → HasGone delta ref → LeavesLast zones seats valves ref v g → ⊥
unfounded_not_beside zones seats valves delta ref v g spares gone leaves =
    let free = spares.went 0 ref (at_first delta.removed ref gone.removed) in
    let bare = free.0 in
    let tells = leaves.seat in
    omega (arith, bare, tells)

-- another alias leads to the group, or none does
pub unfounded_not_unled : (zones : List Zone) (seats : List Seat) (valves : Valves) (ref : SetRef) (v w g : ℕ)
    → (net : Net) (own : ℕ → ℕ) → ValvesStandFor net own valves → LeavesValve zones seats valves ref w
    → LeavesLast zones seats valves ref v g → ⊥
unfounded_not_unled zones seats valves ref v w g net own fits unled last =
    let first = unled.seat in
    let second = last.seat in
    let same : v ≡ w = omega (arith, first, second) in
    let sole = last.sole net own fits in
    let y = unled.shared net own fits g sole.late (subst (Feeds net g) same sole.feeds) in
    y.1.0 (sole.alone y.0 y.1.1.0 y.1.1.1 ∙ same)
