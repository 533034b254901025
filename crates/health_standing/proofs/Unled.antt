-- How an index is left by a command by which one set with a valve of its own goes.
use Rattle.std.proofs.Common.{◌≡◌, ℕ, List, [], arith, refl, ap, sym, ◌∙◌, inl, inr}
use Rattle.std.proofs.lemmas.Bool.{cases_eq}
use mathlib.Core.Path.{subst}
use Rattle.check_model.specs.Checks.{Checks}
use Rattle.health_standing.proofs.ByOne.{at_first, given_in}
use Rattle.health_standing.proofs.GroupLeft.{is_none}
use Rattle.health_standing.proofs.Moving.{moved}
use Rattle.health_standing.proofs.ValveLeft.{unled}
use Rattle.health_standing.specs.Index.{Index, IsIntact, Space, StandsFor}
use Rattle.health_standing.specs.Leaving.{AreLeft, KeepsValves, SparesValves}
use Rattle.health_standing.specs.Regrouping.{HasGone, IsSeatedIn}
use Rattle.health_standing.specs.Unleading.{LeavesValve}
use Rattle.health_model.specs.Sound.{IsSound}
use Rattle.health_model.specs.Statuses.{Report}
use Rattle.health_planning.specs.DeltaRecord.{Delta}
use Rattle.health_planning.specs.SetRefRecord.{SetRef}
use Rattle.health_planning.specs.Tables.{HaveSlotsApart}
use Rattle.health_planning.specs.Wired.{own_part, set_seat, watched_of}
use Rattle.health_planning.specs.Zones.{AreZones, Zone}
use Rattle.health_planning.specs.declared.seats.Seat.{Seat}
use Rattle.health_valves.proofs.Cuts.{here, there}
use Rattle.health_valves.specs.Pass.{IsIdle, MeetAll}
use Rattle.health_valves.specs.Valves.{Condition, HasEnds, Net, ValvesStandFor, unfed_condition, with_condition, with_own}
use Rattle.health_valves.specs.declared.valves.Valves.{Valves}

-- ---- what holds of every index

-- what nothing fed, nothing feeds where one more is unfed
pub still_alone : (net : Net) (own : ℕ → ℕ) (v valve : ℕ) → (net.condition valve).feeders ≡ []
    → ((with_condition v unfed_condition net).condition valve).feeders ≡ []
still_alone net own v valve alone = elim (cases_eq valve v) [
  | inl e ↦ ap (λ (c : Condition). c.feeders) (ap (with_condition v unfed_condition net).condition e ∙ here net own v)
  | inr apart ↦ ap (λ (c : Condition). c.feeders) (there net own v valve apart) ∙ alone
]

pub whole_unled : (index : Index) (w : IsIntact index) (valves : Valves) (v : ℕ) (now : List Seat) (slot : ℕ)
    (space : Space) → ValvesStandFor (with_condition v unfed_condition w.net) (with_own v 0 w.own) valves
    → IsIdle valves → IsSeatedIn slot 0 index.seats now
    → IsIntact (record index { seats = now; members = index.members; valves = valves; space = space })
whole_unled index w valves v now slot space fits idle seated = record {
  net = with_condition v unfed_condition w.net;
  own = with_own v 0 w.own;
  fits = fits;
  idle = idle;
  as_many = w.as_many;
  apart = w.apart;
  numbers = w.numbers;
  within = w.within;
  seated = λ s valve is. elim (cases_eq s slot) [
    | inl e ↦ (let none : set_seat now s ≡ 0 = ap (set_seat now) e ∙ seated.set in absurd (omega (arith, none, is)))
    | inr apart ↦ w.seated s valve (sym (seated.others s apart).0.0 ∙ is)
  ];
  given = given_in index.refs index.members index.members index.seats now slot 0 seated w.given (λ s told. told)
      (λ some. absurd (some refl));
  alone = λ place valve its at numbered. still_alone w.net w.own v valve (w.alone place valve its at numbered);
  spare = λ valve is. still_alone w.net w.own v valve (w.spare valve is);
}

-- ---- commands

pub unled_by : (before after : List Zone) (old new : Checks) (reports : List Report) (index : Index)
    (delta : Delta) (stands : StandsFor before old reports index) → AreZones after → HaveSlotsApart after
    → IsSound (watched_of after new) → (valves : Valves) (space : Space) (now : List Seat) (ref : SetRef) (v : ℕ)
    → ((net : Net) (own : ℕ → ℕ) → ValvesStandFor net own index.valves
    → ValvesStandFor (with_condition v unfed_condition net) (with_own v 0 own) valves)
    → ((net : Net) (own : ℕ → ℕ) → ValvesStandFor net own index.valves → HasEnds net
    → MeetAll net own index.valves → MeetAll (with_condition v unfed_condition net) (with_own v 0 own) valves)
    → IsIdle valves → AreLeft before old after new delta → HasGone delta ref
    → LeavesValve after index.seats index.valves ref v → IsSeatedIn ref.slot 0 index.seats now
    → StandsFor after new reports (record index { seats = now; members = index.members; valves = valves; space = space })
unled_by before after old new reports index delta stands are_after slots_after sound valves space now ref v fits meet idle (inl (made, (allowed, edits, kept))) gone leaves seated =
    subst (λ (c : Checks). StandsFor after c reports (record index { seats = now; members = index.members; valves = valves; space = space })) (sym kept)
    (unled before after old reports index stands are_after slots_after (subst (λ (c : Checks). IsSound (watched_of after c)) kept sound)
    delta.removed delta.added (moved before after stands.are_zones are_after made delta allowed edits gone.zone) ref gone.removed gone.added v leaves now seated
    valves space (fits stands.net stands.own stands.fits) (meet stands.net stands.own stands.fits stands.ends stands.meet) idle)
unled_by before after old new reports index delta stands are_after slots_after sound valves space now ref v fits meet idle (inr (stayed, follows, none)) gone leaves seated =
    absurd (gone.zone none)

-- ---- no other way is taken by such a command

pub unled_not_kept : (zones : List Zone) (ids numbers : List ℕ) (seats : List Seat) (valves : Valves)
    (delta : Delta) (ref : SetRef) (v : ℕ) → KeepsValves zones ids numbers seats valves delta
    → HasGone delta ref → LeavesValve zones seats valves ref v → ⊥
unled_not_kept zones ids numbers seats valves delta ref v keeps gone leaves =
    elim (keeps.went 0 ref (at_first delta.removed ref gone.removed)) [
      | inl none ↦ (let bare = ap own_part none.0 in let tells = leaves.seat in omega (arith, bare, tells))
      | inr other ↦ is_none delta.added ref gone.added other
    ]

pub unled_not_beside : (zones : List Zone) (seats : List Seat) (valves : Valves) (delta : Delta) (ref : SetRef)
    (v : ℕ) → SparesValves zones seats delta → HasGone delta ref → LeavesValve zones seats valves ref v → ⊥
unled_not_beside zones seats valves delta ref v spares gone leaves =
    let free = spares.went 0 ref (at_first delta.removed ref gone.removed) in
    let bare = free.0 in
    let tells = leaves.seat in
    omega (arith, bare, tells)
