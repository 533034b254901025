-- How an index is left by a command by which one evaluated alias comes, while its target group has a valve.
use Rattle.std.proofs.Common.{◌≡◌, ◌≤◌, ◌<◌, ◌++◌, ℕ, suc, List, [], ◌∷◌, length, arith, ap, sym, ◌∙◌, inl, inr}
use Rattle.std.proofs.lemmas.Bool.{cases_eq, false≢true}
use mathlib.Core.Path.{subst}
use Rattle.check_model.specs.Checks.{Checks}
use Rattle.health_standing.proofs.AliasCome.{led_stands}
use Rattle.health_standing.proofs.ByOne.{at_first}
use Rattle.health_standing.proofs.Moving.{moved}
use Rattle.health_standing.proofs.Regrouped.{watched_on}
use Rattle.health_standing.specs.Index.{Index, IsIntact, Space, StandsFor}
use Rattle.health_standing.specs.Leading.{ComesToLead, IsSeatedOwn}
use Rattle.health_standing.specs.Leaving.{AreLeft, KeepsValves, SparesValves}
use Rattle.health_standing.specs.Regrouping.{HasCome}
use Rattle.health_model.specs.Laws.{PathsEnd}
use Rattle.health_model.specs.Sound.{IsSound}
use Rattle.health_model.specs.Statuses.{Report}
use Rattle.health_planning.proofs.Built.{last_there, still_there}
use Rattle.health_planning.proofs.Members.{one_named}
use Rattle.health_planning.specs.Building.{AreGiven, TellSlot}
use Rattle.health_planning.specs.DeltaRecord.{Delta}
use Rattle.health_planning.specs.SetRefRecord.{SetRef}
use Rattle.health_planning.specs.Tables.{HaveSlotsApart}
use Rattle.health_planning.specs.Telling.{evaluates}
use Rattle.health_planning.specs.Wired.{group_seat, is_watched, own_part, set_seat, watched_of}
use Rattle.health_planning.specs.Zones.{AreZones, Zone}
use Rattle.health_planning.specs.declared.seats.Seat.{Seat}
use Rattle.health_valves.proofs.Comes.{there}
use Rattle.health_valves.specs.Pass.{IsIdle, MeetAll}
use Rattle.health_valves.specs.Valves.{Condition, Net, ValvesStandFor, fed_condition, size_of, with_one_more, with_own}
use Rattle.health_valves.specs.declared.valves.Valves.{Valves}
use Rattle.record_set.specs.declared.sets.RecordSet.{RecordSet}

-- ---- what holds of every index

given_led : (refs members listed : List SetRef) (seats now : List Seat) (ref : SetRef) (told : ℕ)
    → IsSeatedOwn ref.slot told seats now → listed ≡ refs ++ ref ∷ [] → AreGiven refs members seats
    → AreGiven listed members now
given_led refs members listed seats now ref told seated is given = record {
  sets = λ s some. subst (λ (l : List SetRef). TellSlot l s) (sym is) (elim (cases_eq s ref.slot) [
    | inl e ↦ (length refs, (ref, (last_there refs ref, sym e)))
    | inr apart ↦
        let t = given.sets s (λ none. some (ap own_part (seated.others s apart).0.0 ∙ none)) in
        (t.0, (t.1.0, (still_there refs ref t.1.0 t.0 t.1.1.0, t.1.1.1)))
  ]);
  groups = λ s some. elim (cases_eq s ref.slot) [
    | inl e ↦ absurd (some (ap (group_seat now) e ∙ seated.group))
    | inr apart ↦ given.groups s (λ none. some ((seated.others s apart).1 ∙ none))
  ];
}

-- what nothing fed, nothing feeds
still_alone : (net : Net) (own : ℕ → ℕ) (feeders : List ℕ) (valve : ℕ) → valve < net.size
    → (net.condition valve).feeders ≡ []
    → ((with_one_more (fed_condition feeders) net).condition valve).feeders ≡ []
still_alone net own feeders valve low alone =
    ap (λ (c : Condition). c.feeders) (there net own feeders valve low) ∙ alone

pub whole_led : (index : Index) (w : IsIntact index) (valves : Valves) (feeders : List ℕ) (now : List Seat)
    (ref : SetRef) (listed : List SetRef) (space : Space) → 200 ≤ size_of index.valves
    → ValvesStandFor (with_one_more (fed_condition feeders) w.net) (with_own w.net.size 0 w.own) valves
    → IsIdle valves → IsSeatedOwn ref.slot (suc (size_of index.valves)) index.seats now
    → listed ≡ index.refs ++ ref ∷ []
    → IsIntact (record index { seats = now; refs = listed; valves = valves; space = space })
whole_led index w valves feeders now ref listed space many fits idle seated is = record {
  net = with_one_more (fed_condition feeders) w.net;
  own = with_own w.net.size 0 w.own;
  fits = fits;
  idle = idle;
  as_many = w.as_many;
  apart = w.apart;
  numbers = w.numbers;
  within = λ place valve at. (let low = w.within place valve at in omega (arith, low));
  seated = λ s valve tells. elim (cases_eq s ref.slot) [
    | inl e ↦
        let told = ap (set_seat now) (sym e) in
        let its = seated.set in
        let size = w.fits.laid.size in
        omega (arith, told, its, size, tells)
    | inr apart ↦
        let low = w.seated s valve (sym (seated.others s apart).0.0 ∙ tells) in
        omega (arith, low)
  ];
  given = given_led index.refs index.members listed index.seats now ref (suc (size_of index.valves)) seated is w.given;
  alone = λ place valve its at numbered.
      still_alone w.net w.own feeders valve (w.within place valve numbered) (w.alone place valve its at numbered);
  spare = λ valve free.
      let low = free.0 in
      let size = w.fits.laid.size in
      still_alone w.net w.own feeders valve (omega (arith, low, size, many)) (w.spare valve free);
}

-- ---- what an index is then

pub index_led : (index now : Index) (seats : List Seat) (listed : List SetRef) (valves : Valves) (space : Space)
    → index ≡ now → space ≡ index.space
    → record index { seats = seats; refs = listed; valves = valves; space = space }
    ≡ record now { seats = seats; refs = listed; valves = valves }
index_led index now seats listed valves space same room =
    subst (λ (i : Index). record index { seats = seats; refs = listed; valves = valves; space = space }
    ≡ record i { seats = seats; refs = listed; valves = valves }) same
    (ap (λ (s : Space). record index { seats = seats; refs = listed; valves = valves; space = s }) room)

-- ---- commands

pub led_by : (before after : List Zone) (old new : Checks) (reports : List Report) (index : Index)
    (delta : Delta) (stands : StandsFor before old reports index) → AreZones after → HaveSlotsApart after
    → IsSound (watched_of after new) → PathsEnd → (valves : Valves) (space : Space) (now : List Seat)
    (listed : List SetRef) (ref : SetRef) (feeders : List ℕ)
    → ((net : Net) (own : ℕ → ℕ) → ValvesStandFor net own index.valves
    → ValvesStandFor (with_one_more (fed_condition feeders) net) (with_own net.size 0 own) valves)
    → ((net : Net) (own : ℕ → ℕ) → ValvesStandFor net own index.valves → MeetAll net own index.valves
    → MeetAll (with_one_more (fed_condition feeders) net) (with_own net.size 0 own) valves)
    → IsIdle valves → AreLeft before old after new delta → HasCome delta ref
    → ComesToLead after index.ids index.numbers index.seats index.valves ref feeders
    → IsSeatedOwn ref.slot (suc (size_of index.valves)) index.seats now → listed ≡ index.refs ++ ref ∷ []
    → StandsFor after new reports (record index { seats = now; refs = listed; valves = valves; space = space })
led_by before after old new reports index delta stands are_after slots_after sound law valves space now listed ref feeders fits meet idle (inl (made, (allowed, edits, kept))) come comes seated is =
    subst (λ (c : Checks). StandsFor after c reports (record index { seats = now; refs = listed; valves = valves; space = space })) (sym kept)
    (led_stands before after old reports index stands are_after slots_after (subst (λ (c : Checks). IsSound (watched_of after c)) kept sound)
    delta.removed delta.added (moved before after stands.are_zones are_after made delta allowed edits come.zone) ref come.removed come.added feeders comes now seated
    law valves space (fits stands.net stands.own stands.fits) (meet stands.net stands.own stands.fits stands.meet) idle listed is)
led_by before after old new reports index delta stands are_after slots_after sound law valves space now listed ref feeders fits meet idle (inr (stayed, follows, none)) come comes seated is =
    absurd (come.zone none)

-- ---- no other way is taken by such a command

pub led_not_kept : (zones : List Zone) (are_zones : AreZones zones) (ids numbers : List ℕ) (seats : List Seat)
    (valves : Valves) (delta : Delta) (ref : SetRef) (feeders : List ℕ)
    → KeepsValves zones ids numbers seats valves delta → HasCome delta ref
    → ComesToLead zones ids numbers seats valves ref feeders → ⊥
led_not_kept zones are_zones ids numbers seats valves delta ref feeders keeps come comes =
    let c = keeps.came 0 ref (at_first delta.added ref come.added) in
    let same = one_named zones ref c.set comes.set are_zones c.names comes.names in
    elim c.as_seated [
      | inl (inl plain) ↦ false≢true (sym plain.1 ∙ ap is_watched same ∙ watched_on comes.set comes.on)
      | inl (inr alone) ↦ alone.0 comes.bare
      | inr fed ↦ (let tells = fed.seat in let bare = ap own_part comes.bare in omega (arith, tells, bare))
    ]

pub led_not_beside : (zones : List Zone) (are_zones : AreZones zones) (ids numbers : List ℕ) (seats : List Seat)
    (valves : Valves) (delta : Delta) (ref : SetRef) (feeders : List ℕ) → SparesValves zones seats delta
    → HasCome delta ref → ComesToLead zones ids numbers seats valves ref feeders → ⊥
led_not_beside zones are_zones ids numbers seats valves delta ref feeders spares come comes =
    let c = spares.came 0 ref (at_first delta.added ref come.added) in
    let same = one_named zones ref c.set comes.set are_zones c.names comes.names in
    false≢true (sym c.off ∙ ap (λ (s : RecordSet). evaluates s.body) same ∙ comes.on)

-- what an index has for such a command has one that is the same
pub comes_by : (zones : List Zone) (ref : SetRef) (feeders : List ℕ) {ids ids_now numbers numbers_now : List ℕ}
    {seats seats_now : List Seat} {valves valves_now : Valves} → ids ≡ ids_now → numbers ≡ numbers_now
    → seats ≡ seats_now → valves ≡ valves_now → ComesToLead zones ids numbers seats valves ref feeders
    → ComesToLead zones ids_now numbers_now seats_now valves_now ref feeders
comes_by zones ref feeders {ids} {ids_now} {numbers} {numbers_now} {seats} {seats_now} {valves} {valves_now} a b s v comes =
    subst (λ (x : Valves). ComesToLead zones ids_now numbers_now seats_now x ref feeders) v
    (subst (λ (x : List Seat). ComesToLead zones ids_now numbers_now x valves ref feeders) s
    (subst (λ (x : List ℕ). ComesToLead zones ids_now x seats valves ref feeders) b
    (subst (λ (x : List ℕ). ComesToLead zones x numbers seats valves ref feeders) a comes)))
