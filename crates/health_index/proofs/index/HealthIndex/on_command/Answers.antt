use Rattle.std.proofs.Common.{◌≡◌, ◌≤◌, ◌<◌, ℕ, suc, List, length, arith, ap, refl, sym, ◌∙◌, inl, inr}
use Rattle.std.proofs.lemmas.Bool.{false≢true}
use mathlib.Core.Path.{subst}
use Rattle.health_index.proofs.ByOne.{joined_not_beside, joined_not_kept, left_not_beside, left_not_kept}
use Rattle.health_index.proofs.Founded.{founded_not_beside, founded_not_kept, plain_founds, plain_owned, plain_valves}
use Rattle.health_index.proofs.Led.{led_not_beside, led_not_kept}
use Rattle.health_index.proofs.Moving.{all_moved, zones_stay}
use Rattle.health_index.proofs.Unfounded.{unfounded_not_beside, unfounded_not_kept}
use Rattle.health_index.proofs.Unled.{unled_not_beside, unled_not_kept}
use Rattle.health_planning.specs.declared.seats.Seat.{Seat}
use Rattle.health_index.proofs.Staying.{leaves_follow, stands_with_valves}
use Rattle.health_index.specs.Index.{Index, StandsFor}
use Rattle.health_index.specs.Following.{AreSame, Follows, IsOpenTo, IsWay}
use Rattle.health_index.specs.Kin.{kin_of}
use Rattle.health_index.specs.Founding.{ComesFirst, ComesFirstOwned, Founds, FoundsOwned}
use Rattle.health_index.specs.Leading.{ComesToLead, GetsValve}
use Rattle.health_index.specs.Regrouping.{Joins, JoinsGroup, Leaves, LeavesGroup, TellNoOther}
use Rattle.health_index.specs.Room.{AddsFew, HasRoom, HasRoomForAlias, HasRoomForFirst, HasRoomForGroup}
use Rattle.health_index.specs.Unfounding.{LeavesLast, Unfounds}
use Rattle.health_index.specs.Unleading.{LeavesValve, Unleads}
use Rattle.health_planning.specs.DeltaRecord.{Delta}
use Rattle.health_planning.specs.SetRefRecord.{SetRef}
use Rattle.zone_model.specs.Slotted.{Slotted}
use Rattle.health_planning.specs.Wired.{set_seat, valves_of}
use Rattle.health_planning.specs.Zones.{AreZones, Zone}
use Rattle.health_index.specs.Leaving.{KeepsValves, Moves, SparesValves}
use Rattle.health_index.proofs.Beside.{seats_same}
use Rattle.health_valves.specs.Valves.{size_of}
use Rattle.health_valves.specs.declared.valves.Valves.{Valves}
use Rattle.health_index.proofs.Laid.{adds_none, adds_nothing, adds_seats, adds_still, plain_room}
use Rattle.health_index.proofs.index.HealthIndex.on_command.Goals as goal

-- sets that keep the valves of an index keep those of one that is the same
kept_by : (zones : List Zone) (delta : Delta) {ids ids_now numbers numbers_now : List ℕ}
    {seats seats_now : List Seat} {valves valves_now : Valves} → ids ≡ ids_now → numbers ≡ numbers_now
    → seats ≡ seats_now → valves ≡ valves_now → KeepsValves zones ids numbers seats valves delta
    → KeepsValves zones ids_now numbers_now seats_now valves_now delta
kept_by zones delta {ids} {ids_now} {numbers} {numbers_now} {seats} {seats_now} {valves} {valves_now} a b s v keeps =
    subst (λ (x : Valves). KeepsValves zones ids_now numbers_now seats_now x delta) v
    (subst (λ (x : List Seat). KeepsValves zones ids_now numbers_now x valves delta) s
    (subst (λ (x : List ℕ). KeepsValves zones ids_now x seats valves delta) b
    (subst (λ (x : List ℕ). KeepsValves zones x numbers seats valves delta) a keeps)))

pub returns-then-leaves_valves-clause-stands : goal.returns-then-leaves_valves-clause-stands
returns-then-leaves_valves-clause-stands c before old reports stands leaves =
    let zones = c.args.zones.now.zones in
    let checks = c.args.checks.now.checks in
    let leaving = kept_by zones c.args.delta.now
    (c.deref.ensures.value ∙ ap (λ (i : Index). i.ids) c.self.view_is)
    (c.deref-2.ensures.value ∙ ap (λ (i : Index). i.numbers) c.self.view_is)
    (c.deref-3.ensures.value ∙ ap (λ (i : Index). i.seats) c.self.view_is)
    (ap (λ (i : Index). i.valves) c.self.view_is) (c.if-leaves_valves.ensures.0 refl) in
    subst (StandsFor zones checks reports) (sym c.self.view_is)
    (stands_with_valves before zones reports c.args.self.now c.args.delta.now c.well_formed-2.ensures c.slots_apart.ensures leaving old checks c.requires.sound stands leaves)

-- valves stay only where a zone is told
pub returns-then-leaves_valves-clause-in_place : goal.returns-then-leaves_valves-clause-in_place
returns-then-leaves_valves-clause-in_place c told none kin is open_to =
    absurd ((c.if-leaves_valves.ensures.0 refl).zone none)

-- where no valve of their own changes by the sets that went and came
pub returns-then-leaves_valves-clause-beside : goal.returns-then-leaves_valves-clause-beside
returns-then-leaves_valves-clause-beside c spares same many = seats_same _ _ c.self.view_is

pub reseat-requires-clause-room : goal.reseat-requires-clause-room
reseat-requires-clause-room c = subst (λ (i : Index). HasRoom i c.args.zones.now.slots) (sym c.self.view_is) c.requires.room

pub returns-then-reseat-clause-stands : goal.returns-then-reseat-clause-stands
returns-then-reseat-clause-stands c before old reports stands leaves =
    c.if-reseat.ensures.stands before old reports (subst (StandsFor before old reports) (sym c.self.view_is) stands) leaves refl

pub returns-then-reseat-clause-beside : goal.returns-then-reseat-clause-beside
returns-then-reseat-clause-beside c spares same many =
    c.if-reseat.ensures.rest ∙ ap (λ (i : Index). record i { seats = c.reseat.new.self.seats }) c.self.view_is

pub returns-then-reseat-clause-in_place : goal.returns-then-reseat-clause-in_place
returns-then-reseat-clause-in_place c told none kin is open_to =
    absurd ((c.if-reseat.ensures.spares refl).zone none)

pub returns-then-follow-clause-beside : goal.returns-then-follow-clause-beside
returns-then-follow-clause-beside c spares same many =
    let zones = c.args.zones.now.zones in
    absurd (false≢true (c.if-reseat.ensures.ready
    (subst (λ (i : Index). SparesValves zones i.seats c.args.delta.now) (sym c.self.view_is) spares)
    (subst (λ (i : Index). AreSame i.ids c.args.checks.now.checks.list) (sym c.self.view_is) same)
    (subst (λ (i : Index). 200 ≤ size_of i.valves) (sym c.self.view_is) many)))

pub returns-clause-beside : goal.returns-clause-beside
returns-clause-beside c spares same many =
    let zones = c.args.zones.now.zones in
    absurd (false≢true (c.if-reseat.ensures.ready
    (subst (λ (i : Index). SparesValves zones i.seats c.args.delta.now) (sym c.self.view_is) spares)
    (subst (λ (i : Index). AreSame i.ids c.args.checks.now.checks.list) (sym c.self.view_is) same)
    (subst (λ (i : Index). 200 ≤ size_of i.valves) (sym c.self.view_is) many)))

-- where one set came into a group with a valve, or went from one
pub returns-then-leaves_valves-clause-left : goal.returns-then-leaves_valves-clause-left
returns-then-leaves_valves-clause-left c ref valve gone leaves =
    let zones = c.args.zones.now.zones in
    absurd (left_not_kept zones c.args.self.now.ids c.args.self.now.numbers c.args.self.now.seats c.args.self.now.valves c.args.delta.now ref valve
    (kept_by zones c.args.delta.now
    (c.deref.ensures.value ∙ ap (λ (i : Index). i.ids) c.self.view_is)
    (c.deref-2.ensures.value ∙ ap (λ (i : Index). i.numbers) c.self.view_is)
    (c.deref-3.ensures.value ∙ ap (λ (i : Index). i.seats) c.self.view_is)
    (ap (λ (i : Index). i.valves) c.self.view_is) (c.if-leaves_valves.ensures.0 refl)) gone leaves)

pub returns-then-leaves_valves-clause-joined : goal.returns-then-leaves_valves-clause-joined
returns-then-leaves_valves-clause-joined c ref named valve come joins names alike few =
    let zones = c.args.zones.now.zones in
    absurd (joined_not_kept zones c.well_formed-2.ensures c.args.self.now.ids c.args.self.now.numbers c.args.self.now.seats c.args.self.now.valves c.args.delta.now ref valve
    (kept_by zones c.args.delta.now
    (c.deref.ensures.value ∙ ap (λ (i : Index). i.ids) c.self.view_is)
    (c.deref-2.ensures.value ∙ ap (λ (i : Index). i.numbers) c.self.view_is)
    (c.deref-3.ensures.value ∙ ap (λ (i : Index). i.seats) c.self.view_is)
    (ap (λ (i : Index). i.valves) c.self.view_is) (c.if-leaves_valves.ensures.0 refl)) come joins)

pub returns-then-reseat-clause-left : goal.returns-then-reseat-clause-left
returns-then-reseat-clause-left c ref valve gone leaves =
    let zones = c.args.zones.now.zones in
    absurd (left_not_beside zones c.args.self.now.seats c.args.self.now.valves c.args.delta.now ref valve
    (subst (λ (i : Index). SparesValves zones i.seats c.args.delta.now) c.self.view_is (c.if-reseat.ensures.spares refl)) gone leaves)

pub returns-then-reseat-clause-joined : goal.returns-then-reseat-clause-joined
returns-then-reseat-clause-joined c ref named valve come joins names alike few =
    let zones = c.args.zones.now.zones in
    absurd (joined_not_beside zones c.well_formed-2.ensures c.args.self.now.seats c.args.self.now.valves c.args.delta.now ref valve
    (subst (λ (i : Index). SparesValves zones i.seats c.args.delta.now) c.self.view_is (c.if-reseat.ensures.spares refl)) come joins)

pub regroup-requires-clause-room : goal.regroup-requires-clause-room
regroup-requires-clause-room c =
    subst (λ (i : Index). HasRoom i c.args.zones.now.slots) (sym (c.if-reseat.ensures.stays refl ∙ c.self.view_is)) c.requires.room

pub returns-then-regroup-clause-stands : goal.returns-then-regroup-clause-stands
returns-then-regroup-clause-stands c before old reports stands leaves =
    c.if-regroup.ensures.stands before old reports
    (subst (StandsFor before old reports) (sym (c.if-reseat.ensures.stays refl ∙ c.self.view_is)) stands) leaves refl

pub returns-then-regroup-clause-beside : goal.returns-then-regroup-clause-beside
returns-then-regroup-clause-beside c spares same many =
    let zones = c.args.zones.now.zones in
    absurd (false≢true (c.if-reseat.ensures.ready
    (subst (λ (i : Index). SparesValves zones i.seats c.args.delta.now) (sym c.self.view_is) spares)
    (subst (λ (i : Index). AreSame i.ids c.args.checks.now.checks.list) (sym c.self.view_is) same)
    (subst (λ (i : Index). 200 ≤ size_of i.valves) (sym c.self.view_is) many)))

pub returns-then-regroup-clause-in_place : goal.returns-then-regroup-clause-in_place
returns-then-regroup-clause-in_place c told none kin is open_to =
    absurd (c.if-regroup.ensures.zone refl none)

pub returns-then-regroup-clause-left : goal.returns-then-regroup-clause-left
returns-then-regroup-clause-left c ref valve gone leaves =
    let zones = c.args.zones.now.zones in
    let same = c.if-reseat.ensures.stays refl ∙ c.self.view_is in
    subst (λ (i : Index). Leaves ref valve i c.regroup.new.self) same
    (c.if-regroup.ensures.left ref valve gone (subst (λ (i : Index). LeavesGroup zones i.seats i.valves ref valve) (sym same) leaves)).1

pub returns-then-regroup-clause-joined : goal.returns-then-regroup-clause-joined
returns-then-regroup-clause-joined c ref named valve come joins names alike few =
    let zones = c.args.zones.now.zones in
    let same = c.if-reseat.ensures.stays refl ∙ c.self.view_is in
    subst (λ (i : Index). Joins ref valve i c.regroup.new.self) same
    (c.if-regroup.ensures.joined ref named valve come
    (subst (λ (i : Index). JoinsGroup zones i.seats i.valves ref valve) (sym same) joins) names
    (subst (λ (i : Index). TellNoOther zones i.seats ref.zone named.name named.rtype valve) (sym same) alike)
    (subst (λ (i : Index). length i.members < i.space.members) (sym same) few)).1

-- where one with a valve of its own went
pub returns-then-leaves_valves-clause-unled : goal.returns-then-leaves_valves-clause-unled
returns-then-leaves_valves-clause-unled c ref valve gone leaves =
    let zones = c.args.zones.now.zones in
    absurd (unled_not_kept zones c.args.self.now.ids c.args.self.now.numbers c.args.self.now.seats c.args.self.now.valves c.args.delta.now ref valve
    (kept_by zones c.args.delta.now
    (c.deref.ensures.value ∙ ap (λ (i : Index). i.ids) c.self.view_is)
    (c.deref-2.ensures.value ∙ ap (λ (i : Index). i.numbers) c.self.view_is)
    (c.deref-3.ensures.value ∙ ap (λ (i : Index). i.seats) c.self.view_is)
    (ap (λ (i : Index). i.valves) c.self.view_is) (c.if-leaves_valves.ensures.0 refl)) gone leaves)

pub returns-then-reseat-clause-unled : goal.returns-then-reseat-clause-unled
returns-then-reseat-clause-unled c ref valve gone leaves =
    let zones = c.args.zones.now.zones in
    absurd (unled_not_beside zones c.args.self.now.seats c.args.self.now.valves c.args.delta.now ref valve
    (subst (λ (i : Index). SparesValves zones i.seats c.args.delta.now) c.self.view_is (c.if-reseat.ensures.spares refl)) gone leaves)

pub returns-then-regroup-clause-unled : goal.returns-then-regroup-clause-unled
returns-then-regroup-clause-unled c ref valve gone leaves =
    let zones = c.args.zones.now.zones in
    let same = c.if-reseat.ensures.stays refl ∙ c.self.view_is in
    subst (λ (i : Index). Unleads ref valve i c.regroup.new.self) same
    (c.if-regroup.ensures.unled ref valve gone (subst (λ (i : Index). LeavesValve zones i.seats i.valves ref valve) (sym same) leaves)).1

pub returns-then-follow-clause-unled : goal.returns-then-follow-clause-unled
returns-then-follow-clause-unled c ref valve gone leaves = absurd (gone.zone (c.if-follow.ensures.zone refl))

pub returns-clause-unled : goal.returns-clause-unled
returns-clause-unled c ref valve gone leaves =
    let zones = c.args.zones.now.zones in
    let same = c.if-reseat.ensures.stays refl ∙ c.self.view_is in
    absurd (false≢true (c.if-regroup.ensures.unled ref valve gone (subst (λ (i : Index). LeavesValve zones i.seats i.valves ref valve) (sym same) leaves)).0)

-- where it was the last alias that led to a group
pub returns-then-leaves_valves-clause-unfounded : goal.returns-then-leaves_valves-clause-unfounded
returns-then-leaves_valves-clause-unfounded c ref valve group gone leaves =
    let zones = c.args.zones.now.zones in
    absurd (unfounded_not_kept zones c.args.self.now.ids c.args.self.now.numbers c.args.self.now.seats c.args.self.now.valves c.args.delta.now ref valve group
    (kept_by zones c.args.delta.now
    (c.deref.ensures.value ∙ ap (λ (i : Index). i.ids) c.self.view_is)
    (c.deref-2.ensures.value ∙ ap (λ (i : Index). i.numbers) c.self.view_is)
    (c.deref-3.ensures.value ∙ ap (λ (i : Index). i.seats) c.self.view_is)
    (ap (λ (i : Index). i.valves) c.self.view_is) (c.if-leaves_valves.ensures.0 refl)) gone leaves)

pub returns-then-reseat-clause-unfounded : goal.returns-then-reseat-clause-unfounded
returns-then-reseat-clause-unfounded c ref valve group gone leaves =
    let zones = c.args.zones.now.zones in
    absurd (unfounded_not_beside zones c.args.self.now.seats c.args.self.now.valves c.args.delta.now ref valve group
    (subst (λ (i : Index). SparesValves zones i.seats c.args.delta.now) c.self.view_is (c.if-reseat.ensures.spares refl)) gone leaves)

pub returns-then-regroup-clause-unfounded : goal.returns-then-regroup-clause-unfounded
returns-then-regroup-clause-unfounded c ref valve group gone leaves =
    let zones = c.args.zones.now.zones in
    let same = c.if-reseat.ensures.stays refl ∙ c.self.view_is in
    subst (λ (i : Index). Unfounds ref valve group i c.regroup.new.self) same
    (c.if-regroup.ensures.unfounded ref valve group gone (subst (λ (i : Index). LeavesLast zones i.seats i.valves ref valve group) (sym same) leaves)).1

pub returns-then-follow-clause-unfounded : goal.returns-then-follow-clause-unfounded
returns-then-follow-clause-unfounded c ref valve group gone leaves = absurd (gone.zone (c.if-follow.ensures.zone refl))

pub returns-clause-unfounded : goal.returns-clause-unfounded
returns-clause-unfounded c ref valve group gone leaves =
    let zones = c.args.zones.now.zones in
    let same = c.if-reseat.ensures.stays refl ∙ c.self.view_is in
    absurd (false≢true (c.if-regroup.ensures.unfounded ref valve group gone (subst (λ (i : Index). LeavesLast zones i.seats i.valves ref valve group) (sym same) leaves)).0)

-- where one evaluated alias came
pub returns-then-leaves_valves-clause-led : goal.returns-then-leaves_valves-clause-led
returns-then-leaves_valves-clause-led c ref feeders come comes room =
    let zones = c.args.zones.now.zones in
    absurd (led_not_kept zones c.well_formed-2.ensures c.args.self.now.ids c.args.self.now.numbers c.args.self.now.seats c.args.self.now.valves c.args.delta.now ref feeders
    (kept_by zones c.args.delta.now
    (c.deref.ensures.value ∙ ap (λ (i : Index). i.ids) c.self.view_is)
    (c.deref-2.ensures.value ∙ ap (λ (i : Index). i.numbers) c.self.view_is)
    (c.deref-3.ensures.value ∙ ap (λ (i : Index). i.seats) c.self.view_is)
    (ap (λ (i : Index). i.valves) c.self.view_is) (c.if-leaves_valves.ensures.0 refl)) come comes)

pub returns-then-reseat-clause-led : goal.returns-then-reseat-clause-led
returns-then-reseat-clause-led c ref feeders come comes room =
    let zones = c.args.zones.now.zones in
    let now = c.args.self.now in
    absurd (led_not_beside zones c.well_formed-2.ensures now.ids now.numbers now.seats now.valves c.args.delta.now ref feeders
    (subst (λ (i : Index). SparesValves zones i.seats c.args.delta.now) c.self.view_is (c.if-reseat.ensures.spares refl)) come comes)

pub returns-then-regroup-clause-led : goal.returns-then-regroup-clause-led
returns-then-regroup-clause-led c ref feeders come comes room =
    let zones = c.args.zones.now.zones in
    let same = c.if-reseat.ensures.stays refl ∙ c.self.view_is in
    subst (λ (i : Index). GetsValve ref feeders i c.regroup.new.self) same
    (c.if-regroup.ensures.led ref feeders come
    (subst (λ (i : Index). ComesToLead zones i.ids i.numbers i.seats i.valves ref feeders) (sym same) comes)
    (subst (λ (i : Index). HasRoomForAlias i c.args.zones.now.slots) (sym same) room)).1

pub returns-then-follow-clause-led : goal.returns-then-follow-clause-led
returns-then-follow-clause-led c ref feeders come comes room = absurd (come.zone (c.if-follow.ensures.zone refl))

pub returns-clause-led : goal.returns-clause-led
returns-clause-led c ref feeders come comes room =
    let zones = c.args.zones.now.zones in
    let same = c.if-reseat.ensures.stays refl ∙ c.self.view_is in
    absurd (false≢true (c.if-regroup.ensures.led ref feeders come
    (subst (λ (i : Index). ComesToLead zones i.ids i.numbers i.seats i.valves ref feeders) (sym same) comes)
    (subst (λ (i : Index). HasRoomForAlias i c.args.zones.now.slots) (sym same) room)).0)

-- where the first one came that leads to a group, of whose sets each has a valve of its own or nothing decides it
pub returns-then-leaves_valves-clause-founded_owned : goal.returns-then-leaves_valves-clause-founded_owned
returns-then-leaves_valves-clause-founded_owned c ref members feeders come comes room =
    let zones = c.args.zones.now.zones in
    absurd (founded_not_kept zones c.well_formed-2.ensures c.args.self.now.ids c.args.self.now.numbers c.args.self.now.seats c.args.self.now.valves c.args.delta.now ref members feeders
    (kept_by zones c.args.delta.now
    (c.deref.ensures.value ∙ ap (λ (i : Index). i.ids) c.self.view_is)
    (c.deref-2.ensures.value ∙ ap (λ (i : Index). i.numbers) c.self.view_is)
    (c.deref-3.ensures.value ∙ ap (λ (i : Index). i.seats) c.self.view_is)
    (ap (λ (i : Index). i.valves) c.self.view_is) (c.if-leaves_valves.ensures.0 refl)) come comes)

pub returns-then-reseat-clause-founded_owned : goal.returns-then-reseat-clause-founded_owned
returns-then-reseat-clause-founded_owned c ref members feeders come comes room =
    let zones = c.args.zones.now.zones in
    let now = c.args.self.now in
    absurd (founded_not_beside zones c.well_formed-2.ensures now.ids now.numbers now.seats now.valves c.args.delta.now ref members feeders
    (subst (λ (i : Index). SparesValves zones i.seats c.args.delta.now) c.self.view_is (c.if-reseat.ensures.spares refl)) come comes)

pub returns-then-regroup-clause-founded_owned : goal.returns-then-regroup-clause-founded_owned
returns-then-regroup-clause-founded_owned c ref members feeders come comes room =
    let zones = c.args.zones.now.zones in
    let same = c.if-reseat.ensures.stays refl ∙ c.self.view_is in
    subst (λ (i : Index). FoundsOwned ref members feeders i c.regroup.new.self) same
    (c.if-regroup.ensures.founded ref members feeders come
    (subst (λ (i : Index). ComesFirstOwned zones i.ids i.numbers i.seats i.valves ref members feeders) (sym same) comes)
    (subst (λ (i : Index). HasRoomForGroup i (length (valves_of i.seats members)) (length members) c.args.zones.now.slots) (sym same) room)).1

pub returns-then-follow-clause-founded_owned : goal.returns-then-follow-clause-founded_owned
returns-then-follow-clause-founded_owned c ref members feeders come comes room = absurd (come.zone (c.if-follow.ensures.zone refl))

pub returns-clause-founded_owned : goal.returns-clause-founded_owned
returns-clause-founded_owned c ref members feeders come comes room =
    let zones = c.args.zones.now.zones in
    let same = c.if-reseat.ensures.stays refl ∙ c.self.view_is in
    absurd (false≢true (c.if-regroup.ensures.founded ref members feeders come
    (subst (λ (i : Index). ComesFirstOwned zones i.ids i.numbers i.seats i.valves ref members feeders) (sym same) comes)
    (subst (λ (i : Index). HasRoomForGroup i (length (valves_of i.seats members)) (length members) c.args.zones.now.slots) (sym same) room)).0)

-- and where nothing decides any
plain_by : (zones : List Zone) → AreZones zones → (before after : Index) (slots : ℕ) (ref : SetRef) (members : List Slotted)
    (feeders : List ℕ) → ComesFirst zones before.ids before.numbers before.seats before.valves ref members feeders
    → HasRoomForFirst before (length members) slots
    → (ComesFirstOwned zones before.ids before.numbers before.seats before.valves ref members feeders
    → HasRoomForGroup before (length (valves_of before.seats members)) (length members) slots
    → FoundsOwned ref members feeders before after) → Founds ref members feeders before after
plain_by zones are_zones before after slots ref members feeders comes room owned =
    let none = plain_valves zones are_zones before.ids before.numbers before.seats before.valves ref members feeders comes in
    plain_founds zones are_zones before.ids before.numbers before.seats before.valves ref members feeders comes before after refl
    (owned (plain_owned zones are_zones before.ids before.numbers before.seats before.valves ref members feeders comes)
    (plain_room before (length members) slots (length (valves_of before.seats members)) (ap (λ (l : List ℕ). length l) none) room))

pub returns-then-leaves_valves-clause-founded : goal.returns-then-leaves_valves-clause-founded
returns-then-leaves_valves-clause-founded c ref members feeders come comes room =
    plain_by c.args.zones.now.zones c.well_formed-2.ensures c.args.self.now _ c.args.zones.now.slots ref members feeders comes room
    (returns-then-leaves_valves-clause-founded_owned c ref members feeders come)

pub returns-then-reseat-clause-founded : goal.returns-then-reseat-clause-founded
returns-then-reseat-clause-founded c ref members feeders come comes room =
    plain_by c.args.zones.now.zones c.well_formed-2.ensures c.args.self.now _ c.args.zones.now.slots ref members feeders comes room
    (returns-then-reseat-clause-founded_owned c ref members feeders come)

pub returns-then-regroup-clause-founded : goal.returns-then-regroup-clause-founded
returns-then-regroup-clause-founded c ref members feeders come comes room =
    plain_by c.args.zones.now.zones c.well_formed-2.ensures c.args.self.now _ c.args.zones.now.slots ref members feeders comes room
    (returns-then-regroup-clause-founded_owned c ref members feeders come)

pub returns-then-follow-clause-founded : goal.returns-then-follow-clause-founded
returns-then-follow-clause-founded c ref members feeders come comes room =
    plain_by c.args.zones.now.zones c.well_formed-2.ensures c.args.self.now _ c.args.zones.now.slots ref members feeders comes room
    (returns-then-follow-clause-founded_owned c ref members feeders come)

pub returns-clause-founded : goal.returns-clause-founded
returns-clause-founded c ref members feeders come comes room =
    plain_by c.args.zones.now.zones c.well_formed-2.ensures c.args.self.now _ c.args.zones.now.slots ref members feeders comes room
    (returns-clause-founded_owned c ref members feeders come)

pub returns-then-follow-clause-left : goal.returns-then-follow-clause-left
returns-then-follow-clause-left c ref valve gone leaves = absurd (gone.zone (c.if-follow.ensures.zone refl))

pub returns-then-follow-clause-joined : goal.returns-then-follow-clause-joined
returns-then-follow-clause-joined c ref named valve come joins names alike few = absurd (come.zone (c.if-follow.ensures.zone refl))

pub returns-clause-left : goal.returns-clause-left
returns-clause-left c ref valve gone leaves =
    let zones = c.args.zones.now.zones in
    let same = c.if-reseat.ensures.stays refl ∙ c.self.view_is in
    absurd (false≢true (c.if-regroup.ensures.left ref valve gone (subst (λ (i : Index). LeavesGroup zones i.seats i.valves ref valve) (sym same) leaves)).0)

pub returns-clause-joined : goal.returns-clause-joined
returns-clause-joined c ref named valve come joins names alike few =
    let zones = c.args.zones.now.zones in
    let same = c.if-reseat.ensures.stays refl ∙ c.self.view_is in
    absurd (false≢true (c.if-regroup.ensures.joined ref named valve come
    (subst (λ (i : Index). JoinsGroup zones i.seats i.valves ref valve) (sym same) joins) names
    (subst (λ (i : Index). TellNoOther zones i.seats ref.zone named.name named.rtype valve) (sym same) alike)
    (subst (λ (i : Index). length i.members < i.space.members) (sym same) few)).0)

pub follow-requires-clause-ids_room : goal.follow-requires-clause-ids_room
follow-requires-clause-ids_room c =
    (subst (λ (i : Index). HasRoom i c.args.zones.now.slots) (sym (c.if-regroup.ensures.stays refl ∙ c.if-reseat.ensures.stays refl ∙ c.self.view_is)) c.requires.room).ids

pub follow-requires-clause-numbers_room : goal.follow-requires-clause-numbers_room
follow-requires-clause-numbers_room c =
    (subst (λ (i : Index). HasRoom i c.args.zones.now.slots) (sym (c.if-regroup.ensures.stays refl ∙ c.if-reseat.ensures.stays refl ∙ c.self.view_is)) c.requires.room).numbers

pub follow-requires-clause-seen_room : goal.follow-requires-clause-seen_room
follow-requires-clause-seen_room c =
    (subst (λ (i : Index). HasRoom i c.args.zones.now.slots) (sym (c.if-regroup.ensures.stays refl ∙ c.if-reseat.ensures.stays refl ∙ c.self.view_is)) c.requires.room).seen

pub returns-then-follow-clause-stands : goal.returns-then-follow-clause-stands
returns-then-follow-clause-stands c before old reports stands leaves =
    let zones = c.args.zones.now.zones in
    let checks = c.args.checks.now.checks in
    let same = zones_stay before old zones checks c.args.delta.now stands.are_zones leaves (c.if-follow.ensures.zone refl) in
    c.if-follow.ensures.stands zones old reports
    (subst (StandsFor zones old reports) (sym (c.if-regroup.ensures.stays refl ∙ c.if-reseat.ensures.stays refl ∙ c.self.view_is)) (subst (λ (z : List Zone). StandsFor z old reports c.args.self.now) (sym same) stands))
    (leaves_follow before old zones checks c.args.delta.now leaves) c.requires.sound refl

pub returns-then-follow-clause-in_place : goal.returns-then-follow-clause-in_place
returns-then-follow-clause-in_place c told none kin is open_to =
    subst (λ (i : Index). Follows told c.args.checks.now.checks.list i c.follow.new.self) (c.if-regroup.ensures.stays refl ∙ c.if-reseat.ensures.stays refl ∙ c.self.view_is)
    (c.if-follow.ensures.in_place told none
    (subst (λ (i : Index). i.kin ≡ kin_of c.args.checks.now.checks.list) (sym (c.if-regroup.ensures.stays refl ∙ c.if-reseat.ensures.stays refl ∙ c.self.view_is)) kin)
    (subst (λ (i : Index). IsWay i.ids c.args.checks.now.checks.list told) (sym (c.if-regroup.ensures.stays refl ∙ c.if-reseat.ensures.stays refl ∙ c.self.view_is)) is)
    (subst (IsOpenTo told c.args.checks.now.checks.list) (sym (c.if-regroup.ensures.stays refl ∙ c.if-reseat.ensures.stays refl ∙ c.self.view_is)) open_to)).1

pub lay-requires-clause-room : goal.lay-requires-clause-room
lay-requires-clause-room c =
    subst (λ (i : Index). HasRoom i c.args.zones.now.slots) (sym (c.if-follow.ensures.stays refl ∙ c.if-regroup.ensures.stays refl ∙ c.if-reseat.ensures.stays refl ∙ c.self.view_is)) c.requires.room

pub returns-clause-in_place : goal.returns-clause-in_place
returns-clause-in_place c told none kin is open_to =
    absurd (false≢true (c.if-follow.ensures.in_place told none
    (subst (λ (i : Index). i.kin ≡ kin_of c.args.checks.now.checks.list) (sym (c.if-regroup.ensures.stays refl ∙ c.if-reseat.ensures.stays refl ∙ c.self.view_is)) kin)
    (subst (λ (i : Index). IsWay i.ids c.args.checks.now.checks.list told) (sym (c.if-regroup.ensures.stays refl ∙ c.if-reseat.ensures.stays refl ∙ c.self.view_is)) is)
    (subst (IsOpenTo told c.args.checks.now.checks.list) (sym (c.if-regroup.ensures.stays refl ∙ c.if-reseat.ensures.stays refl ∙ c.self.view_is)) open_to)).0)

pub returns-clause-stands : goal.returns-clause-stands
returns-clause-stands c before old reports stands leaves =
    let zones = c.args.zones.now.zones in
    let checks = c.args.checks.now.checks in
    let delta = c.args.delta.now in
    let same = c.if-follow.ensures.stays refl ∙ c.if-regroup.ensures.stays refl ∙ c.if-reseat.ensures.stays refl ∙ c.self.view_is in
    let moves = all_moved before old zones checks delta stands.are_zones c.well_formed-2.ensures leaves c.gone_by.result.now
    c.gone_by.ensures.none c.gone_by.ensures.told in
    c.lay.ensures.stands before old reports (subst (StandsFor before old reports) (sym same) stands)
    (leaves_follow before old zones checks delta leaves)
    (subst (Moves before zones c.gone_by.result.now) (sym c.as_slice.ensures) moves)

pub leaves_valves-requires-clause-seated : goal.leaves_valves-requires-clause-seated
leaves_valves-requires-clause-seated c slot valve at =
    let w = c.self.invariant in
    let seat : set_seat c.self.inside.seats.items slot ≡ suc valve = rw c.deref-3.ensures.value at at in
    let b = w.seated slot valve seat in
    let size = w.fits.laid.size in
    omega arith

-- how much more there is
pub returns-then-leaves_valves-clause-grows : goal.returns-then-leaves_valves-clause-grows
returns-then-leaves_valves-clause-grows c = inr (inl (adds_nothing _ _ _ c.self.view_is))

pub returns-then-reseat-clause-grows : goal.returns-then-reseat-clause-grows
returns-then-reseat-clause-grows c =
    inr (inl (adds_seats _ _ _ c.reseat.new.self.seats
    (c.if-reseat.ensures.rest ∙ ap (λ (i : Index). record i { seats = c.reseat.new.self.seats }) c.self.view_is)))

pub returns-then-regroup-clause-grows : goal.returns-then-regroup-clause-grows
returns-then-regroup-clause-grows c =
    let same = c.if-reseat.ensures.stays refl ∙ c.self.view_is in
    inr (adds_still c.args.zones.now.zones c.args.zones.now.slots c.args.delta.now _ _ _ same c.if-regroup.ensures.adds)

pub returns-then-follow-clause-grows : goal.returns-then-follow-clause-grows
returns-then-follow-clause-grows c =
    let same = c.if-regroup.ensures.stays refl ∙ c.if-reseat.ensures.stays refl ∙ c.self.view_is in
    inr (inl (subst (λ (i : Index). AddsFew c.args.zones.now.slots i c.follow.new.self) same (adds_none _ _ _ c.if-follow.ensures.as_much)))

pub returns-clause-grows : goal.returns-clause-grows
returns-clause-grows c = inl c.lay.ensures.laid
