use Rattle.std.proofs.Common.{◌≡◌, ◌∷◌, [], Option, length, ap, refl, sym, ◌∙◌, inl}
use Rattle.std.proofs.lemmas.Bool.{false≢true}
use mathlib.Core.Path.{subst}
use Rattle.health_index.proofs.Regrouped.{watched_on}
use Rattle.health_index.proofs.Founded.{founded_not_led}
use Rattle.health_index.specs.Founding.{ComesFirstOwned, FoundsOwned}
use Rattle.health_index.specs.Leading.{ComesToLead, GetsValve}
use Rattle.health_index.specs.Room.{HasRoom, HasRoomForAlias, HasRoomForGroup}
use Rattle.health_index.specs.Regrouping.{IsCome, IsGone, Joins, JoinsGroup, Leaves, LeavesGroup, TellNoOther}
use Rattle.health_index.specs.Index.{Index, StandsFor}
use Rattle.health_index.specs.Unfounding.{LeavesLast, Unfounds}
use Rattle.health_index.specs.Unleading.{LeavesValve, Unleads}
use Rattle.health_planning.specs.Looking.{RefersTo}
use Rattle.health_planning.specs.SetRefRecord.{SetRef}
use Rattle.health_planning.specs.Wired.{group_seat, valves_of}
use Rattle.health_index.proofs.Laid.{adds_nothing, adds_still}
use Rattle.health_index.specs.Room.{AddsFew}
use Rattle.health_index.proofs.index.HealthIndex.regroup.Goals as goal

one_same : {x y : SetRef} → x ∷ [] ≡ y ∷ [] → x ≡ y
one_same e = cc

pub returns-then-leave-clause-left : goal.returns-then-leave-clause-left
returns-then-leave-clause-left c ref valve gone leaves =
    let is = subst (λ (o : Option SetRef). IsGone c.args.delta.now o) c.in-Some.is c.one_gone.ensures in
    let one = one_same (sym is.removed ∙ gone.removed) in
    let zones = c.args.zones.now.zones in (
      refl,
      subst (λ (r : SetRef). Leaves r valve c.args.self.now c.leave.new.self) one
          (c.if-leave.ensures.left valve (subst (λ (r : SetRef). LeavesGroup zones c.args.self.now.seats c.args.self.now.valves r valve) (sym one) leaves)).1,
    )

pub returns-then-leave-clause-unfounded : goal.returns-then-leave-clause-unfounded
returns-then-leave-clause-unfounded c ref valve group gone leaves =
    let is = subst (λ (o : Option SetRef). IsGone c.args.delta.now o) c.in-Some.is c.one_gone.ensures in
    let one = one_same (sym is.removed ∙ gone.removed) in
    absurd (c.if-leave.ensures.group refl (ap (λ (r : SetRef). group_seat c.args.self.now.seats r.slot) one ∙ leaves.none))

pub returns-then-unlead-clause-stands : goal.returns-then-unlead-clause-stands
returns-then-unlead-clause-stands c before old reports stands left done =
    c.if-unlead.ensures.stands before old reports (subst (StandsFor before old reports) (sym (c.if-leave.ensures.stays refl)) stands) left refl

pub returns-then-unlead-clause-left : goal.returns-then-unlead-clause-left
returns-then-unlead-clause-left c ref valve gone leaves =
    let is = subst (λ (o : Option SetRef). IsGone c.args.delta.now o) c.in-Some.is c.one_gone.ensures in
    let one = one_same (sym is.removed ∙ gone.removed) in
    let zones = c.args.zones.now.zones in
    absurd (false≢true
    (c.if-leave.ensures.left valve (subst (λ (r : SetRef). LeavesGroup zones c.args.self.now.seats c.args.self.now.valves r valve) (sym one) leaves)).0)

pub returns-then-unlead-clause-unled : goal.returns-then-unlead-clause-unled
returns-then-unlead-clause-unled c ref valve gone leaves =
    let is = subst (λ (o : Option SetRef). IsGone c.args.delta.now o) c.in-Some.is c.one_gone.ensures in
    let one = one_same (sym is.removed ∙ gone.removed) in
    let zones = c.args.zones.now.zones in
    let same = c.if-leave.ensures.stays refl in
    let u = c.if-unlead.ensures.unled valve (subst (λ (i : Index). LeavesValve zones i.seats i.valves c.in-Some.set valve) (sym same)
    (subst (λ (r : SetRef). LeavesValve zones c.args.self.now.seats c.args.self.now.valves r valve) (sym one) leaves)) in (
      refl,
      subst (λ (i : Index). Unleads ref valve i c.unlead.new.self) same
          (subst (λ (r : SetRef). Unleads r valve c.leave.new.self c.unlead.new.self) one u.1),
    )

pub returns-then-unlead-clause-unfounded : goal.returns-then-unlead-clause-unfounded
returns-then-unlead-clause-unfounded c ref valve group gone leaves =
    let is = subst (λ (o : Option SetRef). IsGone c.args.delta.now o) c.in-Some.is c.one_gone.ensures in
    let one = one_same (sym is.removed ∙ gone.removed) in
    let zones = c.args.zones.now.zones in
    let same = c.if-leave.ensures.stays refl in
    absurd (c.if-unlead.ensures.another refl valve group
    (subst (λ (i : Index). LeavesLast zones i.seats i.valves c.in-Some.set valve group) (sym same)
    (subst (λ (r : SetRef). LeavesLast zones c.args.self.now.seats c.args.self.now.valves r valve group) (sym one) leaves)))

pub returns-in-Some-clause-stands : goal.returns-in-Some-clause-stands
returns-in-Some-clause-stands c before old reports stands left done =
    c.unfound.ensures.stands before old reports
    (subst (StandsFor before old reports) (sym (c.if-unlead.ensures.stays refl ∙ c.if-leave.ensures.stays refl)) stands) left done

pub returns-in-Some-clause-left : goal.returns-in-Some-clause-left
returns-in-Some-clause-left c ref valve gone leaves =
    let is = subst (λ (o : Option SetRef). IsGone c.args.delta.now o) c.in-Some.is c.one_gone.ensures in
    let one = one_same (sym is.removed ∙ gone.removed) in
    let zones = c.args.zones.now.zones in
    absurd (false≢true
    (c.if-leave.ensures.left valve (subst (λ (r : SetRef). LeavesGroup zones c.args.self.now.seats c.args.self.now.valves r valve) (sym one) leaves)).0)

pub returns-in-Some-clause-unled : goal.returns-in-Some-clause-unled
returns-in-Some-clause-unled c ref valve gone leaves =
    let is = subst (λ (o : Option SetRef). IsGone c.args.delta.now o) c.in-Some.is c.one_gone.ensures in
    let one = one_same (sym is.removed ∙ gone.removed) in
    let zones = c.args.zones.now.zones in
    let same = c.if-leave.ensures.stays refl in
    absurd (false≢true (c.if-unlead.ensures.unled valve (subst (λ (i : Index). LeavesValve zones i.seats i.valves c.in-Some.set valve) (sym same)
    (subst (λ (r : SetRef). LeavesValve zones c.args.self.now.seats c.args.self.now.valves r valve) (sym one) leaves))).0)

pub returns-in-Some-clause-unfounded : goal.returns-in-Some-clause-unfounded
returns-in-Some-clause-unfounded c ref valve group gone leaves =
    let is = subst (λ (o : Option SetRef). IsGone c.args.delta.now o) c.in-Some.is c.one_gone.ensures in
    let one = one_same (sym is.removed ∙ gone.removed) in
    let zones = c.args.zones.now.zones in
    let same = c.if-unlead.ensures.stays refl ∙ c.if-leave.ensures.stays refl in
    let u = c.unfound.ensures.unfounded valve group
    (subst (λ (i : Index). LeavesLast zones i.seats i.valves c.in-Some.set valve group) (sym same)
    (subst (λ (r : SetRef). LeavesLast zones c.args.self.now.seats c.args.self.now.valves r valve group) (sym one) leaves)) in (
      u.0,
      subst (λ (i : Index). Unfounds ref valve group i c.unfound.new.self) same
          (subst (λ (r : SetRef). Unfounds r valve group c.unlead.new.self c.unfound.new.self) one u.1),
    )

pub returns-then-join-clause-joined : goal.returns-then-join-clause-joined
returns-then-join-clause-joined c ref named valve come joins names alike few =
    let is = subst (λ (o : Option SetRef). IsCome c.args.delta.now o) c.in-Some-one_come.is c.one_come.ensures in
    let one = one_same (sym is.added ∙ come.added) in
    let zones = c.args.zones.now.zones in
    let seats = c.args.self.now.seats in (
      refl,
      subst (λ (r : SetRef). Joins r valve c.args.self.now c.join.new.self) one
          (c.if-join.ensures.joined named valve
          (subst (λ (r : SetRef). JoinsGroup zones seats c.args.self.now.valves r valve) (sym one) joins)
          (subst (λ (r : SetRef). RefersTo zones r named) (sym one) names)
          (subst (λ (r : SetRef). TellNoOther zones seats r.zone named.name named.rtype valve) (sym one) alike) few).1,
    )

pub returns-then-join-clause-led : goal.returns-then-join-clause-led
returns-then-join-clause-led c ref feeders come comes room =
    let is = subst (λ (o : Option SetRef). IsCome c.args.delta.now o) c.in-Some-one_come.is c.one_come.ensures in
    let one = one_same (sym is.added ∙ come.added) in
    let zones = c.args.zones.now.zones in
    let off = c.if-join.ensures.off refl comes.set (subst (λ (r : SetRef). RefersTo zones r comes.set) (sym one) comes.names) in
    absurd (false≢true (sym off ∙ watched_on comes.set comes.on))

pub returns-then-join-clause-founded : goal.returns-then-join-clause-founded
returns-then-join-clause-founded c ref members feeders come comes room =
    let is = subst (λ (o : Option SetRef). IsCome c.args.delta.now o) c.in-Some-one_come.is c.one_come.ensures in
    let one = one_same (sym is.added ∙ come.added) in
    let zones = c.args.zones.now.zones in
    let off = c.if-join.ensures.off refl comes.set (subst (λ (r : SetRef). RefersTo zones r comes.set) (sym one) comes.names) in
    absurd (false≢true (sym off ∙ watched_on comes.set comes.on))

pub lead_in-requires-clause-room : goal.lead_in-requires-clause-room
lead_in-requires-clause-room c =
    subst (λ (i : Index). HasRoom i c.args.zones.now.slots) (sym (c.if-join.ensures.stays refl)) c.requires.room

pub returns-then-lead_in-clause-stands : goal.returns-then-lead_in-clause-stands
returns-then-lead_in-clause-stands c before old reports stands left done =
    c.if-lead_in.ensures.stands before old reports (subst (StandsFor before old reports) (sym (c.if-join.ensures.stays refl)) stands) left refl

pub returns-then-lead_in-clause-joined : goal.returns-then-lead_in-clause-joined
returns-then-lead_in-clause-joined c ref named valve come joins names alike few =
    let is = subst (λ (o : Option SetRef). IsCome c.args.delta.now o) c.in-Some-one_come.is c.one_come.ensures in
    let one = one_same (sym is.added ∙ come.added) in
    let zones = c.args.zones.now.zones in
    let seats = c.args.self.now.seats in
    absurd (false≢true
    (c.if-join.ensures.joined named valve
    (subst (λ (r : SetRef). JoinsGroup zones seats c.args.self.now.valves r valve) (sym one) joins)
    (subst (λ (r : SetRef). RefersTo zones r named) (sym one) names)
    (subst (λ (r : SetRef). TellNoOther zones seats r.zone named.name named.rtype valve) (sym one) alike) few).0)

pub returns-then-lead_in-clause-led : goal.returns-then-lead_in-clause-led
returns-then-lead_in-clause-led c ref feeders come comes room =
    let is = subst (λ (o : Option SetRef). IsCome c.args.delta.now o) c.in-Some-one_come.is c.one_come.ensures in
    let one = one_same (sym is.added ∙ come.added) in
    let zones = c.args.zones.now.zones in
    let same = c.if-join.ensures.stays refl in
    let l = c.if-lead_in.ensures.led feeders
    (subst (λ (i : Index). ComesToLead zones i.ids i.numbers i.seats i.valves c.in-Some-one_come.set feeders) (sym same)
    (subst (λ (r : SetRef). ComesToLead zones c.args.self.now.ids c.args.self.now.numbers c.args.self.now.seats c.args.self.now.valves r feeders) (sym one) comes))
    (subst (λ (i : Index). HasRoomForAlias i c.args.zones.now.slots) (sym same) room) in (
      refl,
      subst (λ (i : Index). GetsValve ref feeders i c.lead_in.new.self) same
          (subst (λ (r : SetRef). GetsValve r feeders c.join.new.self c.lead_in.new.self) one l.1),
    )

pub returns-then-lead_in-clause-founded : goal.returns-then-lead_in-clause-founded
returns-then-lead_in-clause-founded c ref members feeders come comes room =
    let is = subst (λ (o : Option SetRef). IsCome c.args.delta.now o) c.in-Some-one_come.is c.one_come.ensures in
    let one = one_same (sym is.added ∙ come.added) in
    let zones = c.args.zones.now.zones in
    let same = c.if-join.ensures.stays refl in
    let leads = c.if-lead_in.ensures.comes refl in
    let now = c.args.self.now in
    absurd (founded_not_led zones c.well_formed-2.ensures now.ids now.numbers now.seats now.valves ref members feeders leads.0
    (subst (λ (r : SetRef). ComesToLead zones now.ids now.numbers now.seats now.valves r leads.0) one
    (subst (λ (i : Index). ComesToLead zones i.ids i.numbers i.seats i.valves c.in-Some-one_come.set leads.0) same leads.1)) comes)

pub found_in-requires-clause-room : goal.found_in-requires-clause-room
found_in-requires-clause-room c =
    subst (λ (i : Index). HasRoom i c.args.zones.now.slots) (sym (c.if-lead_in.ensures.stays refl ∙ c.if-join.ensures.stays refl)) c.requires.room

pub returns-in-Some-one_come-clause-stands : goal.returns-in-Some-one_come-clause-stands
returns-in-Some-one_come-clause-stands c before old reports stands left done =
    c.found_in.ensures.stands before old reports
    (subst (StandsFor before old reports) (sym (c.if-lead_in.ensures.stays refl ∙ c.if-join.ensures.stays refl)) stands) left done

pub returns-in-Some-one_come-clause-joined : goal.returns-in-Some-one_come-clause-joined
returns-in-Some-one_come-clause-joined c ref named valve come joins names alike few =
    let is = subst (λ (o : Option SetRef). IsCome c.args.delta.now o) c.in-Some-one_come.is c.one_come.ensures in
    let one = one_same (sym is.added ∙ come.added) in
    let zones = c.args.zones.now.zones in
    let seats = c.args.self.now.seats in
    absurd (false≢true
    (c.if-join.ensures.joined named valve
    (subst (λ (r : SetRef). JoinsGroup zones seats c.args.self.now.valves r valve) (sym one) joins)
    (subst (λ (r : SetRef). RefersTo zones r named) (sym one) names)
    (subst (λ (r : SetRef). TellNoOther zones seats r.zone named.name named.rtype valve) (sym one) alike) few).0)

pub returns-in-Some-one_come-clause-led : goal.returns-in-Some-one_come-clause-led
returns-in-Some-one_come-clause-led c ref feeders come comes room =
    let is = subst (λ (o : Option SetRef). IsCome c.args.delta.now o) c.in-Some-one_come.is c.one_come.ensures in
    let one = one_same (sym is.added ∙ come.added) in
    let zones = c.args.zones.now.zones in
    let same = c.if-join.ensures.stays refl in
    absurd (false≢true (c.if-lead_in.ensures.led feeders
    (subst (λ (i : Index). ComesToLead zones i.ids i.numbers i.seats i.valves c.in-Some-one_come.set feeders) (sym same)
    (subst (λ (r : SetRef). ComesToLead zones c.args.self.now.ids c.args.self.now.numbers c.args.self.now.seats c.args.self.now.valves r feeders) (sym one) comes))
    (subst (λ (i : Index). HasRoomForAlias i c.args.zones.now.slots) (sym same) room)).0)

pub returns-in-Some-one_come-clause-founded : goal.returns-in-Some-one_come-clause-founded
returns-in-Some-one_come-clause-founded c ref members feeders come comes room =
    let is = subst (λ (o : Option SetRef). IsCome c.args.delta.now o) c.in-Some-one_come.is c.one_come.ensures in
    let one = one_same (sym is.added ∙ come.added) in
    let zones = c.args.zones.now.zones in
    let same = c.if-lead_in.ensures.stays refl ∙ c.if-join.ensures.stays refl in
    let l = c.found_in.ensures.founded members feeders
    (subst (λ (i : Index). ComesFirstOwned zones i.ids i.numbers i.seats i.valves c.in-Some-one_come.set members feeders) (sym same)
    (subst (λ (r : SetRef). ComesFirstOwned zones c.args.self.now.ids c.args.self.now.numbers c.args.self.now.seats c.args.self.now.valves r members feeders) (sym one) comes))
    (subst (λ (i : Index). HasRoomForGroup i (length (valves_of i.seats members)) (length members) c.args.zones.now.slots) (sym same) room) in (
      l.0,
      subst (λ (i : Index). FoundsOwned ref members feeders i c.found_in.new.self) same
          (subst (λ (r : SetRef). FoundsOwned r members feeders c.lead_in.new.self c.found_in.new.self) one l.1),
    )

pub returns-then-leave-clause-adds : goal.returns-then-leave-clause-adds
returns-then-leave-clause-adds c = inl c.if-leave.ensures.adds

pub returns-then-unlead-clause-adds : goal.returns-then-unlead-clause-adds
returns-then-unlead-clause-adds c =
    inl (subst (λ (i : Index). AddsFew c.args.zones.now.slots i c.unlead.new.self) (c.if-leave.ensures.stays refl) c.if-unlead.ensures.adds)

pub returns-in-Some-clause-adds : goal.returns-in-Some-clause-adds
returns-in-Some-clause-adds c =
    inl (subst (λ (i : Index). AddsFew c.args.zones.now.slots i c.unfound.new.self)
    (c.if-unlead.ensures.stays refl ∙ c.if-leave.ensures.stays refl) c.unfound.ensures.adds)

pub returns-then-join-clause-adds : goal.returns-then-join-clause-adds
returns-then-join-clause-adds c = inl c.if-join.ensures.adds

pub returns-then-lead_in-clause-adds : goal.returns-then-lead_in-clause-adds
returns-then-lead_in-clause-adds c =
    inl (subst (λ (i : Index). AddsFew c.args.zones.now.slots i c.lead_in.new.self) (c.if-join.ensures.stays refl) c.if-lead_in.ensures.adds)

pub returns-in-Some-one_come-clause-adds : goal.returns-in-Some-one_come-clause-adds
returns-in-Some-one_come-clause-adds c =
    adds_still c.args.zones.now.zones c.args.zones.now.slots c.args.delta.now _ _ _
    (c.if-lead_in.ensures.stays refl ∙ c.if-join.ensures.stays refl) c.found_in.ensures.adds

pub returns-clause-adds : goal.returns-clause-adds
returns-clause-adds c = inl (adds_nothing _ _ _ refl)
