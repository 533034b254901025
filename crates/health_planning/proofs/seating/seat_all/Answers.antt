use Rattle.std.proofs.Common.{◌≡◌, arith, refl, ◌∙◌, inl, inr}
use mathlib.Core.Path.{subst}
use Rattle.std.proofs.lemmas.Bool.{cases_lt}
use Rattle.policy_select.specs.Found.{NextZoneOrNone}
use Rattle.policy_select.proofs.MembersOfZoneList.{in_all}
use Rattle.policy_select.specs.Zones.{StandsAlone}
use Rattle.health_planning.proofs.ListedOnce.{its_zone, up_to}
use Rattle.health_planning.proofs.Told.{bare_told, seats_trans}
use Rattle.health_planning.proofs.seating.seat_all.Goals as goal

pub loop-next-init : goal.loop-next-init
loop-next-init c = record {
  told = λ id p to here.
      let z = its_zone c.args.zones.now.zones id p here in
      let n = (in_all StandsAlone c.args.zones.now.zones z.0 c.well_formed-2.ensures.each z.1.0).numbered in
      let e = z.1.1 in
      absurd (omega arith);
  stays = λ p zone here told. told;
  each = λ slot. inl (refl, refl);
  groups = λ slot. refl;
  size = refl;
  room = refl;
}

pub loop-next-preserved : goal.loop-next-preserved
loop-next-preserved c =
    let zones = c.args.zones.now.zones in
    let i = c.loop-next.invariant in
    let o = c.seat_zone.ensures in
    let next = subst (NextZoneOrNone zones c.loop-next.zone) c.in-Some.is c.zone_after.ensures in
    record {
      told = λ id p to here. elim (cases_lt c.loop-next.zone id) [
        | inl past ↦
            let z = its_zone zones id p here in
            let its = z.1.1 in
            let least = next.least z.0 z.1.0 (omega arith) in
            let same : id ≡ c.in-Some.next = omega arith in
            o.told p (rw same at here)
            (λ none. i.stays p id here (bare_told c.args.ids.now c.args.numbers.now c.args.seats.now.items p none (c.requires.bare p.slot).0))
        | inr before ↦ o.stays p id here (i.told id p (omega arith) here)
      ];
      stays = λ p zone here told. o.stays p zone here (i.stays p zone here told);
      each = λ slot. seats_trans _ _ _ slot zones (i.each slot) (o.each slot);
      groups = λ slot. o.groups slot ∙ i.groups slot;
      size = o.size ∙ i.size;
      room = o.room ∙ i.room;
    }

pub returns-clause-told : goal.returns-clause-told
returns-clause-told c id p here =
    let none = subst (NextZoneOrNone c.args.zones.now.zones c.loop-next.zone) c.in_default.is c.zone_after.ensures in
    c.loop-next.invariant.told id p (up_to c.args.zones.now.zones id c.loop-next.zone p none here) here

pub seat_zone-requires-clause-slots : goal.seat_zone-requires-clause-slots
seat_zone-requires-clause-slots c = let same = c.loop-next.invariant.size in let slots = c.requires.slots in omega arith
