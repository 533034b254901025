use Rattle.std.proofs.Common.{◌≤◌, ◌∙◌, length, sym, subst}
use Rattle.std.specs.List.{AllByRecursion}
use Rattle.std.proofs.lemmas.Bool.{false≢true}
use Rattle.zone_soundness.proofs.Answered.{isnt}
use Rattle.config_zones.specs.Octets.{HasSpelling}
use Rattle.config_reading.proofs.Extending.{from_sound, has_room, is_last, is_new_zone, sound_with}
use Rattle.config_reading.proofs.Extending.{to_sound, told_room, told_zone, zone_sound}
use Rattle.config_reading.proofs.soundness.opens_soundly.Goals as goal

pub returns-then-not-sound : goal.returns-then-not-sound
returns-then-not-sound c =
    let table = c.args.zones.now in
    let checks = c.args.checks.now.checks in
    let next = c.args.next_zone in
    let new = c.in-Begin in
    isnt (λ opens. false≢true (sym c.if-not-sound.true
    ∙ (told_zone table checks next new.zone new.name new.sets c.collections.result.now
    c.as_slice-sets.result.now c.collections.ensures c.as_slice-sets.ensures c.in_ok-sound.sound
    c.in_ok-sound.ensures).1 (zone_sound table checks next new.zone new.name new.sets
    (to_sound table checks next new.zone new.name new.sets c.args.edit.now new.is opens))))

pub returns-then-not-is_last : goal.returns-then-not-is_last
returns-then-not-is_last c =
    let table = c.args.zones.now in
    let checks = c.args.checks.now.checks in
    let next = c.args.next_zone in
    let new = c.in-Begin in
    isnt (λ opens. false≢true (sym c.if-not-is_last.true
    ∙ c.is_last.ensures.1 (is_last table checks next new.zone new.name new.sets
    (to_sound table checks next new.zone new.name new.sets c.args.edit.now new.is opens))))

pub returns-then-not-is_new_zone : goal.returns-then-not-is_new_zone
returns-then-not-is_new_zone c =
    let table = c.args.zones.now in
    let checks = c.args.checks.now.checks in
    let next = c.args.next_zone in
    let new = c.in-Begin in
    isnt (λ opens. false≢true (sym c.if-not-is_new_zone.true
    ∙ c.is_new_zone.ensures.1 (is_new_zone table checks next new.zone new.name new.sets
    (to_sound table checks next new.zone new.name new.sets c.args.edit.now new.is opens))))

pub has_room-requires-clause-few : goal.has_room-requires-clause-few
has_room-requires-clause-few c =
    let table = c.args.zones.now in
    let checks = c.args.checks.now.checks in
    let new = c.in-Begin in
    let sound = (told_zone table checks c.args.next_zone new.zone new.name new.sets
    c.collections.result.now c.as_slice-sets.result.now c.collections.ensures
    c.as_slice-sets.ensures
    c.in_ok-sound.sound c.in_ok-sound.ensures).0 c.if-not-sound.false in
    subst (λ sets. length sets ≤ 10000) (sym c.as_slice-sets.ensures)
    ((c.refusals_are_told.ensures.none checks.list table.collections.list new.sets).0
    sound.last).few

pub has_room-requires-clause-spelled : goal.has_room-requires-clause-spelled
has_room-requires-clause-spelled c =
    let table = c.args.zones.now in
    let checks = c.args.checks.now.checks in
    let new = c.in-Begin in
    let sound = (told_zone table checks c.args.next_zone new.zone new.name new.sets
    c.collections.result.now c.as_slice-sets.result.now c.collections.ensures
    c.as_slice-sets.ensures
    c.in_ok-sound.sound c.in_ok-sound.ensures).0 c.if-not-sound.false in
    subst (AllByRecursion HasSpelling) (sym c.as_slice-sets.ensures) sound.spelled

pub returns : goal.returns
returns c =
    let table = c.args.zones.now in
    let checks = c.args.checks.now.checks in
    let next = c.args.next_zone in
    let new = c.in-Begin in
    let sound = (told_zone table checks next new.zone new.name new.sets
    c.collections.result.now c.as_slice-sets.result.now c.collections.ensures
    c.as_slice-sets.ensures
    c.in_ok-sound.sound c.in_ok-sound.ensures).0 c.if-not-sound.false in
    let last = c.is_last.ensures.0 c.if-not-is_last.false in
    let is_new = c.is_new_zone.ensures.0 c.if-not-is_new_zone.false in
    let room = told_room table checks next new.zone new.name new.sets c.as_slice-sets.result.now
    c.as_slice-sets.ensures c.has_room.result c.has_room.ensures in (
      λ t. from_sound table checks next new.zone new.name new.sets c.args.edit.now new.is
          (let fits = room.0 t in
          sound_with table checks next new.zone new.name new.sets last.1 is_new c.requires sound
          last.0 fits.0 fits.1),
      λ opens. room.1 (has_room table checks next new.zone new.name new.sets
          (to_sound table checks next new.zone new.name new.sets c.args.edit.now new.is opens)),
    )
