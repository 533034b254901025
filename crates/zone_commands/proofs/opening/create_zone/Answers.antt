use Rattle.std.proofs.Common.{◌≡◌, ◌∙◌, ◌+◌, List, sym, subst, length, ap}
use Rattle.std.specs.List.{AllByRecursion, sum_by}
use Rattle.config_zones.specs.CommandRecord.TheVariants.{CreateZone}
use Rattle.config_zones.specs.Batches.{is_over}
use Rattle.config_zones.specs.Configured.{IsEditFor, config_of}
use Rattle.record_set.specs.declared.sets.RecordSet.{RecordSet}
use Rattle.config_zones.specs.Octets.{HasSpelling, set_octets}
use Rattle.config_zones.specs.Counted.{octets_in_all, sets_in_all}
use Rattle.config_zones.specs.ZoneEditRecord.TheVariants.{Begin}
use Rattle.zone_commands.proofs.Opened.{opened, own, refused_early, refused_full}
use Rattle.zone_commands.proofs.opening.create_zone.Goals as goal

pub returns-in-Some : goal.returns-in-Some
returns-in-Some c = λ checks sound.
    refused_early c.args.zones.now c.args.next c.args.name.now c.args.servers.now checks
    c.in-Some.why c.in-Some.ensures

pub is_over_with-requires-clause-spelled : goal.is_over_with-requires-clause-spelled
is_over_with-requires-clause-spelled c =
    let bounded = c.are_names.ensures in
    let its = own c.args.zones.now c.args.next c.args.name.now c.args.servers.now
    c.requires.sound.0 c.in_default.ensures c.one_name_of_a_wire.ensures
    c.refusals_are_told.ensures bounded.0 bounded.1 bounded.2 in
    subst (λ (l : List RecordSet). AllByRecursion HasSpelling l)
    (sym (c.as_slice.ensures.value ∙ c.in-Ok.ensures)) its.spelled

pub returns-then-is_over_with : goal.returns-then-is_over_with
returns-then-is_over_with c = λ checks sound.
    let zones = c.args.zones.now.zones in
    let over = sym (ap (λ (l : List RecordSet). is_over (sets_in_all zones + length l)
    (octets_in_all zones + sum_by (λ set. length (set_octets set)) l))
    (c.as_slice.ensures.value ∙ c.in-Ok.ensures)) in
    refused_full c.args.zones.now c.args.next c.args.name.now c.args.servers.now checks
    c.in_default.ensures c.counts_agree.ensures
    (over ∙ (sym c.is_over_with.ensures ∙ c.if-is_over_with.true))

pub returns : goal.returns
returns c = λ checks sound.
    let zones = c.args.zones.now.zones in
    let bounded = c.are_names.ensures in
    let over = sym (ap (λ (l : List RecordSet). is_over (sets_in_all zones + length l)
    (octets_in_all zones + sum_by (λ set. length (set_octets set)) l))
    (c.as_slice.ensures.value ∙ c.in-Ok.ensures)) in
    subst (λ (l : List RecordSet). IsEditFor (config_of c.args.zones.now checks c.args.next)
    (CreateZone c.args.name.now c.args.servers.now) c.args.zones.now
    (Begin c.args.next c.args.name.now l))
    (sym (c.from_vec.ensures ∙ c.in-Ok.ensures))
    (opened c.args.zones.now c.args.next c.args.name.now c.args.servers.now checks
    c.in_default.ensures c.one_name_of_a_wire.ensures c.refusals_are_told.ensures bounded.0
    bounded.1 bounded.2 sound c.zones_are_found.ensures c.counts_agree.ensures
    c.edits_are_told.ensures (over ∙ (sym c.is_over_with.ensures ∙ c.if-is_over_with.false)))
