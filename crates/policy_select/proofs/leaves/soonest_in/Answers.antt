use Rattle.std.proofs.Common.{◌∙◌, sym}
use Rattle.std.specs.Option.{option_copied, unwrap_or}
use Rattle.std.proofs.lemmas.List.{length-map}
use Rattle.answer_model.specs.Choice.{each}
use Rattle.answer_model.specs.Policies.{region_of}
use Rattle.zone_table.specs.RecordSetRecord.{RecordSet}
use Rattle.policy_select.specs.Groups.{flags_in, sets_in}
use Rattle.policy_select.specs.Soonest.{slow_each}
use Rattle.policy_select.proofs.Choosing.{same_length}
use Rattle.policy_select.proofs.LeastSlow.{found_is_chosen, slow_is}
use Rattle.policy_select.proofs.leaves.soonest_in.Goals as goal

pub returns : goal.returns
returns g c =
    let client = option_copied c.args.latencies in
    let zones = c.args.zones.now.zones in
    let first = c.args.first.now in
    let test = g.V.HealthView.test c.args.view.now in
    let sets = sets_in zones c.args.group in
    found_is_chosen client (each region_of first sets) (slow_each client first sets) _
    (flags_in zones test c.args.group) _ c.soonest.result c.note_slowness.ensures.noted
    (slow_is client first sets) c.note_healthy.ensures.noted
    (length-map sets (λ (s : RecordSet). unwrap_or (region_of s.routing) first)
    ∙ sym (same_length zones test c.args.group)) c.soonest.ensures
