use Rattle.std.proofs.Common.{◌≡◌, subst, sym, ◌∙◌}
use Rattle.std.proofs.lemmas.Option.{same_Some}
use Rattle.zone_table.specs.RecordSetRecord.{RecordSet}
use Rattle.policy_select.specs.Rules.{IsOf}
use Rattle.policy_select.specs.declared.rules.Rule.{Rule}
use Rattle.policy_select.specs.declared.rules.Rule.TheVariants as rules
use Rattle.answer_model.specs.Clients.{client_with}
use Rattle.policy_select.specs.Groups.{flags_in, sets_in}
use Rattle.policy_select.proofs.Choosing.{of_weighted}
use Rattle.policy_select.proofs.selection.choose.Goals as goal

pub returns-in-Weighted-clause-selected : goal.returns-in-Weighted-clause-selected
returns-in-Weighted-clause-selected g c =
    let first = c.requires.first in
    let client = client_with c.args.tables.now c.args.zones.now.collections.list c.args.client in
    of_weighted c.args.group (sets_in c.args.zones.now.zones c.args.group)
    (flags_in c.args.zones.now.zones (g.V.HealthView.test c.args.view.now) c.args.group) client.rows
    c.args.word first.0 c.args.rule.now c.in-Weighted.weight c.choose_weighted.result
    c.one-in-Weighted.result first.1 first.2 c.in-Weighted.is c.choose_weighted.ensures
    c.one-in-Weighted.ensures

pub region_of_first-region-requires-clause-latency : goal.region_of_first-region-requires-clause-latency
region_of_first-region-requires-clause-latency g c set at =
    let first = c.requires.first in
    let same : first.0 ≡ set = same_Some first.0 set (sym first.1 ∙ at) in
    subst (λ (s : RecordSet). IsOf rules.Latency s.routing) same
    (subst (λ (r : Rule). IsOf r first.0.routing) c.in-Latency.is first.2)
