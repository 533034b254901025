use Rattle.std.proofs.Common.{◌≡◌, ◌*◌, ◌%◌, ◌^◌, ◌∙◌, ℕ, List, ap, length, refl, subst}
use Rattle.zone_list.specs.SumsRecord.{Sums}
use Rattle.zone_list.proofs.Among.{among_at}
use Rattle.zone_list.specs.Kept.{zones_in}
use Rattle.zone_finding.specs.Looking.{ServersAreAt}
use Rattle.zone_finding.proofs.Naming.{one_name}
use Rattle.zone_finding.proofs.Cuts.{all_at}
use Rattle.zone_finding.proofs.Naming.{apex_at, are_zones, it_is, none_is}
use Rattle.zone_finding.proofs.looking.may_have_cuts.Goals as goal

pub returns-in_default : goal.returns-in_default
returns-in_default c = λ no apex its.
    absurd ((none_is c.args.store.now.slots c.args.list.now c.requires.kept c.args.zone
    c.in_default.ensures).0 (its.0, its.1, its.2))

pub returns-then-sums-least : goal.returns-then-sums-least
returns-then-sums-least c = λ no apex its.
    let slots = c.args.store.now.slots in
    let list = c.args.list.now in
    let zones = zones_in slots list in
    let i = c.in-Some.place in
    let k = c.index-list-place.result in
    let it = it_is list c.args.zone i c.in-Some.ensures k c.index-list-place.is in
    let there = among_at list i k it.1 in
    let servers : c.sums-sums.result.servers ≡ k.sums.servers =
    ap (λ (s : Sums). s.servers) c.sums-sums.ensures in
    let made : (c.sums-sums.result.servers * c.labels.result) % 2 ^ 64
    ≡ (k.sums.servers * length k.apex) % 2 ^ 64 =
    ap (λ (n : ℕ). (n * c.labels.result) % 2 ^ 64) servers
    ∙ ap (λ (n : ℕ). (k.sums.servers * n) % 2 ^ 64) (c.labels.ensures
    ∙ ap (λ (n : List (List ℕ)). length n) c.apex.ensures) in
    let its_own = apex_at slots list c.args.zone i c.in-Some.ensures k it.0 c.index-list-place.is in
    let same : k.apex ≡ apex =
    one_name zones (are_zones slots list c.requires.kept).listed c.args.zone c.args.zone k.apex apex refl
    its_own its in
    subst (ServersAreAt zones c.args.zone) same
    (all_at c.args.store.now list c.requires.counted.0 c.requires.kept c.requires.counted.1 c.requires.few
    c.args.zone k there it.2 c.sums-sums.result.labels
    ((c.sums-sums.result.servers * c.labels.result) % 2 ^ 64)
    (ap (λ (s : Sums). s.labels) c.sums-sums.ensures) made c.if-sums-least.true)
