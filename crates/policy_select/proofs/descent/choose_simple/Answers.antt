use Rattle.policy_select.specs.Groups.{flags_in, sets_in}
use Rattle.policy_select.proofs.Choosing.{simple_held, simple_is, simple_last, simple_places, simple_uses}
use Rattle.policy_select.proofs.Choosing.{some_sets}
use Rattle.policy_select.proofs.descent.choose_simple.Goals as goal

pub returns-clause-selected : goal.returns-clause-selected
returns-clause-selected c = λ test client word.
    let zones = c.args.zones.now.zones in
    let first = c.requires.first in
    simple_is c.args.group (sets_in zones c.args.group) (flags_in zones test c.args.group)
    client.rows word first.0 c.one.result first.1 first.2 c.one.ensures

pub returns-clause-used : goal.returns-clause-used
returns-clause-used c = λ client used.
    let first = c.requires.first in
    simple_uses client (sets_in c.args.zones.now.zones c.args.group) first.0 used first.1 first.2

pub returns-clause-some : goal.returns-clause-some
returns-clause-some c =
    some_sets (sets_in c.args.zones.now.zones c.args.group) c.requires.first.0 c.requires.first.1

pub returns-clause-last : goal.returns-clause-last
returns-clause-last c =
    let first = c.requires.first in
    simple_last c.args.zones.now.zones c.args.group c.one.result first.0 c.one.ensures first.1
    first.4

pub returns-clause-places : goal.returns-clause-places
returns-clause-places c =
    simple_places c.args.zones.now.zones c.args.group c.one.result c.one.ensures c.requires.group
    c.requires.some

pub returns-clause-held : goal.returns-clause-held
returns-clause-held c =
    let first = c.requires.first in
    simple_held c.args.zones.now.zones c.args.group c.one.result c.args.scratch.now first.0
    c.one.ensures first.3 first.1
