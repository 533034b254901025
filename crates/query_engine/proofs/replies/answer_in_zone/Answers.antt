use Rattle.std.proofs.Common.{◌∙◌, ap, arith, refl, subst}
use Rattle.address_text.specs.declared.address.IpAddress.{IpAddress}
use Rattle.zone_lookup.specs.Clients.{client_address, client_with}
use Rattle.zone_lookup.specs.Descent.{no_choices}
use Rattle.zone_lookup.specs.Reply.{told_scope}
use Rattle.zone_lookup.specs.Sections.{look_up, sections}
use Rattle.zone_lookup.specs.UsedRecord.{Used}
use Rattle.dns_message.specs.Whole.{subnet_of}
use Rattle.dns_wire.specs.Draft.{reply_to}
use Rattle.dns_wire.specs.Limit.{limit_of}
use Rattle.reply_records.specs.Groups.{by_key}
use Rattle.query_engine.specs.Adding.{with_sections}
use Rattle.query_engine.specs.Asking.{EndsAs, asked_of}
use Rattle.query_engine.proofs.Finishing.{finished, found_inside}
use Rattle.query_engine.proofs.replies.answer_in_zone.Goals as goal

pub look_up-end-requires-clause-inside : goal.look_up-end-requires-clause-inside
look_up-end-requires-clause-inside g c =
    found_inside c.zones_are_longest.ensures c.args.zones.now.zones c.args.query.now.name
    c.args.zone c.args.apex.now c.requires.zone

pub finish-requires-clause-begun : goal.finish-requires-clause-begun
finish-requires-clause-begun g c =
    let zones = c.args.zones.now.zones in
    let test = g.V.HealthView.test c.args.view.now in
    let found = c.look_up-end.ensures.found (by_key zones test)
    (c.views_agree.ensures zones test c.well_formed-2.ensures) in
    (_, found.adds.stands (reply_to c.args.query.now) c.begin.ensures.stands (refl, refl))

pub finish-requires-clause-most : goal.finish-requires-clause-most
finish-requires-clause-most g c =
    let zones = c.args.zones.now.zones in
    let test = g.V.HealthView.test c.args.view.now in
    let found = c.look_up-end.ensures.found (by_key zones test)
    (c.views_agree.ensures zones test c.well_formed-2.ensures) in
    let same = found.adds.room in
    let begun = c.begin.ensures.room in
    let room = c.requires.room in
    let most = c.limit_of.ensures.most in
    omega (arith, same, begun, room, most)

pub returns-clause-room : goal.returns-clause-room
returns-clause-room g c =
    let zones = c.args.zones.now.zones in
    let test = g.V.HealthView.test c.args.view.now in
    let found = c.look_up-end.ensures.found (by_key zones test)
    (c.views_agree.ensures zones test c.well_formed-2.ensures) in
    c.finish.ensures.room ∙ (found.adds.room ∙ c.begin.ensures.room)

pub returns-clause-bytes : goal.returns-clause-bytes
unfolding sections
returns-clause-bytes g c = λ healthy agrees.
    let zones = c.args.zones.now.zones in
    let collections = c.args.zones.now.collections.list in
    let tables = c.args.tables.now in
    let query = c.args.query.now in
    let client = client_address (subnet_of query.edns) c.args.peer in
    let found = subst (λ (a : IpAddress). EndsAs (look_up 8 (asked_of zones collections healthy
    tables (record {
      zone = c.args.zone;
      apex = c.args.apex;
      qtype = query.qtype;
      client = a;
      words = c.args.words;
    })) query.name no_choices) c.begin.new.self c.look_up-end.new.reply c.look_up-end.result
    c.look_up-end.new.progress.used) c.client_address-client.ensures
    (c.look_up-end.ensures.found healthy agrees) in
    let s = look_up 8 (asked_of zones collections healthy tables (record {
      zone = c.args.zone;
      apex = c.args.apex;
      qtype = query.qtype;
      client = client;
      words = c.args.words;
    })) query.name no_choices in
    c.finish.ensures.bytes (with_sections s (reply_to query))
    (found.adds.stands (reply_to query) c.begin.ensures.stands (refl, refl))
    ∙ finished query s c.look_up-end.result.aa c.look_up-end.result.rcode
    c.look_up-end.new.reply.edns c.told_scope-scope.result
    (told_scope (subnet_of query.edns) (client_with tables collections client) s.used)
    c.limit_of.result (limit_of query.edns) found.aa found.rcode
    (found.adds.edns ∙ c.begin.ensures.edns)
    (c.told_scope-scope.ensures
    ∙ (ap (λ (a : IpAddress). told_scope (subnet_of query.edns) (client_with tables collections a)
    c.look_up-end.new.progress.used) c.client_address-client.ensures
    ∙ ap (λ (u : Used). told_scope (subnet_of query.edns) (client_with tables collections client) u)
    found.uses)) c.limit_of.ensures.limit
