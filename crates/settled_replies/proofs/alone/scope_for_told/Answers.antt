use Rattle.address_text.specs.declared.address.IpAddress.{IpAddress}
use Rattle.address_text.specs.declared.address.IpAddress.TheVariants.{V4}
use Rattle.std.proofs.Common.{◌∷◌, [], subst}
use Rattle.query_engine.specs.Groups.{sets_in}
use Rattle.reply_records.specs.Groups.{sets_in_zone}
use Rattle.zone_lookup.specs.Clients.{client_with}
use Rattle.settled_replies.specs.Settling.{EndsWithOne}
use Rattle.settled_replies.proofs.alone.scope_for_told.Goals as goal

pub returns-in-Some-clause-none : goal.returns-in-Some-clause-none
returns-in-Some-clause-none g c = λ none tells healthy agrees its.
    let zones = c.args.zones.now.zones in
    let group = c.args.group in
    let peer = V4 (0 ∷ 0 ∷ 0 ∷ 0 ∷ []) in
    c.scope_for.ensures.none none healthy agrees (λ words.
    subst (λ (address : IpAddress). EndsWithOne (record {
      healthy = healthy group.zone;
      client = client_with c.args.tables.now c.args.zones.now.collections.list address;
      words = words;
    }) (sets_in_zone zones group.zone) (sets_in zones group)) (c.in-Some.ensures.is peer) (its peer words))
