use Rattle.std.proofs.Common.{◌≡◌, ◌∷◌, [], List, Option, arith, subst, sym}
use Rattle.std.specs.Prelude.{◌↔◌, IfSome, IsTrue}
use Rattle.address_text.specs.declared.address.IpAddress.TheVariants.{V4}
use Rattle.routing.specs.declared.policies.Routing.TheVariants as policy
use Rattle.settled_replies.specs.Alone.{IsFailover}
use Rattle.dns_message.specs.Whole.{subnet_of}
use Rattle.query_engine.specs.Groups.{sets_in}
use Rattle.record_set.specs.declared.sets.RecordSet.{RecordSet}
use Rattle.reply_records.specs.Groups.{sets_in_zone}
use Rattle.zone_lookup.specs.Clients.{client_address, client_with}
use Rattle.record_set.specs.Reasons.{IsAlias}
use Rattle.zone_lookup.specs.Descent.{Means, descend, no_choices, unused}
use Rattle.settled_replies.proofs.Descending.{alias_leads_on, all_by, ends_for_all, simple_ends}
use Rattle.settled_replies.proofs.Answering.{no_scope}
use Rattle.settled_replies.proofs.Cases.{of_held}
use Rattle.settled_replies.proofs.Lasting.{first_of}
use Rattle.settled_replies.specs.Settling.{EndsWithOne}
use Rattle.settled_replies.proofs.alone.scope_of_one.Goals as goal

pub returns-else-is_alias-clause-comes : goal.returns-else-is_alias-clause-comes
returns-else-is_alias-clause-comes g c =
    let zones = c.args.zones.now.zones in
    let group = c.args.group in
    let first = c.load_first.ensures in
    let others = first_of (sets_in zones group) first.0 first.1 in
    let told = of_held (λ set. IsTrue c.is_alias.result ↔ IsAlias set.body) c.load_first.new.scratch first.0 first.2 c.is_alias.ensures in
    let values : IsAlias first.0.body → ⊥ = λ alias.
    let is = told.1 alias in absurd (grind (arith, is, c.if-is_alias.false)) in
    let simple = sym (of_held (λ set. policy.Simple ≡ set.routing) c.load_first.new.scratch first.0 first.2 c.in-Simple.ensures) in (
      first.0,
      first.2,
      λ healthy agrees peer.
          let subnet = subnet_of c.args.edns.now in
          let client = client_with c.args.tables.now c.args.zones.now.collections.list (client_address subnet peer) in (
            unused,
            (
              λ words.
                  let by : Means = record { healthy = healthy group.zone; client = client; words = words } in
                  subst (λ (l : List RecordSet). descend by (sets_in_zone zones group.zone) l no_choices
                  ≡ record { sets = first.0 ∷ []; choices = record { count = 1; used = unused } }) (sym others.1)
                  (simple_ends by (sets_in_zone zones group.zone) first.0 others.0 simple values),
              no_scope subnet client,
            ),
          ),
    )

pub returns-in-Some-clause-comes : goal.returns-in-Some-clause-comes
returns-in-Some-clause-comes g c =
    let zones = c.args.zones.now.zones in
    let group = c.args.group in
    let first = c.load_first.ensures in
    let others = first_of (sets_in zones group) first.0 first.1 in
    let role : IsFailover first.0.routing = (
      c.in-Failover.field-0,
      c.in-Failover.field-1,
      sym (subst (λ (o : Option RecordSet). IfSome o (λ set. policy.Failover c.in-Failover.field-0
          c.in-Failover.field-1 ≡ set.routing)) first.2 c.in-Failover.ensures),
    ) in
    let its = c.in-Some.ensures.comes in (
      its.0,
      its.1,
      λ healthy agrees peer.
          let one = its.2 healthy agrees in
          let subnet = subnet_of c.args.edns.now in
          let client = client_with c.args.tables.now c.args.zones.now.collections.list (client_address subnet peer) in (
            unused,
            (
              all_by (healthy group.zone) (sets_in_zone zones group.zone) (sets_in zones group) first.0 others.0
                  others.1 role _ its.0 one.0 one.1.0 client,
              no_scope subnet client,
            ),
          ),
    )

pub returns-then-is_alias-clause-none : goal.returns-then-is_alias-clause-none
returns-then-is_alias-clause-none g c = λ none own at sure healthy agrees its.
    let zones = c.args.zones.now.zones in
    let group = c.args.group in
    let first = c.load_first.ensures in
    let others = first_of (sets_in zones group) first.0 first.1 in
    let told = of_held (λ set. IsTrue c.is_alias.result ↔ IsAlias set.body) c.load_first.new.scratch first.0 first.2 c.is_alias.ensures in
    let simple = sym (of_held (λ set. policy.Simple ≡ set.routing) c.load_first.new.scratch first.0 first.2 c.in-Simple.ensures) in
    let peer = V4 (0 ∷ 0 ∷ 0 ∷ 0 ∷ []) in
    let by : Means = record {
      healthy = healthy group.zone;
      client = client_with c.args.tables.now c.args.zones.now.collections.list (client_address (subnet_of c.args.edns.now) peer);
      words = [];
    } in
    alias_leads_on by (sets_in_zone zones group.zone) first.0 others.0 simple (told.0 c.if-is_alias.true)
    (subst (λ (l : List RecordSet). EndsWithOne by (sets_in_zone zones group.zone) l) others.1 (its peer []))

pub returns-in-None-clause-none : goal.returns-in-None-clause-none
returns-in-None-clause-none g c = λ none own at sure healthy agrees its.
    let zones = c.args.zones.now.zones in
    let group = c.args.group in
    let first = c.load_first.ensures in
    let others = first_of (sets_in zones group) first.0 first.1 in
    let role : IsFailover first.0.routing = (
      c.in-Failover.field-0,
      c.in-Failover.field-1,
      sym (of_held (λ set. policy.Failover c.in-Failover.field-0 c.in-Failover.field-1 ≡ set.routing)
          c.load_first.new.scratch first.0 first.2 c.in-Failover.ensures),
    ) in
    let nobody = V4 (0 ∷ 0 ∷ 0 ∷ 0 ∷ []) in
    let collections = c.args.zones.now.collections.list in
    let client = client_with c.args.tables.now collections (client_address (subnet_of c.args.edns.now) nobody) in
    let other = client_with c.args.tables.now collections nobody in
    c.scope_for.ensures.none c.in-None.is healthy agrees (λ words.
    subst (λ (l : List RecordSet). EndsWithOne (record { healthy = healthy group.zone; client = other; words = words })
    (sets_in_zone zones group.zone) l) (sym others.1)
    (ends_for_all (healthy group.zone) (sets_in_zone zones group.zone) first.0 others.0 role client other words words
    (subst (λ (l : List RecordSet). EndsWithOne (record {
      healthy = healthy group.zone;
      client = client;
      words = words;
    }) (sets_in_zone zones group.zone) l) others.1 (its nobody words))))
