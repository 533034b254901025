use Rattle.std.proofs.Common.{ℕ, subst}
use Rattle.query_engine.specs.Served.{zone_of}
use Rattle.reply_records.specs.Delegating.{Delegates}
use Rattle.reply_records.specs.Groups.{sets_in_zone}
use Rattle.settled_replies.proofs.Answering.{writes_no_data, writes_no_name, writes_referral}
use Rattle.settled_replies.specs.Findings.{CanBeWritten, HasSections}
use Rattle.settled_replies.specs.declared.findings.Finding.{Finding}
use Rattle.settled_replies.proofs.settling.write_finding.Goals as goal

pub returns-in-NoData : goal.returns-in-NoData
returns-in-NoData c = λ found has.
    let zones = c.args.zones.now.zones in
    let zone = zone_of zones c.args.zone c.args.apex.now in
    writes_no_data c.args.reply.now c.write_soa.new.reply zone found
    (subst (λ (its : Finding). HasSections zones zone c.args.name.now c.args.scratch.now its found) c.in-NoData.is has)
    c.write_soa.ensures

pub returns-in-NoName : goal.returns-in-NoName
returns-in-NoName c = λ found has.
    let zones = c.args.zones.now.zones in
    let zone = zone_of zones c.args.zone c.args.apex.now in
    writes_no_name c.args.reply.now c.write_soa-in-NoName.new.reply zone found
    (subst (λ (its : Finding). HasSections zones zone c.args.name.now c.args.scratch.now its found) c.in-NoName.is has)
    c.write_soa-in-NoName.ensures

pub returns-in-Referral : goal.returns-in-Referral
returns-in-Referral c = λ found has.
    let zones = c.args.zones.now.zones in
    let zone = zone_of zones c.args.zone c.args.apex.now in
    let cut = subst (λ (its : Finding). CanBeWritten zones zone c.args.name.now c.args.scratch.now its)
    c.in-Referral.is c.requires.there in
    let its = subst (λ (its : Finding). HasSections zones zone c.args.name.now c.args.scratch.now its found)
    c.in-Referral.is has in
    writes_referral c.args.reply.now c.write_delegation.new.reply (sets_in_zone zones c.args.zone) its.0 found its.2
    (subst (λ (id : ℕ). Delegates (sets_in_zone zones id) its.0 c.args.reply.now c.write_delegation.new.reply) cut.in_zone
    (c.write_delegation.ensures its.0 its.1))
