use Rattle.std.proofs.Common.{refl}
use Rattle.zone_lookup.specs.Sections.{referral}
use Rattle.reply_records.specs.Groups.{sets_in_zone}
use Rattle.query_engine.proofs.Added.{authorities_and_more}
use Rattle.query_engine.proofs.ends.answer_referral.Goals as goal

pub returns-clause-ends : goal.returns-clause-ends
returns-clause-ends c = λ set used first.
    let wrote = c.write_delegation.ensures set first in record {
      adds = authorities_and_more
          (referral (sets_in_zone c.args.zones.now.zones c.args.cut.zone) set used)
          c.args.reply.now wrote.middle c.write_delegation.new.reply refl wrote.servers wrote.glue;
      aa = refl;
      rcode = refl;
      uses = refl;
    }
