use Rattle.std.proofs.Common.{◌∷◌, [], ℕ, List, subst}
use Rattle.dns_wire.specs.declared.reply.Section.TheVariants.{Answer}
use Rattle.rdata_layout.specs.declared.types.RType.TheVariants as rtype
use Rattle.reply_records.specs.Writing.{Writes}
use Rattle.query_engine.proofs.Stepping.{first_value}
use Rattle.query_engine.proofs.steps.write_cname.Goals as goal

pub returns : goal.returns
returns c = λ set rdata held first.
    subst (λ (x : List ℕ). Writes Answer (record {
      owner = c.args.name.now;
      rtype = rtype.Cname;
      ttl = c.args.ttl;
      rdata = x;
    } ∷ []) c.args.reply.now c.write_one.new.reply)
    (first_value c.args.scratch.now set c.value.result.now rdata held c.value.ensures.wire first)
    c.write_one.ensures
