use Rattle.std.proofs.Common.{◌≡◌, ℕ, ◌∷◌, [], ap, arith, subst}
use Rattle.std.specs.Prelude.{map, min}
use Rattle.policy_select.specs.Records.{data_of, minimum_of, soa_record, ttl_of}
use Rattle.dns_wire.specs.declared.reply.Section.TheVariants.{Authority}
use Rattle.rdata_layout.specs.declared.types.RType.TheVariants as rtype
use Rattle.reply_records.specs.Writing.{Writes}
use Rattle.reply_records.proofs.Written.{all_of, map_more, same, still_open}
use Rattle.reply_records.proofs.negative.write_held_soa.Goals as goal

pub loop-i-preserved : goal.loop-i-preserved
loop-i-preserved c =
    let adds = c.records_add_up.ensures in
    let rdata = c.rdata_at-rdata.result.now in record {
      still_open = still_open adds Authority _ c.loop-i.reply c.write_one.new.reply
          c.loop-i.invariant.still_open c.write_one.ensures;
      written = λ set held.
          let told = c.ttl_of-ttl.ensures set held in
          let last = c.minimum.ensures in
          let least = c.min-negative.ensures in
          let ttl : c.min-negative.result ≡ min (ttl_of set.body) (minimum_of rdata) =
          cc (told, last, least) in
          map_more adds Authority (soa_record c.args.apex.now (ttl_of set.body)) (data_of set.body)
          c.loop-i.i rdata c.args.reply.now c.loop-i.reply c.write_one.new.reply
          (c.rdata_at-rdata.ensures.at set held) (c.loop-i.invariant.written set held)
          (subst (λ (n : ℕ). Writes Authority (record {
            owner = c.args.apex.now;
            rtype = rtype.Soa;
            ttl = n;
            rdata = rdata;
          } ∷ []) c.loop-i.reply c.write_one.new.reply) ttl c.write_one.ensures);
    }

pub returns : goal.returns
returns c = λ set held.
    let counted = c.count_of-i-end.ensures.count set held in
    let behind = c.loop-i-test.false in
    same Authority _ _ c.args.reply.now c.loop-i.reply
    (ap (map (soa_record c.args.apex.now (ttl_of set.body)))
    (all_of (data_of set.body) c.loop-i.i (omega (arith, counted, behind))))
    (c.loop-i.invariant.written set held)
