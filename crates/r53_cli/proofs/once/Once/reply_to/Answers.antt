use Rattle.std.proofs.Common.{List, [], ◌∷◌, ℕ, refl, ap, ◌∙◌, inl, inr, true, false}
use Rattle.rdata_layout.specs.declared.types.RType.{RType}
use Rattle.dns_wire.specs.Draft.{reply_to}
use Rattle.dns_wire.specs.Message.{Message, octets_within}
use Rattle.dns_wire.specs.Limit.{limit_of}
use Rattle.r53_cli.proofs.Endings.{finished}
use Rattle.r53_cli.proofs.once.Once.reply_to.Goals as goal

pub finish-requires-clause-begun : goal.finish-requires-clause-begun
finish-requires-clause-begun c = (_, c.record.ensures.stands _ c.begin.ensures.stands (refl, refl))

pub returns-then-is_asked-clause-replied : goal.returns-then-is_asked-clause-replied
returns-then-is_asked-clause-replied c =
    let query = c.args.query.now in
    let with_answer : RType → List ℕ → Message = λ rtype octets.
    record (reply_to query) {
      answers =
          record { owner = query.name; rtype = rtype; ttl = c.args.self.now.ttl; rdata = octets } ∷ [];
    } in
    let answer : RType → List ℕ → List ℕ = λ rtype octets.
    octets_within (record (with_answer rtype octets) { aa = true; rcode = 0 }) (limit_of query.edns) in
    let written =
    finished (with_answer c.rtype.result c.wire.result.now) true 0 0 _ query.edns _ _ _
    (c.finish.ensures.bytes _ (c.record.ensures.stands _ c.begin.ensures.stands (refl, refl)))
    refl (c.record.ensures.edns ∙ c.begin.ensures.edns) c.limit_of.ensures.limit in
    inl (
      c.is_asked.ensures.0 c.if-is_asked.true,
      written ∙ (ap (λ (rtype : RType). answer rtype c.wire.result.now) c.rtype.ensures
          ∙ ap (λ (octets : List ℕ). answer c.args.self.now.address.rtype octets)
          c.wire.ensures.octets),
    )

pub returns-else-is_asked-clause-replied : goal.returns-else-is_asked-clause-replied
returns-else-is_asked-clause-replied c =
    inr (
      λ a. let t = c.is_asked.ensures.1 a in let f = c.if-is_asked.false in
          cc,
      finished (reply_to c.args.query.now) false _ 5 _ c.args.query.now.edns _ _ _
          (c.finish-else-is_asked.ensures.bytes _ c.begin.ensures.stands) c.from.ensures
          c.begin.ensures.edns c.limit_of-else-is_asked.ensures.limit,
    )
