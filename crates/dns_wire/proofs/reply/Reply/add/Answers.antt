use Rattle.std.proofs.Common.{◌≡◌, ◌∙◌, ap, sym, arith, length, take, List, ℕ}
use Rattle.std.specs.Vec.{with_items}
use Rattle.std.proofs.lemmas.List.{with_items_is, length-take-le}
use Rattle.dns_wire.specs.Draft.{Draft}
use Rattle.dns_wire.specs.Steps.{emptied}
use Rattle.dns_wire.specs.Message.{Record, record_octets}
use Rattle.dns_wire.proofs.Drafts.{too_long}
use Rattle.dns_wire.proofs.Pieces.{stays}
use Rattle.dns_wire.proofs.reply.Reply.add.Goals as goal

pub returns-then-end-self : goal.returns-then-end-self
returns-then-end-self c =
    let inside = c.self.inside in
    let after = c.add_record-end.new.buffer in
    let items : (with_items inside.buffer after).items ≡ after =
    with_items_is inside.buffer after
    (omega (arith, c.add_record-end.auto.buffer, c.deref_mut.ensures.len)) in
    let same : take inside.len after ≡ take inside.len c.deref_mut.result.now =
    stays c.deref_mut.result.now after _ inside.len c.add_record-end.result
    (omega (
      arith,
      c.self.invariant.within,
      c.self.invariant.spare,
      ap length c.deref_mut.ensures.value,
    )) (omega (arith, c.add_record-end.ensures.end))
    c.add_record-end.ensures.written in
    let bytes : take inside.len (with_items inside.buffer after).items
    ≡ take inside.len inside.buffer.items = ap (take inside.len) items ∙ same
    ∙ ap (take inside.len) c.deref_mut.ensures.value in
    let long : length (take inside.len inside.buffer.items) ≡ inside.len =
    length-take-le inside.len inside.buffer.items
    (omega (arith, c.self.invariant.within, c.self.invariant.spare)) in
    let r : Record =
    record {
      owner = c.args.owner.now;
      rtype = c.args.rtype;
      ttl = c.args.ttl;
      rdata =
          c.args.wire.now;
    } in
    c.empty.ensures
    ∙ ap (λ (b : List ℕ). emptied (record {
      room = inside.room;
      id = inside.id;
      rd = inside.rd;
      name = inside.name;
      edns = inside.edns;
      question_end = inside.question_end;
      is_truncated = inside.is_truncated;
      answers = inside.answers;
      authorities = inside.authorities;
      additionals = inside.additionals;
      bytes = b;
    })) bytes
    ∙ ap emptied c.self.view_is
    ∙ sym (too_long c.args.section _ c.args.self.now
    (ap (λ (d : Draft). d.is_truncated) (sym c.self.view_is)
    ∙ c.if-self.false)
    (omega (
      arith,
      ap (λ (d : Draft). d.room) c.self.view_is,
      ap (λ (d : Draft). length d.bytes) c.self.view_is,
      ap (λ (d : Draft). length (record_octets d.name r)) c.self.view_is,
      long,
      c.if-end-self.true,
      c.add_record-end.ensures.end,
    )))
