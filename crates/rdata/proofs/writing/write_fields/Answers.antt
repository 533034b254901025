use Rattle.std.proofs.Common.{◌≡◌, ◌+◌, ◌++◌, arith, rules, ap, sym, ◌∙◌, get_or, length, take, drop, subst}
use Rattle.field_text.specs.FieldRecord.TheVariants.{Ipv4}
use Rattle.field_text.specs.Layout.{AreFields}
use Rattle.field_text.specs.Written.{text_of_field}
use Rattle.rdata.specs.Written.{field_texts, separated, joined_from}
use Rattle.field_text.specs.Fields.{field_size}
use Rattle.rdata.proofs.Placing.{drop_on}
use Rattle.rdata.proofs.Fronts.{field_there}
use Rattle.rdata.proofs.writing.write_fields.Goals as goal

pub field_in_front-piece-requires : goal.field_in_front-piece-requires
field_in_front-piece-requires c =
    let i = c.loop-kind.invariant in
    let f = field_there c.args.kinds.now c.loop-kind.kind-index Ipv4 c.args.tail c.args.octets.now
    c.loop-kind.at c.loop-kind-test.true i.within
    i.fields in
    (f.piece, f.rest, f.is, c.behind.ensures ∙ f.whole)

pub loop-kind-preserved : goal.loop-kind-preserved
loop-kind-preserved c =
    let i = c.loop-kind.invariant in
    let f = field_there c.args.kinds.now c.loop-kind.kind-index Ipv4 c.args.tail c.args.octets.now
    c.loop-kind.at c.loop-kind-test.true i.within
    i.fields in
    let p = c.field_in_front-piece.ensures in
    let w = c.write_next-end.ensures in
    let kind = get_or c.args.kinds.now c.loop-kind.kind-index Ipv4 in
    let here = drop c.loop-kind.at c.args.octets.now in
    let n = field_size kind here in
    let size : length c.field_in_front-piece.result.now ≡ n = p.len
    ∙ ap (field_size kind) c.behind.ensures in
    let piece : c.field_in_front-piece.result.now ≡ take n here = p.front
    ∙ ap (λ l. take (field_size kind l) l) c.behind.ensures in
    let later = ap (λ k. drop (c.loop-kind.at + k) c.args.octets.now) size in
    record {
      within = omega (arith, f.room, size);
      fields = subst
          (λ l. AreFields (drop (c.loop-kind.kind-index + 1) c.args.kinds.now) c.args.tail l)
          (sym later) f.fields;
      written =
          ap (λ l. joined_from (take c.write_next-end.result c.write_next-end.new.into)
          (field_texts (drop (c.loop-kind.kind-index + 1) c.args.kinds.now) c.args.tail l)) later
          ∙ ap (λ t.
          joined_from t
          (field_texts (drop (c.loop-kind.kind-index + 1) c.args.kinds.now) c.args.tail
          (drop (c.loop-kind.at + n) c.args.octets.now)))
          (w.written
          ∙ ap (λ t. separated (take c.loop-kind.end c.loop-kind.into)
          ++ text_of_field kind t) piece)
          ∙ sym (ap (joined_from (take c.loop-kind.end c.loop-kind.into)) f.texts) ∙ i.written;
      kept = w.kept
          ∙ drop_on c.loop-kind.end c.write_next-end.result c.loop-kind.into c.args.into.now w.later
          i.kept;
      room = omega (arith, i.room, w.short, size, ap length piece);
      size = search rules;
    }

pub returns-clause-kept : goal.returns-clause-kept
returns-clause-kept c =
    let i = c.loop-kind.invariant in
    let w = c.write_tail.ensures in
    w.kept ∙ drop_on c.loop-kind.end c.write_tail.result c.loop-kind.into c.args.into.now w.later
    i.kept
