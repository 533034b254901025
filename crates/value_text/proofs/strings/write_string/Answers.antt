use Rattle.std.proofs.Common.{◌++◌, length, take, get_or, arith, ap, sym, ◌∙◌, append_assoc, length-append}
use Rattle.std.specs.List.{flat_map}
use Rattle.value_text.specs.Fields.{quote}
use Rattle.value_text.specs.Strings.{character_text}
use Rattle.std.proofs.Common.{◌∷◌}
use Rattle.value_text.proofs.Writing.{text_more, drop_on}
use Rattle.value_text.proofs.strings.write_string.Goals as goal

pub loop-b-preserved : goal.loop-b-preserved
loop-b-preserved c =
    let i = c.loop-b.invariant in
    let w = c.write_character-end.ensures in
    let more = text_more c.args.string.now c.loop-b.b-index (omega arith) in
    let split = append_assoc (take c.args.at c.args.into.now)
    (quote ∷ flat_map character_text (take c.loop-b.b-index c.args.string.now))
    (character_text (get_or c.args.string.now c.loop-b.b-index 0)) in
    record {
      room = omega arith;
      end_is = omega (
        arith,
        ap length more,
        length-append (quote ∷ flat_map character_text (take c.loop-b.b-index c.args.string.now))
            (character_text (get_or c.args.string.now c.loop-b.b-index 0)),
        i.end_is,
        w.end,
      );
      written = w.written
          ∙ ap (λ t. t ++ character_text (get_or c.args.string.now c.loop-b.b-index 0)) i.written
          ∙ split
          ∙ ap (λ t. take c.args.at c.args.into.now ++ t) (sym more);
      kept = w.kept
          ∙ drop_on c.loop-b.end c.write_character-end.result c.loop-b.into c.args.into.now
          (omega arith) i.kept;
    }
