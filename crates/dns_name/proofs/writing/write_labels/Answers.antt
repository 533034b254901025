use Rattle.std.proofs.Common.{◌≡◌, ◌+◌, ◌++◌, arith, ap, sym, ◌∙◌, length, length-append, append_assoc, drop, get_or}
use Rattle.std.specs.List.{flat_map}
use Rattle.dns_name.specs.Buffer.{written}
use Rattle.dns_name.specs.Stored.{labels_of}
use Rattle.dns_name.specs.Written.{text_of_label}
use Rattle.dns_name.proofs.Placing.{placed_twice}
use Rattle.dns_name.proofs.Steps.{step}
use Rattle.dns_name.proofs.writing.write_labels.Goals as goal

pub loop-at-preserved : goal.loop-at-preserved
loop-at-preserved c =
    let i = c.loop-at.invariant in
    let w = c.write_label-end.ensures in
    let s = step c.args.octets.now c.loop-at.at i.rest c.loop-at-test.true in
    let text = text_of_label c.part.result.now in
    let later =
    flat_map text_of_label
    (labels_of
    (drop (c.loop-at.at + (get_or c.args.octets.now c.loop-at.at 0 + 1)) c.args.octets.now)) in
    let size : length c.part.result.now ≡ get_or c.args.octets.now c.loop-at.at 0 =
    ap length c.part.ensures ∙ s.size in
    let there : c.loop-at.end ≡ 0 + length i.done = omega (arith, i.behind) in
    record {
      rest = s.rest;
      done = i.done ++ text;
      whole =
          i.whole ∙ ap (λ ls. i.done ++ flat_map text_of_label ls) s.labels
          ∙ ap (λ l. i.done ++ (text_of_label l ++ later)) (sym c.part.ensures)
          ∙ sym (append_assoc i.done text later);
      behind = w.end ∙ omega (arith, i.behind, length-append i.done text);
      so_far = w.written ∙ ap (λ t. written t c.loop-at.end text) i.so_far
          ∙ placed_twice c.args.into.now 0 i.done text c.loop-at.end there (omega (
            arith,
            c.requires.room,
            w.end,
            w.within,
            i.within,
            size,
            s.room,
          ));
      within = omega (arith, w.within, i.within, size);
    }
