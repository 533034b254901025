use Rattle.std.proofs.Common.{◌≡◌, ◌+◌, ◌++◌, map, arith, rules, ap, sym, ◌∙◌, get_or, length, take, drop, length-drop}
use Rattle.field_text.specs.Strings.{string_text}
use Rattle.rdata.specs.Written.{separated, joined_from, strings_of}
use Rattle.rdata.proofs.Placing.{drop_on}
use Rattle.rdata.proofs.Fronts.{string_there}
use Rattle.rdata.proofs.writing.write_strings.Goals as goal

pub front-requires : goal.front-requires
front-requires c =
    let s = string_there c.args.octets.now c.loop-place.place c.loop-place-test.true
    c.loop-place.invariant.strings in
    omega (
      arith,
      s.room,
      ap length c.behind.ensures,
      length-drop (c.loop-place.place + 1) c.args.octets.now,
    )

pub loop-place-preserved : goal.loop-place-preserved
loop-place-preserved c =
    let i = c.loop-place.invariant in
    let s = string_there c.args.octets.now c.loop-place.place c.loop-place-test.true i.strings in
    let w = c.write_next_string-end.ensures in
    let n = get_or c.args.octets.now c.loop-place.place 0 in
    let string : c.front.result.now ≡ take n (drop (c.loop-place.place + 1) c.args.octets.now) =
    c.front.ensures ∙ ap (take n) c.behind.ensures in
    let rest =
    map string_text (strings_of (drop (c.loop-place.place + (n + 1)) c.args.octets.now)) in
    record {
      within = omega (arith, s.room);
      strings = s.rest;
      written =
          ap (λ t. joined_from t rest) (w.written
          ∙ ap (λ t. separated (take c.loop-place.end c.loop-place.into)
          ++ string_text t) string)
          ∙ sym (ap
          (λ ss. joined_from (take c.loop-place.end c.loop-place.into) (map string_text ss))
          s.strings) ∙ i.written;
      kept = w.kept
          ∙ drop_on c.loop-place.end c.write_next_string-end.result c.loop-place.into
          c.args.into.now w.later i.kept;
      later = omega (arith, i.later, w.later);
      room = omega (arith, i.room, w.short, ap length string, s.size);
      size = search rules;
    }
