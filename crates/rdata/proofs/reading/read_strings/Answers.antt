use Rattle.std.proofs.Common.{◌≡◌, ◌-◌, ◌∷◌, drop, ◌++◌, [], length, take, arith, rules, ap, ◌∙◌, sym, append_assoc, length-take}
use Rattle.std.proofs.lemmas.List.{length-take-le}
use Rattle.rdata.proofs.Progress.{strings_pass, strings_end, strings_bad}
use Rattle.rdata.proofs.reading.read_strings.Goals as goal

pub returns-in_default-read_string-clause-err : goal.returns-in_default-read_string-clause-err
returns-in_default-read_string-clause-err c =
    strings_bad c.args.text.now _ _ _ c.args.at c.loop-field.place c.in-Some.field
    c.loop-field.invariant.passes (sym c.in-Some.ensures.exact)
    c.part-bytes.ensures c.in_default-read_string.ensures.none

pub loop-field-preserved : goal.loop-field-preserved
loop-field-preserved c =
    let i = c.loop-field.invariant in
    let s = c.in-Some-read_string.ensures in
    let f = c.in-Some.ensures in
    let n = c.in-Some-read_string.len in
    let string = take n c.read_string.new.into in
    let array : length c.read_string.new.into ≡ 255 = search rules in
    let size : length string ≡ n =
    length-take-le n c.read_string.new.into (omega (arith, array, s.fits)) in
    let whole : c.extend_from_slice.new.self.items ≡ c.loop-field.into.items
    ++ (length string ∷ string) =
    c.in_ok-extend_from_slice.ensures.items
    ∙ ap (λ t. t ++ c.front.result.now) c.in_ok-push.ensures.items
    ∙ ap (λ t. (c.loop-field.into.items ++ n ∷ []) ++ t) c.front.ensures
    ∙ append_assoc c.loop-field.into.items (n ∷ []) string
    ∙ ap (λ k. c.loop-field.into.items ++ (k ∷ string)) (sym size) in
    let within =
    length-take (c.in-Some.field.end - c.in-Some.field.start)
    (drop c.in-Some.field.start c.args.text.now) in
    record {
      passes = strings_pass c.args.text.now _ _ _ string _ c.args.at c.loop-field.place
          c.in-Some.field i.passes (sym f.exact) c.part-bytes.ensures
          s.some (omega (
            arith,
            size,
            s.quotes,
            f.behind,
            f.filled,
            within,
            ap length c.part-bytes.ensures,
          )) f.within whole;
      array = array;
    }

pub returns-clause-ok : goal.returns-clause-ok
returns-clause-ok c =
    strings_end c.args.text.now _ _ c.args.at c.loop-field.place c.loop-field.invariant.passes
    (sym c.in_default.ensures.exact)
