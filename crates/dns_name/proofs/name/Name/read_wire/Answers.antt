use Rattle.std.proofs.Common.{◌++◌, length, drop, ap, ◌∙◌, sym}
use Rattle.std.proofs.lemmas.List.{take-append-drop, length-take-le}
use Rattle.dns_name.proofs.name.Name.read_wire.Goals as goal

pub returns-clause-some : goal.returns-clause-some
returns-clause-some c =
    let bytes = c.args.bytes.now in
    let n = c.in-Some.len in
    let s = c.in-Some.ensures.spelled in
    record {
      raw = s.0;
      rest = drop n bytes;
      name = s.1;
      spelled = sym (take-append-drop n bytes) ∙ ap (λ t. t ++ drop n bytes) s.2;
      size = sym (length-take-le n bytes c.in-Some.ensures.within) ∙ ap length s.2;
      same = c.fill.ensures s.0 s.1 (c.front.ensures ∙ s.2);
    }
