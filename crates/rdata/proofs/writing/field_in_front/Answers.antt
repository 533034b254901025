use Rattle.std.proofs.Common.{ap, ◌∙◌, sym, length, take, drop}
use Rattle.std.proofs.lemmas.List.{take-append-drop, length-take-le}
use Rattle.rdata.proofs.Fronts.{field_front}
use Rattle.rdata.proofs.writing.field_in_front.Goals as goal

pub returns-clause-front : goal.returns-clause-front
returns-clause-front c =
    let i = c.in-Some.ensures in
    let size =
    field_front c.args.kind (take c.in-Some.len c.args.octets.now)
    (drop c.in-Some.len c.args.octets.now) c.args.octets.now i.some
    (sym (take-append-drop c.in-Some.len c.args.octets.now))
    ∙ length-take-le c.in-Some.len c.args.octets.now i.within in
    c.front.ensures ∙ ap (λ k. take k c.args.octets.now) (sym size)

pub returns-clause-len : goal.returns-clause-len
returns-clause-len c =
    let i = c.in-Some.ensures in
    ap length c.front.ensures ∙ sym
    (field_front c.args.kind (take c.in-Some.len c.args.octets.now)
    (drop c.in-Some.len c.args.octets.now) c.args.octets.now i.some
    (sym (take-append-drop c.in-Some.len c.args.octets.now)))
