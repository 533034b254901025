use Rattle.std.proofs.Common.{◌≡◌, ◌∙◌, ◌+◌, ◌-◌, ◌++◌, min, length, take, drop, ap, sym, arith, rules, length-take-le}
use Rattle.std.proofs.lemmas.List.{drop_min}
use Rattle.file_building.proofs.PartLemmas.{part_put}
use Rattle.file_building.proofs.parts.put_part.Goals as goal

pub returns-clause-bytes : goal.returns-clause-bytes
returns-clause-bytes c = λ more.
    let smaller : c.min.result ≡ min c.args.skip (length c.args.part.now) =
    omega (arith, c.min.ensures) in
    let rest : c.behind-rest.result.now ≡ drop c.args.skip c.args.part.now = c.behind-rest.ensures
    ∙ ap (λ n. drop n c.args.part.now) smaller ∙ drop_min c.args.skip c.args.part.now in
    let counted : c.min-count.result
    ≡ min (length c.behind-rest.result.now) (length c.args.piece.now - c.args.filled) =
    search rules in
    let long : length c.front.result.now ≡ c.min-count.result = ap length c.front.ensures
    ∙ length-take-le c.min-count.result c.behind-rest.result.now (omega (arith, counted)) in
    let put : take (c.args.filled + c.min-count.result) c.put_at.new.buffer
    ≡ take c.args.filled c.args.piece.now ++ take c.min-count.result c.behind-rest.result.now =
    ap (λ n. take (c.args.filled + n) c.put_at.new.buffer) (sym long) ∙ c.put_at.ensures.written
    ∙ ap (λ l. take c.args.filled c.args.piece.now ++ l) c.front.ensures in
    part_put c.args.piece.now c.put_at.new.buffer c.args.part.now more c.behind-rest.result.now
    c.args.filled c.args.skip c.min-count.result rest counted put
