use Rattle.std.proofs.Common.{◌<◌, [], ◌∷◌, ◌++◌, length, arith, ap, ◌∙◌}
use Rattle.std.specs.Result.{result_map_both}
use Rattle.dns_name.specs.Labels.{lowered}
use Rattle.dns_name.proofs.Reading.{never_stops, ended_last}
use Rattle.dns_name.proofs.spelling.Spelling.finish.Goals as goal

pub last-requires-in-Ok : goal.last-requires-in-Ok
last-requires-in-Ok c =
    let r = c.requires in
    (r.0 ++ r.1 ∷ [], (c.in-Ok.ensures.ok r.0 r.1 r.2).0)

pub returns-in-Ok : goal.returns-in-Ok
returns-in-Ok c = λ done label s.
    let filled : 0 < length label = let e = s.size in omega arith in
    c.last-in-Ok.ensures (done ++ label ∷ []) (c.in-Ok.ensures.ok done label s).0
    ∙ ap (result_map_both lowered (λ fault. fault)) (ended_last done label c.args.at filled)

pub returns-in-Err : goal.returns-in-Err
returns-in-Err c = λ done label s.
    let filled : 0 < length label = let e = s.size in omega arith in
    absurd (never_stops done label c.args.at _ filled (c.in-Err.ensures.err done label s))
