use Rattle.std.proofs.Common.{◌<◌, length, arith}
use Rattle.dns_name.proofs.Reading.{one_label_more, ends}
use Rattle.dns_name.proofs.spelling.Spelling.end_label.Goals as goal

pub returns-clause-ok : goal.returns-clause-ok
returns-clause-ok c = λ done label s.
    let filled : 0 < length label = let e = s.size in omega arith in (
      one_label_more _ _ _ done label s filled _ (omega (arith, s.size)),
      ends done label c.args.at filled,
    )
