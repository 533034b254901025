use Rattle.std.proofs.Common.{ℕ, List}
use Rattle.std.specs.Prelude.{codes}
use Rattle.scenario_words.proofs.Between.{between, with_end, with_front}
use Rattle.scenario_words.proofs.control.reply_packet.Goals as goal

front : List ℕ
front = codes "{\"Ok\":\"Query\",\"Reply\":\""

end : List ℕ
end = codes "\"}"

pub returns : goal.returns
unfolding front end
returns c =
    let line = c.args.line.now in
    let rest = c.in-Some.behind.now in
    let digits = c.in-Some-strip_suffix.digits.now in
    let begins = c.in-Some.ensures.cases in
    let ends = c.in-Some-strip_suffix.ensures.cases in (
      digits,
      between line front rest digits end (with_front line front rest begins.0 begins.1)
          (with_end rest end digits ends.0 ends.1),
      c.in_ok-packet.ensures,
    )
