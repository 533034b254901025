use Rattle.std.proofs.Common.{arith, sym, subst, ap, ◌∙◌, ◌≡◌, ◌<◌, ◌≤◌, ◌+◌, ◌++◌, [], ◌∷◌, append-nil, length, length-drop, drop}
use Rattle.dns_message.specs.Edns.{AreOptions, first_body, option_at, option_size}
use Rattle.dns_message.specs.Walk.{HasFirst}
use Rattle.dns_message.proofs.OptionLists.{Stepped, one_option, broken_off, at_the_end, walked_all}
use Rattle.dns_message.proofs.options.subnet_among.Goals as goal

pub returns-in_default : goal.returns-in_default
returns-in_default c =
    broken_off c.args.body.now c.loop-at.at c.loop-at.invariant.1 c.loop-at-test.true
    (subst (λ l. length l < option_size l) c.behind-rest.ensures c.in_default.ensures.none)
    c.loop-at.invariant.2

pub loop-at-preserved : goal.loop-at-preserved
loop-at-preserved c =
    let i = c.loop-at.invariant in
    let body = c.args.body.now in
    let rest = c.behind-rest.ensures in
    let size : c.in-Some.size ≡ option_size (drop c.loop-at.at body) = c.in-Some.ensures.some ∙ ap option_size rest in
    let whole : option_size (drop c.loop-at.at body) ≤ length (drop c.loop-at.at body) =
    omega (arith, size, c.in-Some.ensures.within, ap length rest) in
    let walked = one_option body c.loop-at.at i.1 c.loop-at-test.true whole i.2 in (
      omega (arith, size, whole, length-drop c.loop-at.at body, c.loop-at-test.true),
      i.1 ++ option_at (drop c.loop-at.at body) ∷ [],
      subst (λ n. Stepped body (c.loop-at.at + n) (i.1 ++ option_at (drop c.loop-at.at body) ∷ [])) (sym size) walked,
      subst (λ l. HasFirst body (first_body 8 (i.1 ++ option_at l ∷ [])) c.with_option-found.result) rest
          (c.with_option-found.ensures body i.1 i.0 rest i.3),
    )

pub returns : goal.returns
returns c =
    let i = c.loop-at.invariant in
    walked_all c.args.body.now i.1 c.loop-at.found
    (subst (AreOptions c.args.body.now) (append-nil i.1)
    (at_the_end c.args.body.now c.loop-at.at i.1 (omega (arith, c.loop-at-test.false)) i.2)) i.3
