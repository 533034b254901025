use Rattle.std.proofs.Common.{◌≡◌, true, false}
use Rattle.rdata_layout.proofs.Fronts.{string_step, no_strings}
use Rattle.rdata_layout.proofs.layout.are_strings.Goals as goal

pub returns-in_default : goal.returns-in_default
returns-in_default c =
    let i = c.loop-at.invariant in
    let none =
    no_strings c.args.octets.now _ c.loop-at.at c.loop-at-test.true c.behind.ensures
    c.in_default.ensures.none in
    (λ e. let both : false ≡ true = e in cc, λ a. absurd (none (i.same.0 a)))

pub loop-at-preserved : goal.loop-at-preserved
loop-at-preserved c =
    let i = c.loop-at.invariant in
    let s = string_step c.args.octets.now _ c.loop-at.at c.in-Some.len i.within c.behind.ensures
    c.in-Some.ensures.some i.same in
    record { within = s.0; same = s.1 }
