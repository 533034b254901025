use Rattle.std.proofs.Common.{arith, sym, subst}
use Rattle.zone_model.specs.Zones.{IsAmong}
use Rattle.reply_records.proofs.Seeing.{seen_not, seen_so}
use Rattle.reply_records.specs.declared.seen.Short.{Short}
use Rattle.std.specs.Prelude.{take}
use Rattle.reply_records.proofs.seen.is_seen.Goals as goal

pub returns-then-has : goal.returns-then-has
returns-then-has c = λ rdatas sees.
    seen_so rdatas c.args.values.now c.args.seen.now sees c.args.rdata.now
    (subst (λ (s : Short). IsAmong (take c.args.seen.now.count c.args.values.now) s)
    c.as_short.ensures (c.has.ensures.0 c.if-has.true))

pub returns-then-seen : goal.returns-then-seen
returns-then-seen c = λ rdatas sees.
    let long = c.if-rdata-gt-MOST_SHORT.false in
    let not_so = c.if-has.false in
    seen_not rdatas c.args.values.now c.args.seen.now sees c.args.rdata.now (omega (arith, long))
    c.if-seen.true
    (λ there. (let told = c.has.ensures.1
    (subst (λ (s : Short). IsAmong (take c.args.seen.now.count c.args.values.now) s)
    (sym c.as_short.ensures) there) in absurd (grind (arith, told, not_so))))
