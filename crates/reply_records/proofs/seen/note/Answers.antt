use Rattle.std.proofs.Common.{◌+◌, ◌++◌, ◌∷◌, [], arith, subst, sym, take}
use Rattle.std.specs.Prelude.{slice_set}
use Rattle.zone_model.specs.Zones.{IsAmong}
use Rattle.reply_records.proofs.Seeing.{note_full, note_kept, note_long, note_new}
use Rattle.reply_records.specs.Seeing.{Sees}
use Rattle.reply_records.specs.declared.seen.Short.{Short}
use Rattle.reply_records.proofs.seen.note.Goals as goal

pub returns-then-rdata-gt-MOST_SHORT-clause-sees : goal.returns-then-rdata-gt-MOST_SHORT-clause-sees
returns-then-rdata-gt-MOST_SHORT-clause-sees c = λ rdatas sees.
    let long = c.if-rdata-gt-MOST_SHORT.true in
    note_long rdatas c.args.values.now c.args.seen.now sees c.args.rdata.now (omega (arith, long))

pub returns-then-has-clause-sees : goal.returns-then-has-clause-sees
returns-then-has-clause-sees c = λ rdatas sees.
    note_kept rdatas c.args.values.now c.args.seen.now sees c.args.rdata.now
    (subst (λ (s : Short). IsAmong (take c.args.seen.now.count c.args.values.now) s)
    c.as_short-short.ensures (c.has.ensures.0 c.if-has.true))

pub returns-then-seen-values-clause-sees : goal.returns-then-seen-values-clause-sees
returns-then-seen-values-clause-sees c = λ rdatas sees.
    note_full rdatas c.args.values.now c.args.seen.now sees c.args.rdata.now

pub returns-clause-sees : goal.returns-clause-sees
returns-clause-sees c = λ rdatas sees.
    let short = c.if-rdata-gt-MOST_SHORT.false in
    let room = c.if-seen-values.false in
    let count = c.args.seen.now.count in
    subst (λ (s : Short). Sees (rdatas ++ c.args.rdata.now ∷ [])
    (slice_set c.args.values.now count s) (record c.args.seen.now { count = count + 1 }))
    (sym c.as_short-short.ensures)
    (note_new rdatas c.args.values.now c.args.seen.now sees c.args.rdata.now (omega (arith, short))
    (omega (arith, room)))
