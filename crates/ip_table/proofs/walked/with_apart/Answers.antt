use Rattle.std.proofs.Common.{arith}
use Rattle.ip_table.proofs.Sightings.{done_past, done_row, sound_row}
use Rattle.ip_table.proofs.walked.with_apart.Goals as goal

pub returns-clause-sound : goal.returns-clause-sound
returns-clause-sound c =
    sound_row c.args.prefixes.now c.args.address c.args.walked c.with_past.result c.args.row
    c.args.shared c.requires.row c.requires.family
    c.requires.shared c.requires.less
    c.with_past.ensures.found c.with_past.ensures.long
    c.with_past.ensures.past c.requires.sound

pub returns-clause-keeps : goal.returns-clause-keeps
returns-clause-keeps c =
    done_past c.args.prefixes.now c.args.address c.args.walked c.with_past.result
    (omega (arith, c.with_past.ensures.past)) c.with_past.ensures.found

pub returns-clause-done : goal.returns-clause-done
returns-clause-done c =
    done_row c.args.prefixes.now c.args.address c.args.walked c.with_past.result c.args.row
    c.args.shared
    c.requires.shared c.requires.less
    c.with_past.ensures.past
