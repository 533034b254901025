use Rattle.std.proofs.Common.{subst, Some, None}
use Rattle.memchr.specs.Find.{IsFirstByte, is_byte}
use Rattle.line_splitting.proofs.Pieces.{searched}
use Rattle.line_splitting.proofs.judging.end_place.Goals as goal

pub returns-in-Some-clause-place : goal.returns-in-Some-clause-place
returns-in-Some-clause-place c =
    searched c.args.searched c.args.bytes.now (Some c.in-Some.place) c.requires.none
    (subst (λ h. IsFirstByte (is_byte 10) h (Some c.in-Some.place)) c.behind.ensures c.in-Some.ensures)

pub returns-in-None-clause-place : goal.returns-in-None-clause-place
returns-in-None-clause-place c = searched c.args.searched c.args.bytes.now None c.requires.none
    (subst (λ h. IsFirstByte (is_byte 10) h None) c.behind.ensures c.in-None.ensures)
