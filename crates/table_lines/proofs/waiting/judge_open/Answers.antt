use Rattle.table_lines.proofs.Octets.{open_refused}
use Rattle.table_lines.proofs.waiting.judge_open.Goals as goal

pub returns-then-waiting-gt-MAX_LINE : goal.returns-then-waiting-gt-MAX_LINE
returns-then-waiting-gt-MAX_LINE c =
    open_refused c.args.waiting.now c.requires c.if-waiting-gt-MAX_LINE.true
