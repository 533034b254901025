use Rattle.std.proofs.Common.{◌∙◌, ◌-◌, length, arith}
use Rattle.report_lines.proofs.Feeds.{dropped, kept}
use Rattle.report_lines.proofs.reading.without_feed.Goals as goal

pub returns-then-datagram-len-eq10 : goal.returns-then-datagram-len-eq10
returns-then-datagram-len-eq10 c =
    c.front.ensures ∙ dropped (length c.args.datagram.now - 1) c.args.datagram.now
    (omega (arith, c.if-len-eq0.false)) c.if-datagram-len-eq10.true

pub returns : goal.returns
returns c = kept (length c.args.datagram.now - 1) c.args.datagram.now
    (omega (arith, c.if-len-eq0.false)) c.if-datagram-len-eq10.false
