use Rattle.std.proofs.Common.{refl}
use Rattle.line_splitting.proofs.Turns.{room_made}
use Rattle.line_splitting.proofs.reader.LineReader.make_room.Goals as goal

pub returns : goal.returns
returns c =
    room_made _ c.args.self.now c.pass.new.self _ _ c.waiting-waiting.result.now c.self.view_is refl
    c.waiting-waiting.ensures c.pass.ensures c.drop_piece-self-inside.ensures c.if-not-drops.ensures.yes c.requires
