use Rattle.reply_records.proofs.Written.{as_one}
use Rattle.reply_records.proofs.held.write_one.Goals as goal

pub returns : goal.returns
returns c =
    as_one c.records_add_up.ensures c.args.section _ c.args.reply.now c.record.new.self
    c.record.ensures.stands c.record.ensures.edns c.record.ensures.room
