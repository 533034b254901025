use Rattle.reply_records.proofs.Shown.{set_of_value}
use Rattle.reply_records.proofs.joint.copy_rdata.Goals as goal

pub fill_front-requires : goal.fill_front-requires
fill_front-requires c =
    let held = set_of_value c.args.scratch.now c.args.i c.requires.value in
    c.requires.room held.0 c.rdata_at-rdata.result.now held.1
    (c.rdata_at-rdata.ensures.at held.0 held.1)
