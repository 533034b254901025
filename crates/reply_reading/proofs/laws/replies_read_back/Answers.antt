use Rattle.reply_model.specs.Outcomes.{reply_of}
use Rattle.reply_reading.proofs.Told.{reply_told}
use Rattle.reply_reading.proofs.laws.replies_read_back.Goals as goal

pub returns : goal.returns
returns c = λ o counts.
    let told = reply_told o counts in
    c.texts_read_back.ensures (reply_of o) told.0 told.1
