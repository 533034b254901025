use Rattle.std.proofs.Common.{[], ◌∷◌}
use Rattle.std.proofs.lemmas.List.{append_cancel_right}
use Rattle.reply_model.specs.Json.{line_of}
use Rattle.reply_model.specs.Outcomes.{reply_of}
use Rattle.reply_reading.proofs.Told.{reply_told}
use Rattle.reply_reading.proofs.laws.one_reply.Goals as goal
use Rattle.serde_json.specs.Written.{compact_text}

pub returns : goal.returns
unfolding line_of
returns c = λ o p o_counts p_counts same.
    let o_told = reply_told o o_counts in
    let p_told = reply_told p p_counts in
    c.one_text.ensures (reply_of o) (reply_of p) o_told.0 p_told.0 o_told.1 p_told.1
    (append_cancel_right (compact_text (reply_of o)) (compact_text (reply_of p)) (0x0A ∷ []) same)
