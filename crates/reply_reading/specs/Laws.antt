-- Replies and what they are read as.
use Rattle.std.specs.Prelude.{◌≡◌, Some}
use Rattle.reply_model.specs.Outcomes.{reply_of, text_of}
use Rattle.reply_model.specs.declared.outcomes.Outcome.{Outcome}
use Rattle.reply_reading.specs.Counts.{HasCounts}
use Rattle.serde_json.specs.Read.{read}
use Rattle.serde_json.specs.Written.{compact_text}

-- What stands before the line feed is read back.
abbrev pub RepliesReadBack : Type 0
RepliesReadBack = (o : Outcome) → HasCounts o → read (compact_text (reply_of o)) ≡ Some (reply_of o)

abbrev pub OneReply : Type 0
OneReply = (o p : Outcome) → HasCounts o → HasCounts p → text_of o ≡ text_of p
    → reply_of o ≡ reply_of p
