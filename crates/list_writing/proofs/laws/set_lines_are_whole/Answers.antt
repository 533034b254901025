use Rattle.std.proofs.Common.{◌++◌, [], ◌∷◌, ap, append_assoc, codes, false, sym, ◌∙◌}
use Rattle.json.specs.Print.{escape_byte}
use Rattle.reply_words.specs.Dump.{set_line}
use Rattle.reply_words.specs.Json.{line_of}
use Rattle.reply_words.specs.Sets.{set_object}
use Rattle.list_writing.proofs.Members.{set_is_whole}
use Rattle.list_writing.proofs.laws.set_lines_are_whole.Goals as goal
use Rattle.list_writing.specs.Pieces.{set_line_front, set_line_rest}
use Rattle.serde_json.specs.Written.{compact_text}

pub returns : goal.returns
unfolding escape_byte line_of set_line
returns c = λ zone set of_type.
    let object = compact_text (set_object zone set) in
    ap (λ t. set_line_front ++ (t ++ set_line_rest))
    (set_is_whole false zone set.name set.rtype set.routing set.body set.check of_type)
    ∙ sym (append_assoc set_line_front (object ++ codes "}") (0x0A ∷ [])
    ∙ ap (λ t. set_line_front ++ t) (append_assoc object (codes "}") (0x0A ∷ [])))
