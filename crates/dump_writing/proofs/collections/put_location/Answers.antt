use Rattle.std.proofs.Common.{◌≡◌, ℕ, List, codes, ◌++◌, subst}
use Rattle.json.specs.Print.{escape_byte, quoted}
use Rattle.std.specs.Prelude.{map}
use Rattle.ip_table.specs.Prefixes.{Prefix}
use Rattle.reply_words.specs.Dump.{block_text}
use Rattle.reply_words.specs.Json.{list_of}
use Rattle.serde_json.specs.Written.{comma_if, compact_text}
use Rattle.reply_words.proofs.Chains.{pieces_6}
use Rattle.dump_writing.proofs.collections.put_location.Goals as goal

pub returns-clause-text : goal.returns-clause-text
unfolding escape_byte
returns-clause-text c =
    let blocks =
    subst (λ (bs : List Prefix). c.put_blocks.new.into.items
    ≡ c.put.new.into.items ++ compact_text (list_of (map block_text bs)))
    c.as_slice.ensures c.put_blocks.ensures.text in
    let name =
    subst (λ (text : List ℕ). c.put_quoted.new.into.items ≡ c.put-2.new.into.items ++ quoted text)
    c.bytes.ensures.bytes c.put_quoted.ensures.text in
    pieces_6 c.args.into.now.items (comma_if c.args.later) (codes "{\"CidrList\":")
    (compact_text (list_of (map block_text c.args.location.now.blocks)))
    (codes ",\"LocationName\":") (quoted c.args.location.now.name) (codes "}")
    c.put_comma.ensures.text c.put.ensures.text blocks c.put-2.ensures.text name
    c.put-3.ensures.text
