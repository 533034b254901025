use Rattle.std.proofs.Common.{◌≡◌, ℕ, List, codes, ◌∷◌, ◌++◌, subst}
use Rattle.json.specs.Print.{escape_byte, quoted}
use Rattle.std.specs.Fmt.{decimal}
use Rattle.std.specs.Prelude.{map}
use Rattle.cidr_blocks.specs.declared.places.CidrLocation.{CidrLocation}
use Rattle.reply_words.specs.Dump.{location_object}
use Rattle.reply_words.specs.Json.{list_of}
use Rattle.serde_json.specs.Written.{compact_text}
use Rattle.reply_words.proofs.Chains.{pieces_7}
use Rattle.dump_writing.proofs.collections.put_collection.Goals as goal

pub returns-clause-text : goal.returns-clause-text
unfolding escape_byte
returns-clause-text c =
    let locations =
    subst (λ (ls : List CidrLocation). c.put_locations.new.into.items
    ≡ c.put-2.new.into.items ++ compact_text (list_of (map location_object ls)))
    c.as_slice.ensures c.put_locations.ensures.text in
    let name =
    subst (λ (text : List ℕ). c.put_quoted.new.into.items ≡ c.put-3.new.into.items ++ quoted text)
    c.bytes.ensures.bytes c.put_quoted.ensures.text in
    pieces_7 c.args.into.now.items (codes "{\"Id\":") (quoted (99 ∷ decimal c.args.id))
    (codes ",\"Locations\":")
    (compact_text (list_of (map location_object c.args.collection.now.locations)))
    (codes ",\"Name\":") (quoted c.args.collection.now.name) (codes "}") c.put.ensures.text
    c.put_id.ensures.text c.put-2.ensures.text locations c.put-3.ensures.text name
    c.put-4.ensures.text
