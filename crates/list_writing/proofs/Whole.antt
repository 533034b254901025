-- The reply to ListResourceRecordSets, and the pieces in which it is written.
use Rattle.std.proofs.Common.{◌≡◌, ℕ, List, [], ◌∷◌, ◌++◌, Bool, true, false, None, Some, Option}
use Rattle.std.proofs.Common.{append_assoc, ap, sym, ◌∙◌, refl, codes, map}
use Rattle.std.specs.List.{AllByRecursion}
use Rattle.json.specs.Print.{escape_byte, quoted}
use Rattle.dns_name.specs.Written as names
use Rattle.line_faults.specs.declared.member.Member.TheVariants as m
use Rattle.rdata_layout.specs.Types as types
use Rattle.rdata_layout.specs.declared.types.RType.{RType}
use Rattle.record_set.specs.Sets.{ident_of, key_of}
use Rattle.record_set.specs.declared.sets.RecordSet.{RecordSet}
use Rattle.reply_words.specs.Json.{done, items_of, line_of, list_of, name_text, type_text}
use Rattle.reply_words.specs.Lists.{list_reply, next_ident}
use Rattle.reply_words.specs.Sets.{set_object}
use Rattle.list_writing.specs.Pieces.{list_front, list_rest, set_pieces}
use Rattle.list_writing.specs.Pieces.{sets_pieces}
use Rattle.list_writing.proofs.Members.{set_is_whole}
use Rattle.serde_json.specs.Data.{boolean}
use Rattle.serde_json.specs.Written.{comma_if, compact_text, items_text}
use Rattle.set_octets.specs.Octets.{AreOfType}

sets_are : (later : Bool) (zone : ℕ) (sets : List RecordSet)
    → AllByRecursion (λ set. AreOfType set.rtype set.body) sets
    → items_text later (items_of (map (set_object zone) sets))
    ≡ sets_pieces later zone sets ++ 93 ∷ []
sets_are later zone [] of_type = refl
sets_are later zone (set ∷ sets) of_type =
    let rest = items_text true (items_of (map (set_object zone) sets)) in
    sym (append_assoc (comma_if later) (compact_text (set_object zone set)) rest)
    ∙ ap (λ t. t ++ rest)
    (sym (set_is_whole later zone set.name set.rtype set.routing set.body set.check of_type.0))
    ∙ ap (λ t. set_pieces later zone set ++ t) (sets_are true zone sets of_type.1)
    ∙ sym (append_assoc (set_pieces later zone set) (sets_pieces true zone sets) (93 ∷ []))

-- the object of a list, up to its sets and from them on
abbrev object_on : (sets : List ℕ) → (front : List ℕ) → List ℕ
object_on sets front = front ++ (sets ++ codes "}")

whole_list : (zone : ℕ) (sets : List RecordSet)
    → compact_text (done m.ListResourceRecordSets
    ((codes "ResourceRecordSets", list_of (map (set_object zone) sets))
    ∷ (codes "IsTruncated", boolean false) ∷ []))
    ≡ object_on (items_text false (items_of (map (set_object zone) sets))) (list_front None)
unfolding escape_byte
whole_list zone sets = refl

glued : (a b q c t d x : List ℕ) → (a ++ (b ++ (q ++ (c ++ (t ++ d))))) ++ x
    ≡ a ++ (b ++ (q ++ (c ++ (t ++ (d ++ x)))))
glued a b q c t d x = simp append_assoc refl

cut_list : (zone : ℕ) (sets : List RecordSet) (name : List (List ℕ)) (rtype : RType)
    (ident : Option (List ℕ))
    → compact_text (done m.ListResourceRecordSets
    ((codes "ResourceRecordSets", list_of (map (set_object zone) sets))
    ∷ (codes "IsTruncated", boolean true) ∷ (codes "NextRecordName", name_text name)
    ∷ (codes "NextRecordType", type_text rtype) ∷ next_ident ident))
    ≡ object_on (items_text false (items_of (map (set_object zone) sets)))
    (list_front (Some (record { name = name; rtype = rtype; ident = ident })))
unfolding escape_byte
cut_list zone sets name rtype None =
    sym (glued (codes "{\"IsTruncated\":true,") (codes "\"NextRecordName\":")
    (quoted (names.text_of name)) (codes ",\"NextRecordType\":") (quoted (types.text_of rtype))
    (codes ",\"Ok\":\"ListResourceRecordSets\",\"ResourceRecordSets\":[")
    (items_text false (items_of (map (set_object zone) sets)) ++ codes "}"))
cut_list zone sets name rtype (Some ident) =
    let rest = items_text false (items_of (map (set_object zone) sets)) ++ codes "}" in
    let end = codes ",\"Ok\":\"ListResourceRecordSets\",\"ResourceRecordSets\":[" in
    ap (λ t. codes "{\"IsTruncated\":true,\"NextRecordIdentifier\":" ++ t)
    (sym (append_assoc (quoted ident) (codes ",") (codes "\"NextRecordName\":"
    ++ (quoted (names.text_of name) ++ (codes ",\"NextRecordType\":"
    ++ (quoted (types.text_of rtype) ++ (end ++ rest)))))))
    ∙ sym (glued (codes "{\"IsTruncated\":true,\"NextRecordIdentifier\":" ++ (quoted ident ++ codes ","))
    (codes "\"NextRecordName\":")
    (quoted (names.text_of name)) (codes ",\"NextRecordType\":") (quoted (types.text_of rtype))
    end rest)

-- the list's line, where its object is such
line_is : (front items pieces object : List ℕ) → object ≡ front ++ (items ++ codes "}")
    → items ≡ pieces ++ 93 ∷ [] → object ++ 0x0A ∷ [] ≡ front ++ (pieces ++ codes "]}\n")
line_is front items pieces object o i =
    ap (λ t. t ++ 0x0A ∷ []) (o ∙ ap (λ t. front ++ (t ++ codes "}")) i)
    ∙ append_assoc front ((pieces ++ 93 ∷ []) ++ codes "}") (0x0A ∷ [])
    ∙ ap (λ t. front ++ t) (append_assoc (pieces ++ 93 ∷ []) (codes "}") (0x0A ∷ [])
    ∙ append_assoc pieces (93 ∷ []) (codes "}\n"))

pub list_is_whole : (zone : ℕ) (sets : List RecordSet) (next : Option RecordSet)
    → AllByRecursion (λ set. AreOfType set.rtype set.body) sets
    → list_front (Rattle.std.specs.Prelude.option_map key_of next) ++ (sets_pieces false zone sets ++ list_rest)
    ≡ line_of (list_reply zone sets next)
unfolding line_of list_reply
list_is_whole zone sets None of_type =
    sym (line_is (list_front None) (items_text false (items_of (map (set_object zone) sets)))
    (sets_pieces false zone sets) _ (whole_list zone sets) (sets_are false zone sets of_type))
list_is_whole zone sets (Some next) of_type =
    sym (line_is (list_front (Some (key_of next)))
    (items_text false (items_of (map (set_object zone) sets)))
    (sets_pieces false zone sets) _
    (cut_list zone sets next.name next.rtype (ident_of next.routing))
    (sets_are false zone sets of_type))
