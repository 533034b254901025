-- Locations and their blocks, one after another, and the room that they take.
use Rattle.std.proofs.Common.{◌≡◌, ℕ, ◌+◌, ◌*◌, ◌<◌, ◌≤◌, List, [], ◌∷◌, ◌++◌, true, length, drop, get_or, ap, sym, ◌∙◌}
use Rattle.std.proofs.Common.{append_assoc, add-one, drop-cons, arith, refl}
use Rattle.std.specs.Prelude.{map, nat_lt}
use Rattle.std.specs.List.{AllByRecursion}
use Rattle.std.proofs.lemmas.Bool.{lt-ltb}
use Rattle.std.proofs.lemmas.List.{length-append, length-map}
use Rattle.cidr_blocks.specs.Places.{IsCidrLocation, IsCollection, rows_at, rows_of}
use Rattle.cidr_blocks.specs.declared.places.CidrLocation.{CidrLocation}
use Rattle.cidr_blocks.specs.declared.places.Collection.{Collection}
use Rattle.ip_table.specs.Prefixes.{Prefix}
use Rattle.reply_words.specs.Dump.{block_text, location_object}
use Rattle.reply_words.specs.Json.{items_of}
use Rattle.dump_writing.specs.Rooms.{room_of}
use Rattle.serde_json.specs.Data.{Data}
use Rattle.serde_json.specs.Written.{comma_if, compact_text, items_text}

-- what is written and what is left, as one more item is written
item_more : {A : Type 0} (f : A → Data) (before : List ℕ) (xs : List A) (x : A) (i : ℕ)
    → i < length xs
    → (before ++ (comma_if (nat_lt 0 i) ++ compact_text (f (get_or xs i x))))
    ++ items_text (nat_lt 0 (i + 1)) (items_of (map f (drop (i + 1) xs)))
    ≡ before ++ items_text (nat_lt 0 i) (items_of (map f (drop i xs)))
item_more f before xs x i h =
    let one = compact_text (f (get_or xs i x)) in
    let rest = items_text true (items_of (map f (drop (i + 1) xs))) in
    ap (λ later. (before ++ (comma_if (nat_lt 0 i) ++ one))
    ++ items_text later (items_of (map f (drop (i + 1) xs))))
    (lt-ltb 0 (i + 1) (omega arith))
    ∙ append_assoc before (comma_if (nat_lt 0 i) ++ one) rest
    ∙ ap (λ t. before ++ t) (
    append_assoc (comma_if (nat_lt 0 i)) one rest
    ∙ ap (λ k. comma_if (nat_lt 0 i) ++ (one ++ items_text true (items_of (map f (drop k xs)))))
    (add-one i)
    ∙ ap (λ ys. items_text (nat_lt 0 i) (items_of (map f ys))) (sym (drop-cons xs i x h)))

pub location_more : (before : List ℕ) (xs : List CidrLocation) (x : CidrLocation) (i : ℕ)
    → i < length xs
    → (before ++ (comma_if (nat_lt 0 i) ++ compact_text (location_object (get_or xs i x))))
    ++ items_text (nat_lt 0 (i + 1)) (items_of (map location_object (drop (i + 1) xs)))
    ≡ before ++ items_text (nat_lt 0 i) (items_of (map location_object (drop i xs)))
location_more = item_more location_object

pub block_more : (before : List ℕ) (xs : List Prefix) (x : Prefix) (i : ℕ) → i < length xs
    → (before ++ (comma_if (nat_lt 0 i) ++ compact_text (block_text (get_or xs i x))))
    ++ items_text (nat_lt 0 (i + 1)) (items_of (map block_text (drop (i + 1) xs)))
    ≡ before ++ items_text (nat_lt 0 i) (items_of (map block_text (drop i xs)))
block_more = item_more block_text

-- the room of what is left, as one more location is written
pub room_more : (xs : List CidrLocation) (x : CidrLocation) (i : ℕ) → i < length xs
    → room_of (drop i xs) ≡ 500 + 300 * length (get_or xs i x).blocks + room_of (drop (i + 1) xs)
room_more xs x i h =
    ap room_of (drop-cons xs i x h)
    ∙ ap (λ k. 500 + 300 * length (get_or xs i x).blocks + room_of (drop k xs)) (sym (add-one i))

-- each location has a block
few_room : (xs : List CidrLocation) → AllByRecursion IsCidrLocation xs
    → room_of xs ≤ 800 * length (rows_of xs)
few_room [] each = omega arith
few_room (x ∷ xs) each =
    let more = few_room xs each.1 in
    let some = each.0.some in
    let both = length-append (rows_at x.name x.blocks) (rows_of xs) in
    let rows : length (rows_at x.name x.blocks) ≡ length x.blocks = length-map x.blocks (λ block. (block, x.name)) in
    omega (arith, more, some, both, rows)

pub room_is : (collection : Collection) → IsCollection collection
    → room_of collection.locations ≤ 800000
room_is collection is = omega (arith, few_room collection.locations is.each, is.few)
