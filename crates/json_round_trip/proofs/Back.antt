-- A value's outline is read as the value, and its tokens can be written.
use Rattle.std.proofs.Common.{◌≡◌, ℕ, suc, ◌≤◌, List, [], ◌∷◌, ◌++◌, Option, Some, refl, ap, ap₂}
use Rattle.std.proofs.Common.{◌∙◌, append_assoc, append-nil, arith, max, option_and_then, option_map, subst, sym}
use Rattle.json.proofs.Printed.Decimals.{IsNumber-decimal}
use Rattle.json.proofs.Printed.Tokens.{tokens-print}
use Rattle.json.proofs.Printed.Trees.{value-json_tokens}
use Rattle.json.specs.Json as json
use Rattle.json.specs.Lex.{tokens}
use Rattle.json.specs.Print.{ArePrintable}
use Rattle.json.specs.Token.{Token}
use Rattle.json.specs.Tree as tree
use Rattle.serde_json.proofs.Numbers.{number_of-decimal}
use Rattle.serde_json.proofs.Texts.{print-outline}
use Rattle.serde_json.specs.Data.{Data, Items, Members, Num, array, boolean, depth, float, item}
use Rattle.serde_json.specs.Data.{items_depth, member, members_depth, negative, no_items}
use Rattle.serde_json.specs.Data.{no_members, null, number, object, put, string, unsigned}
use Rattle.serde_json.specs.Read.{max_depth, of_items, of_json, of_members, read}
use Rattle.serde_json.specs.Written.{compact_text, items_outline, members_outline, number_text}
use Rattle.serde_json.specs.Written.{outline}
use Rattle.json_round_trip.specs.Told.{AreTold, HaveTold, IsBehind, Is64Bits, IsTold, Rise, with_last}

-- ---- members put one after another

put_last : (name : List ℕ) (d : Data) (before : Members) → IsBehind name before
    → put name d before ≡ with_last name d before
put_last name d no_members behind = refl
put_last name d (member other e rest) behind =
    rw behind.0 (ap (member other e) (put_last name d rest behind.1))

abbrev joined : Members → Members → Members
joined no_members later = later
joined (member name d rest) later = member name d (joined rest later)

joined_none : (before : Members) → joined before no_members ≡ before
joined_none no_members = refl
joined_none (member name d rest) = ap (member name d) (joined_none rest)

joined_last : (before : Members) (name : List ℕ) (d : Data) (later : Members)
    → joined (with_last name d before) later ≡ joined before (member name d later)
joined_last no_members name d later = refl
joined_last (member other e rest) name d later = ap (member other e) (joined_last rest name d later)

-- ---- an outline is read as the value

of_number : (n : Num) → Is64Bits n → of_json (json.number (number_text n)) ≡ Some (number n)
of_number (unsigned n) count = ap (option_map number) (number_of-decimal n count)
of_number (negative z) count = elim count [ ]
of_number (float x) count = elim count [ ]

mutual
  of_told : (d : Data) → IsTold d → of_json (outline d) ≡ Some d
  of_told null told = refl
  of_told (boolean b) told = refl
  of_told (number n) told = of_number n told
  of_told (string s) told = refl
  of_told (array ds) told = ap (option_map array) (of_items_told ds told)
  of_told (object ms) told = ap (option_map object) (of_members_told no_members ms told.0 told.1)

  of_items_told : (ds : Items) → AreTold ds → of_items (items_outline ds) ≡ Some ds
  of_items_told no_items told = refl
  of_items_told (item d ds) told =
      rw (of_told d told.0) (ap (option_map (item d)) (of_items_told ds told.1))

  of_members_told : (before ms : Members) → HaveTold ms → Rise before ms
      → of_members (members_outline ms) before ≡ Some (joined before ms)
  of_members_told before no_members told rise = ap Some (sym (joined_none before))
  of_members_told before (member name d ms) told rise =
      rw (of_told d told.0) (rw (put_last name d before rise.0) (
      of_members_told (with_last name d before) ms told.1 rise.1
      ∙ ap Some (joined_last before name d ms)))

-- ---- how deep it is

mutual
  depth_is : (d : Data) → tree.depth (outline d) ≡ depth d
  depth_is null = refl
  depth_is (boolean b) = refl
  depth_is (number n) = refl
  depth_is (string s) = refl
  depth_is (array ds) = ap suc (items_depth_is ds)
  depth_is (object ms) = ap suc (members_depth_is ms)

  items_depth_is : (ds : Items) → tree.items_depth (items_outline ds) ≡ items_depth ds
  items_depth_is no_items = refl
  items_depth_is (item d ds) = ap₂ max (depth_is d) (items_depth_is ds)

  members_depth_is : (ms : Members) → tree.members_depth (members_outline ms) ≡ members_depth ms
  members_depth_is no_members = refl
  members_depth_is (member name d ms) = ap₂ max (depth_is d) (members_depth_is ms)

-- ---- its tokens can be written

printable_number : (n : Num) (ts : List Token) → Is64Bits n → ArePrintable ts
    → ArePrintable (Token.number (number_text n) ∷ ts)
unfolding ArePrintable
printable_number (unsigned n) ts count h = (IsNumber-decimal n count, h)
printable_number (negative z) ts count h = elim count [ ]
printable_number (float x) ts count h = elim count [ ]

mutual
  unfolding ArePrintable

  printable : (d : Data) (ts : List Token) → IsTold d → ArePrintable ts
      → ArePrintable (tree.json_tokens (outline d) ++ ts)
  printable null ts told h = (tt, h)
  printable (boolean b) ts told h = (tt, h)
  printable (number n) ts told h = printable_number n ts told h
  printable (string s) ts told h = (tt, h)
  printable (array ds) ts told h = (tt, printable_items ds ts told h)
  printable (object ms) ts told h = (tt, printable_members ms ts told.0 h)

  printable_items : (ds : Items) (ts : List Token) → AreTold ds → ArePrintable ts
      → ArePrintable (tree.items_tokens (items_outline ds) ++ ts)
  printable_items no_items ts told h = (tt, h)
  printable_items (item d ds) ts told h =
      let rest = tree.items_tokens (items_outline ds) in
      subst ArePrintable (sym (append_assoc (tree.json_tokens (outline d)) rest ts))
      (printable d (rest ++ ts) told.0 (printable_items ds ts told.1 h))

  printable_members : (ms : Members) (ts : List Token) → HaveTold ms → ArePrintable ts
      → ArePrintable (tree.members_tokens (members_outline ms) ++ ts)
  printable_members no_members ts told h = (tt, h)
  printable_members (member name d ms) ts told h =
      let rest = tree.members_tokens (members_outline ms) in (
        tt,
        subst ArePrintable (sym (append_assoc (tree.json_tokens (outline d)) rest ts))
            (printable d (rest ++ ts) told.0 (printable_members ms ts told.1 h)),
      )

no_tokens : ArePrintable []
unfolding ArePrintable
no_tokens = tt

-- ---- so its text is read as it

abbrev whole : Option (json.Json × List Token) → Option Data
whole o = option_and_then of_json (option_and_then (λ p. json.if_last p.0 p.1) o)

pub told_reads_back : (d : Data) → IsTold d → depth d ≤ max_depth → read (compact_text d) ≡ Some d
told_reads_back d told shallow =
    let ts = tree.json_tokens (outline d) in
    let all = subst ArePrintable (append-nil ts) (printable d [] told no_tokens) in
    let written = ap tokens (sym (print-outline d)) ∙ tokens-print ts all in
    let deep = depth_is d in
    ap whole (ap (json.value max_depth) (written ∙ sym (append-nil ts))
    ∙ value-json_tokens (outline d) max_depth [] (omega (arith, deep, shallow))) ∙ of_told d told
