-- A list of sets that a line asks for starts where a list may and gives 1 to 300 sets, and a count is 1 to 1,000,000.
use Rattle.std.proofs.Common.{◌≡◌, ℕ, ◌≤◌, List, [], ◌∷◌, Bool, true, false, cond, ◌&&◌, Option, None, Some, Ok, arith, refl, subst}
use Rattle.std.specs.Prelude.{IfSome, ◌+◌, ◌*◌, ◌-◌, is_some, nat_le, not, unwrap_or}
use Rattle.std.proofs.lemmas.Bool.{leb-true}
use Rattle.line_faults.specs.declared.fault.LineReason.{LineReason}
use Rattle.line_faults.specs.declared.fault.LineReason.TheVariants.{Missing}
use Rattle.line_faults.specs.declared.member.Member.{Member}
use Rattle.line_faults.specs.declared.member.Member.TheVariants as m
use Rattle.line_reading.specs.Kinds.{name, number, one_of_texts, zone_id}
use Rattle.line_reading.specs.Reading.{holds_or_bad, optional, required}
use Rattle.line_words.specs.Words.{ident_of_text, record_type}
use Rattle.page_laws.specs.Laws.{IsAsked}
use Rattle.query_lines.specs.Queries.{compact, serve}
use Rattle.serde_json.specs.Data.{Data}
use Rattle.serde_json.specs.Find.{as_str}
use Rattle.zone_lines.specs.Zones.{items_if_text, items_of, list_sets, max_items, number_of_text}
use Rattle.zone_lines.specs.declared.lists.ListOfSets.{ListOfSets}
use Rattle.line_bounds.proofs.Steps.{after_object, number_within, optional_has, required_has, same_ok, steps, word_has}
use Rattle.line_bounds.specs.Laws.{start_of}

-- ---- counts

abbrev pub IsCount : ℕ → Type 0
IsCount n = (1 ≤ n) × (n ≤ 1000000)

pub turns_are : (d : Data) (n : ℕ) → serve d ≡ Ok n → IsCount n
unfolding serve
turns_are d n e =
    required_has IsCount m.Turns (number 1 1000000) d n (number_within 1 1000000 m.Turns)
    (after_object _ _ _ _ _ n e)

pub pieces_are : (d : Data) (n : ℕ) → compact d ≡ Ok n → IsCount n
unfolding compact
pieces_are d n e =
    required_has IsCount m.Pieces (number 1 1000000) d n (number_within 1 1000000 m.Pieces)
    (after_object _ _ _ _ _ n e)

-- ---- how many sets a list gives

abbrev AreItems : ℕ → Type 0
AreItems n = (1 ≤ n) × (n ≤ 300)

few : (digits : List ℕ) (k n : ℕ) → k ≤ 300 → number_of_text k digits ≡ Some n → n ≤ 300
few [] k n within e = let same : k ≡ n = cc in omega (arith, within, same)
few (d ∷ ds) k n within e =
    go (few ds (k * 10 + (d - 48)) n) (nat_le 48 d && nat_le d 57)
    (nat_le (k * 10 + (d - 48)) 300) refl e
  where
    go : (k * 10 + (d - 48) ≤ 300 → number_of_text (k * 10 + (d - 48)) ds ≡ Some n → n ≤ 300)
        → (digit below : Bool) → nat_le (k * 10 + (d - 48)) 300 ≡ below
        → cond (digit && below) (number_of_text (k * 10 + (d - 48)) ds) None ≡ Some n
        → n ≤ 300
    go rest true true b h = rest (leb-true (k * 10 + (d - 48)) 300 b) h
    go rest true false b h = absurd cc
    go rest false below b h = absurd cc

items_are : (s : List ℕ) (n : ℕ) → items_of s ≡ Some n → AreItems n
items_are s n e = go (number_of_text 0 s) refl
  where
    some : (k : ℕ) (t : Bool) → nat_le 1 k ≡ t → k ≤ 300 → cond t (Some k) None ≡ Some n
        → AreItems n
    some k true b within h = let same : k ≡ n = cc in subst AreItems same (leb-true 1 k b, within)
    some k false b within h = absurd cc

    go : (found : Option ℕ) → number_of_text 0 s ≡ found → AreItems n
    go None f = let h = rw f at e in absurd cc
    go (Some k) f = some k (nat_le 1 k) refl (few s 0 k (omega arith) f) (rw f at e)

most_are : (h : Member) (d : Data) (n : ℕ) → max_items h d ≡ Ok n → AreItems n
unfolding max_items
most_are h d n e = go (as_str d) e
  where
    go : (s : Option (List ℕ)) → items_if_text h d s ≡ Ok n → AreItems n
    go None r = number_within 1 300 h d n r
    go (Some s) r = word_has AreItems items_of items_are h d n r

items_or_300 : (items : Option ℕ) → IfSome items AreItems → AreItems (unwrap_or items 300)
items_or_300 None are = (omega arith, omega arith)
items_or_300 (Some n) are = are

-- ---- where a list starts

with_it_alone : {A B : Type 0} (first : Option A) (next : Option B) (reason : LineReason) (h : Member) (out : _)
    → holds_or_bad (not (is_some next && not (is_some first))) reason h ≡ Ok out
    → first ≡ None → next ≡ None
with_it_alone None None reason h out e none = refl
with_it_alone None (Some y) reason h out e none = absurd cc
with_it_alone (Some x) next reason h out e none = absurd cc

abbrev pub IsList : ListOfSets → Type 0
IsList list = IsAsked (start_of list) × (1 ≤ list.items) × (list.items ≤ 300)

pub list_is : (d : Data) (list : ListOfSets) → list_sets d ≡ Ok list → IsList list
unfolding list_sets
list_is d list e =
    let a = after_object _ _ _ _ _ list e in
    let b = steps (required m.HostedZoneId zone_id d) _ list a in
    let c = steps (optional m.StartRecordName name d) _ list b.gives in
    let f = steps (optional m.StartRecordType record_type d) _ list c.gives in
    let g = steps (optional m.StartRecordIdentifier (one_of_texts ident_of_text) d) _ list f.gives in
    let h = steps (optional m.MaxItems max_items d) _ list g.gives in
    let k = steps (holds_or_bad (not (is_some f.value && not (is_some c.value))) Missing m.StartRecordName) _ list h.gives in
    let l = steps (holds_or_bad (not (is_some g.value && not (is_some f.value))) Missing m.StartRecordType) _ list k.gives in
    let items = optional_has AreItems m.MaxItems max_items d h.value (most_are m.MaxItems) h.is in
    let most = items_or_300 h.value items in
    subst IsList (same_ok _ list l.gives) (
      (
        with_it_alone c.value f.value Missing m.StartRecordName k.value k.is,
        with_it_alone f.value g.value Missing m.StartRecordType l.value l.is,
      ),
      most.0,
      most.1,
    )
