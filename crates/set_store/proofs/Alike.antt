-- A set with the name of a bound: its type tells on which side of the bound it stands.
use Rattle.std.proofs.Common.{◌≡◌, ℕ, ◌+◌, ◌≤◌, List, ◌++◌, take, drop, length, ap, ◌∙◌, sym, refl, subst}
use Rattle.std.proofs.Common.{Option, None, Some, Less, Equal, Greater, Bor, false, arith}
use Rattle.std.specs.Option.{option_copied}
use Rattle.std.specs.Prelude.{is_some, not}
use Rattle.std.specs.declared.cmp.Ordering.{Ordering}
use Rattle.std.specs.Ordering.{is_gt, is_lt, nat_cmp, ordering_then}
use Rattle.std.proofs.lemmas.List.{length-append}
use Rattle.std.proofs.Math.Seq.{drop-append_seam}
use Rattle.octets.specs.Numbers.{number_at, two_octets}
use Rattle.set_search.specs.Labels.{wire}
use Rattle.set_search.specs.NamesOfDnsName.{IsName}
use Rattle.set_search.specs.OrderOfDnsName.{zone_cmp}
use Rattle.set_search.specs.Types.{number_of}
use Rattle.set_search.specs.RTypeRecord.{RType}
use Rattle.set_search.specs.RecordSetRecord.{RecordSet}
use Rattle.set_search.specs.SetKeyRecord.{SetKey}
use Rattle.set_search.specs.Sets.{ident_of}
use Rattle.set_scratch.specs.Laws.{KeysAreInFront}
use Rattle.set_scratch.specs.Spelling.{Spells}
use Rattle.set_search.specs.Bounds.{is_before}
use Rattle.set_search.specs.declared.bounds.Bound.TheVariants as bound
use Rattle.set_search.specs.Keys.{ident_cmp}
use Rattle.set_store.proofs.Fronts.{fronted, its_name}
use Rattle.set_store.proofs.Named.{as_itself}

number_back : (n : ℕ) → number_at (two_octets n) 0 ≡ n
number_back n = omega arith

module _ (keys : KeysAreInFront) (set : RecordSet) (octets : List ℕ) (spells : Spells octets set)
    (name : List (List ℕ)) (piece : List ℕ) (is : IsName name) (told : piece ≡ wire name)
    (stands : take (length piece) (drop 0 octets) ≡ piece) where
  pub same_name : set.name ≡ name
  same_name = (its_name keys set octets spells name piece is told).0 stands

  behind : drop (length piece) octets ≡ two_octets (number_of set.rtype) ++ (fronted keys set octets spells).more
  behind =
      let front = fronted keys set octets spells in
      let own : piece ≡ wire set.name = told ∙ ap wire (sym same_name) in
      ap (λ (p : List ℕ). drop (length p) octets) own
      ∙ (ap (drop (length (wire set.name))) front.typed
      ∙ drop-append_seam (wire set.name) (two_octets (number_of set.rtype) ++ front.more))

  -- the type stands behind the name
  pub its_two : take 2 (drop (length piece) octets) ≡ two_octets (number_of set.rtype)
  its_two = ap (take 2) behind

  pub long : length piece + 2 ≤ length octets
  long =
      let front = fronted keys set octets spells in
      let own : length piece ≡ length (wire set.name) =
      ap length told ∙ ap (λ (n : List (List ℕ)). length (wire n)) (sym same_name) in
      let all : length octets
      ≡ length (wire set.name) + length (two_octets (number_of set.rtype) ++ front.more) =
      ap length front.typed
      ∙ length-append (wire set.name) (two_octets (number_of set.rtype) ++ front.more) in
      let two = length-append (two_octets (number_of set.rtype)) front.more in
      omega (arith, own, all, two)

  pub its_number : (own : List ℕ) (number : ℕ) → own ≡ take 2 (drop (length piece) octets)
      → number ≡ number_at own 0 → number ≡ number_of set.rtype
  its_number own number at e =
      e ∙ (ap (λ (o : List ℕ). number_at o 0) (at ∙ its_two) ∙ number_back (number_of set.rtype))

-- the bound in front of a group, and the one behind it
from_by : (p : Ordering) (ident : Option (List ℕ))
    → is_lt p ≡ is_lt (ordering_then (ordering_then Equal p) (ident_cmp ident None))
from_by Less ident = refl
from_by Equal None = refl
from_by Equal (Some ident) = refl
from_by Greater ident = refl

tied : (set : RecordSet) (name : List (List ℕ)) → set.name ≡ name → zone_cmp set.name name ≡ Equal
tied set name same =
    subst (λ (n : List (List ℕ)). zone_cmp set.name n ≡ Equal) same (as_itself set.name)

pub from_typed : (set : RecordSet) (key : SetKey) (order : Ordering) → key.ident ≡ None
    → set.name ≡ key.name → order ≡ nat_cmp (number_of set.rtype) (number_of key.rtype)
    → is_lt order ≡ is_before (bound.From key) set
from_typed set key order none same is =
    let types = nat_cmp (number_of set.rtype) (number_of key.rtype) in
    ap is_lt is
    ∙ (from_by types (ident_of set.routing)
    ∙ (ap (λ (i : Option (List ℕ)). is_lt (ordering_then (ordering_then Equal types)
    (ident_cmp (ident_of set.routing) i))) (sym none)
    ∙ ap (λ (o : Ordering). is_lt (ordering_then (ordering_then o types)
    (ident_cmp (ident_of set.routing) key.ident))) (sym (tied set key.name same))))

pub past_typed : (set : RecordSet) (name : List (List ℕ)) (rtype : RType) (order : Ordering)
    → set.name ≡ name → order ≡ nat_cmp (number_of set.rtype) (number_of rtype)
    → not (is_gt order) ≡ is_before (bound.PastGroup name rtype) set
past_typed set name rtype order same is =
    let types = nat_cmp (number_of set.rtype) (number_of rtype) in
    ap (λ (o : Ordering). not (is_gt o)) is
    ∙ ap (λ (o : Ordering). not (is_gt (ordering_then o types))) (sym (tied set name same))

-- no identifier is lent
pub none_copied : (ident : Option (Bor (List ℕ))) → is_some ident ≡ false
    → option_copied ident ≡ None
none_copied None e = refl
none_copied (Some text) e = absurd (grind (arith, e))
