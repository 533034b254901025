-- Octets that are read as a set, whole.
use Rattle.std.proofs.Common.{◌≡◌, ◌≤◌, ℕ, List, [], ◌++◌, Option, Some, Result, Ok, Err, length, min, take, ap, ◌∙◌, sym, arith}
use Rattle.std.specs.FinMap as finmap
use Rattle.std.specs.Prelude.{IfOk, slice_get}
use Rattle.std.proofs.lemmas.List.{append-nil, take_all}
use Rattle.set_scratch.specs.Stored.{Held}
use Rattle.std.proofs.Math.Seq.{take-append_seam, take-length}
use Rattle.set_search.specs.RecordSetRecord.{RecordSet}
use Rattle.set_scratch.specs.Octets.{set_octets}
use Rattle.set_scratch.specs.ReadFaultRecord.{ReadFault}
use Rattle.set_scratch.specs.ReadFaultRecord.TheVariants as fault
use Rattle.set_scratch.specs.Gives.{GivesSet}
use Rattle.set_scratch.specs.Sets.{BeginsWithSet}
use Rattle.set_store.specs.Packed.{Slot}
use Rattle.set_store.specs.Index.{HoldsAt}
use Rattle.set_store.specs.Stored.{Spells}

-- octets that are a set's begin with it
pub begins : (octets : List ℕ) (set : RecordSet) → Spells octets set
    → BeginsWithSet octets set (length octets)
begins octets set spells = record {
  rest = [];
  is = spells.is;
  has_spelling = spells.has_spelling;
  spelled = spells.same ∙ sym (append-nil (set_octets set));
  size = ap length spells.same;
}

-- what is read is the set that stands there
pub told_set : (x y : RecordSet × ℕ) → GivesSet (Ok x) (Ok y) → x.0 ≡ y.0
told_set x y e = let same : y ≡ x = cc in ap (λ (p : RecordSet × ℕ). p.0) (sym same)

pub never_bad : (why : ReadFault) (place : ℕ) (y : RecordSet × ℕ) → why ≡ fault.Bad place
    → GivesSet (Err why) (Ok y) → ⊥
never_bad (fault.Bad n) place y is e = cc
never_bad fault.OutOfMemory place y is e = cc

pub if_ok : {X E : Type 0} (P Q : X → Type 0) (r : Result X E) → ((x : X) → P x → Q x) → IfOk r P → IfOk r Q
if_ok P Q (Ok x) f h = f x h
if_ok P Q (Err e) f h = h

-- a buffer of the right size that was filled
pub copied : (len : ℕ) (octets old into rest : List ℕ) → len ≡ length octets → length old ≡ length octets
    → into ≡ take (length old) octets → take len (into ++ rest) ≡ octets
copied len octets old into rest size room is =
    let same : into ≡ octets = is ∙ ap (λ k. take k octets) room ∙ take-length octets in
    ap (λ k. take k (into ++ rest)) (size ∙ ap length (sym same)) ∙ take-append_seam into rest ∙ same

-- a slot holds one thing
pub one_held : (held : Held) (slots : List Slot) (i : ℕ) (one other : List ℕ) → HoldsAt held slots i one
    → HoldsAt held slots i other → one ≡ other
one_held held slots i one other holds also =
    same_octets (finmap.get held holds.0.cell) one other holds.3
    (ap (λ (s : Slot). finmap.get held s.cell) (same_slot (slice_get slots i) holds.0 also.0 holds.1 also.1)
    ∙ also.3)
  where
    same_slot : (o : Option Slot) (x y : Slot) → o ≡ Some x → o ≡ Some y → x ≡ y
    same_slot o x y e f = cc

    same_octets : (o : Option (List ℕ)) (x y : List ℕ) → o ≡ Some x → o ≡ Some y → x ≡ y
    same_octets o x y e f = cc

-- as many as there are, and room for more
pub all_of : (octets : List ℕ) (room : ℕ) → length octets ≤ room → take (min (length octets) room) octets ≡ octets
all_of octets room fits = take_all (min (length octets) room) octets (omega (arith, fits))
