-- Cells that come back.
use Rattle.std.proofs.Common.{◌≡◌, ℕ, ◌+◌, List, Option, None, Some, Bool, length, ap, ◌∙◌, ◌-◌, ◌≤◌, arith}
use Rattle.set_store.specs.Packed.{Slot}
use Rattle.set_scratch.specs.Cells.{cells_for}
use Rattle.set_scratch.specs.Stored.{Frees, Stored}

pub come_back : (known : Option (List ℕ)) (octets : List ℕ) → known ≡ Some octets → (old new : Stored)
    (handle : ℕ) (answer : Bool) → Frees known old handle answer new
    → new.spare ≡ old.spare + cells_for (length octets)
come_back None octets e old new handle answer f = absurd cc
come_back (Some x) octets e old new handle answer f =
    let same : x ≡ octets = cc in
    ap (λ (s : Stored). s.spare) f.1 ∙ ap (λ (o : List ℕ). old.spare + cells_for (length o)) same

pub same_cell : (found : Option Slot) (slot other : Slot) → found ≡ Some slot → found ≡ Some other → slot.cell ≡ other.cell
same_cell found slot other at at_too = let e : slot ≡ other = cc in ap (λ (s : Slot). s.cell) e

-- what was taken for the new octets, and came back for the old
pub cells_back : (old mid new many few : ℕ) → mid ≡ old - many → many ≤ old → new ≡ mid + few
    → new + many ≡ old + few
cells_back old mid new many few is enough back = omega (arith, is, enough, back)
