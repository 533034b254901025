-- What a handle gives, by the link of its first cell.
use Rattle.std.proofs.Common.{◌≡◌, ℕ, zero, suc, ◌+◌, ◌<◌, ◌≤◌, List, length, ap, sym, refl, subst, ◌∙◌, arith, None, Some, Option, true, false}
use Rattle.std.specs.FinMap as map
use Rattle.octet_region.specs.declared.cells.Cell.{Cell}
use Rattle.octet_region.specs.Cells.{cells_for, octets_at, number_at, begin_at}
use Rattle.octet_region.specs.Shape.{held_in, octets_by, octets_of, AreWhole, IsIntact}
use Rattle.octet_region.specs.Stored.{Stored, Held, Frees}
use Rattle.octet_region.proofs.Held.{get_held, remove_here, remove_there}
use Rattle.octet_region.proofs.Sound.{live_chain, live_there}

pub not_known : (cells : List Cell) (stored : Stored) (c : ℕ) → held_in cells ≡ stored.held
    → begin_at cells c ≡ 0 → map.get stored.held c ≡ None
not_known cells stored c e m =
    ap (λ (h : Held). map.get h c) (sym e) ∙ get_held cells c
    ∙ ap (λ m. octets_by (octets_at cells) (number_at cells) (length cells) c m) m

pub frees : (old new : Stored) (handle : ℕ) (octets : List ℕ) → map.get old.held handle ≡ Some octets
    → new ≡ record old { held = map.remove old.held handle; spare = old.spare + cells_for (length octets) }
    → Frees (map.get old.held handle) old handle true new
frees old new handle octets e h = subst (λ o. Frees o old handle true new) (sym e) (refl, h)

-- the octets of a handle, by its cells and as they are known
pub seen : (items : List Cell) (stored : Stored) (w : List Cell) (first handle : ℕ)
    → w ≡ items → first ≡ handle → held_in items ≡ stored.held
    → octets_of w first ≡ map.get stored.held handle
seen items stored w first handle same is e =
    ap (λ (x : List Cell). octets_of x first) same
    ∙ ap (λ h. octets_of items h) is
    ∙ sym (get_held items handle)
    ∙ ap (λ (h : Held). map.get h handle) e

pub whole_of : (items w : List Cell) (free spare : ℕ) → IsIntact items free spare → w ≡ items → AreWhole w
whole_of items w free spare s e = subst (λ (x : List Cell). AreWhole x) (sym e) (record {
  chains = λ c m. (live_chain items c free spare s m).inside;
  full = s.full;
  few = s.few;
})

-- a handle that is live is one of a cell
pub known_below : (items : List Cell) (stored : Stored) (free spare handle : ℕ) (octets : List ℕ)
    → IsIntact items free spare → held_in items ≡ stored.held → map.get stored.held handle ≡ Some octets
    → handle < length items
known_below items stored free spare handle octets s e live =
    by_begin (begin_at items handle) refl (omega arith)
  where
    by_begin : (b : ℕ) → begin_at items handle ≡ b → b ≤ 1 → handle < length items
    by_begin zero m few =
        let none : None ≡ Some octets = sym (not_known items stored handle e m) ∙ live in cc
    by_begin (suc n) m few = live_there items handle free spare s (omega (arith, m, few))

-- after a free that answered true, the handle gives nothing and all others what they gave
pub freed_is : (old new : Stored) (handle : ℕ) (o : Option (List ℕ)) → Frees o old handle true new
    → new.held ≡ map.remove old.held handle
freed_is old new handle None f = let e : true ≡ false = f.0 in cc
freed_is old new handle (Some octets) f = ap (λ (s : Stored). s.held) f.1

pub freed_gone : (old new : Stored) (handle : ℕ) → Frees (map.get old.held handle) old handle true new
    → map.get new.held handle ≡ None
freed_gone old new handle f =
    ap (λ (h : Held). map.get h handle) (freed_is old new handle (map.get old.held handle) f)
    ∙ remove_here old.held handle

pub freed_others : (old new : Stored) (handle : ℕ) → Frees (map.get old.held handle) old handle true new
    → (q : ℕ) → (q ≡ handle → ⊥) → map.get new.held q ≡ map.get old.held q
freed_others old new handle f q ne =
    ap (λ (h : Held). map.get h q) (freed_is old new handle (map.get old.held handle) f)
    ∙ remove_there old.held handle q ne
