-- The map of what is held, handle by handle.
use Rattle.std.proofs.Common.{◌≡◌, ℕ, zero, suc, ◌+◌, ◌%◌, ◌<◌, ◌≢◌, List, [], ◌∷◌, length, ap, sym, refl, subst, ◌∙◌, arith, inl, inr, None, Some, true, false, cond}
use Rattle.std.specs.Prelude.{Option}
use Rattle.std.specs.Cmp.{unsigned_tied}
use Rattle.std.specs.FinMap as map
use Rattle.std.specs.FinMap.{nat_cmp-IsAntisymmetric}
use Rattle.std.specs.Ordering.{nat_cmp, eq_by_cmp}
use Rattle.std.proofs.lemmas.Cmp.{nat_cmp_total}
use Rattle.octet_region.specs.declared.cells.Cell.{Cell}
use Rattle.octet_region.specs.Cells.{octets_at, number_at, begin_at}
use Rattle.octet_region.specs.Shape.{octets_by, octets_of, with_octets, held_from, held_in}
use Rattle.octet_region.specs.Stored.{Held}
use Rattle.octet_region.proofs.Picks.{at_or_not}

tied_same : (a : ℕ) → eq_by_cmp nat_cmp a a ≡ true
tied_same a = unsigned_tied a a ∙ grind arith

tied_other : (a b : ℕ) → a ≢ b → eq_by_cmp nat_cmp a b ≡ false
tied_other a b ne = unsigned_tied a b ∙ grind arith

pub insert_here : (held : Held) (c : ℕ) (octets : List ℕ) → map.get (map.insert held c octets) c ≡ Some octets
insert_here held c octets =
    map.get-insert nat_cmp_total held c octets c
    ∙ ap (λ b. cond b (Some octets) (map.get held c)) (tied_same c)

pub insert_there : (held : Held) (c : ℕ) (octets : List ℕ) (q : ℕ) → q ≢ c
    → map.get (map.insert held c octets) q ≡ map.get held q
insert_there held c octets q ne =
    map.get-insert nat_cmp_total held c octets q
    ∙ ap (λ b. cond b (Some octets) (map.get held q)) (tied_other q c ne)

pub remove_here : (held : Held) (c : ℕ) → map.get (map.remove held c) c ≡ None
remove_here held c = map.get-remove nat_cmp_total held c c
    ∙ ap (λ b. cond b None (map.get held c)) (tied_same c)

pub remove_there : (held : Held) (c q : ℕ) → q ≢ c → map.get (map.remove held c) q ≡ map.get held q
remove_there held c q ne =
    map.get-remove nat_cmp_total held c q ∙ ap (λ b. cond b None (map.get held q)) (tied_other q c ne)

with_here : (c : ℕ) (o : Option (List ℕ)) (held : Held) → map.get held c ≡ None
    → map.get (with_octets c o held) c ≡ o
with_here c None held e = e
with_here c (Some octets) held e = insert_here held c octets

with_there : (c : ℕ) (o : Option (List ℕ)) (held : Held) (q : ℕ) → q ≢ c
    → map.get (with_octets c o held) q ≡ map.get held q
with_there c None held q ne = refl
with_there c (Some octets) held q ne = insert_there held c octets q ne

held_below : (all : List Cell) (c : ℕ) (rest : List Cell) (q : ℕ) → q < c
    → map.get (held_from all c rest) q ≡ None
held_below all c [] q lt = map.get-empty nat_cmp q
held_below all c (cell ∷ rest) q lt =
    with_there c (octets_by (octets_at all) (number_at all) (length all) c (cell.link % 2)) (held_from all (suc c) rest) q
    (λ e. omega arith)
    ∙ held_below all (suc c) rest q (omega arith)

held_at : (all : List Cell) (c : ℕ) (rest : List Cell) (q k : ℕ) → q ≡ c + k
    → map.get (held_from all c rest) q ≡ octets_by (octets_at all) (number_at all) (length all) q (begin_at rest k)
held_at all c [] q k e = map.get-empty nat_cmp q
held_at all c (cell ∷ rest) q zero e =
    let same : q ≡ c = omega arith in
    subst (λ x. map.get
    (with_octets c (octets_by (octets_at all) (number_at all) (length all) c (cell.link % 2)) (held_from all (suc c) rest)) x
    ≡ octets_by (octets_at all) (number_at all) (length all) x (cell.link % 2)) (sym same)
    (with_here c (octets_by (octets_at all) (number_at all) (length all) c (cell.link % 2)) (held_from all (suc c) rest)
    (held_below all (suc c) rest c (omega arith)))
held_at all c (cell ∷ rest) q (suc k) e =
    with_there c (octets_by (octets_at all) (number_at all) (length all) c (cell.link % 2)) (held_from all (suc c) rest) q
    (λ x. omega arith)
    ∙ held_at all (suc c) rest q k (omega arith)

pub get_held : (cells : List Cell) (q : ℕ) → map.get (held_in cells) q ≡ octets_of cells q
unfolding held_in
get_held cells q = held_at cells 0 cells q q (omega arith)

pub same_held : (m n : Held) → ((q : ℕ) → map.get m q ≡ map.get n q) → m ≡ n
same_held m n h = map.same_map nat_cmp_total nat_cmp-IsAntisymmetric m n h

-- one handle more
pub held_put : (old new : List Cell) (c : ℕ) (octets : List ℕ) → octets_of new c ≡ Some octets
    → ((q : ℕ) → (q ≡ c → ⊥) → octets_of new q ≡ octets_of old q)
    → held_in new ≡ map.insert (held_in old) c octets
held_put old new c octets here there = same_held _ _ (λ q. get_held new q ∙ elim (at_or_not q c) [
  | inl e ↦ subst (λ x. octets_of new x ≡ map.get (map.insert (held_in old) c octets) x) (sym e)
      (here ∙ sym (insert_here (held_in old) c octets))
  | inr ne ↦ there q ne ∙ sym (get_held old q) ∙ sym (insert_there (held_in old) c octets q ne)
])

-- one handle less
pub held_free : (old new : List Cell) (c : ℕ) → octets_of new c ≡ None
    → ((q : ℕ) → (q ≡ c → ⊥) → octets_of new q ≡ octets_of old q)
    → held_in new ≡ map.remove (held_in old) c
held_free old new c here there = same_held _ _ (λ q. get_held new q ∙ elim (at_or_not q c) [
  | inl e ↦ subst (λ x. octets_of new x ≡ map.get (map.remove (held_in old) c) x) (sym e)
      (here ∙ sym (remove_here (held_in old) c))
  | inr ne ↦ there q ne ∙ sym (get_held old q) ∙ sym (remove_there (held_in old) c q ne)
])

pub held_same : (old new : List Cell) → ((q : ℕ) → octets_of new q ≡ octets_of old q)
    → held_in new ≡ held_in old
held_same old new h = same_held _ _ (λ q. get_held new q ∙ h q ∙ sym (get_held old q))
