-- Names at and below a name, names that exist, and the closest encloser.
use Rattle.std.proofs.Common.{◌≡◌, ◌≢◌, ◌≤◌, ◌+◌, ◌⊎◌, ℕ, Bool, true, false, List, [], ◌∷◌, length}
use Rattle.std.proofs.Common.{refl, sym, ap, ◌∙◌, subst, inl, inr, arith}
use Rattle.std.specs.Prelude.{cond}
use Rattle.std.proofs.lemmas.List.{length-append}
use Rattle.std.specs.Bool.{Decides}
use Rattle.std.proofs.lemmas.Bool.Decides.{Decides-or}
use Rattle.dns_name.specs.Order.{same_labels}
use Rattle.dns_name.specs.OrderLaws.{same_labels-Decides}
use Rattle.dns_name.specs.Suffix.{EndsWith}
use Rattle.zone_model.specs.RecordSetRecord.{RecordSet}
use Rattle.zone_model.specs.Existing.{Exists, IsAncestor, IsClosest}
use Rattle.zone_model.specs.Zones.{IsAmong}
use Rattle.answer_model.specs.Laws.{EnclosersAreClosest, NamesBelow, NamesExist}
use Rattle.answer_model.specs.Names.{closest, exists, is_at_or_below, is_below}

-- a name with a label before it
pub ends_under : (label : List ℕ) (name other : List (List ℕ)) → EndsWith name other
    → EndsWith (label ∷ name) other
ends_under label name other e = (label ∷ e.0, ap (λ (n : List (List ℕ)). label ∷ n) e.1)

-- it ends with the other where it is the other, or its parent does
pub splits : (label : List ℕ) (name other : List (List ℕ)) → EndsWith (label ∷ name) other
    → (label ∷ name ≡ other) ⊎ EndsWith name other
splits label name other ([], e) = inl e
splits label name other (first ∷ more, e) = inr (more, cc)

pub at_or_below : (name other : List (List ℕ))
    → Decides (is_at_or_below name other) (EndsWith name other)
at_or_below [] other = (
  λ same. ([], (same_labels-Decides [] other).0 same),
  back,
)
  where
    back : EndsWith [] other → same_labels [] other ≡ true
    back ([], e) = (same_labels-Decides [] other).1 e
    back (first ∷ more, e) = absurd (grind (arith, e))
at_or_below (label ∷ name) other =
    let either : Decides (is_at_or_below (label ∷ name) other) ((label ∷ name
    ≡ other) ⊎ EndsWith name other) =
    Decides-or (same_labels (label ∷ name) other) (is_at_or_below name other)
    (same_labels-Decides (label ∷ name) other) (at_or_below name other) in (
      λ h. elim (either.0 h) [
        | inl same ↦ ([], same)
        | inr ends ↦ ends_under label name other ends
      ],
      λ e. either.1 (splits label name other e),
    )

-- a name is none of the ancestors of its parent, nor that
not_parent : (label : List ℕ) (name other : List (List ℕ)) → EndsWith name other
    → label ∷ name ≢ other
not_parent label name other ends same =
    let counts : length name ≡ length ends.0 + length other =
    ap (λ (n : List (List ℕ)). length n) ends.1 ∙ length-append ends.0 other in
    let one_more : length name + 1 ≡ length other =
    (omega arith) ∙ ap (λ (n : List (List ℕ)). length n) same in
    absurd (omega (arith, counts, one_more))

pub below : (name other : List (List ℕ)) → Decides (is_below name other) (IsAncestor name other)
below [] other = (
  λ h. absurd (grind (arith, h)),
  λ ancestor. absurd (ancestor.1 (root ancestor.0)),
)
  where
    root : EndsWith [] other → [] ≡ other
    root ([], e) = e
    root (first ∷ more, e) = absurd (grind (arith, e))
below (label ∷ name) other = (
  λ h. let ends = (at_or_below name other).0 h in
      (ends_under label name other ends, not_parent label name other ends),
  λ ancestor. elim (splits label name other ancestor.0) [
    | inl same ↦ absurd (ancestor.1 same)
    | inr ends ↦ (at_or_below name other).1 ends
  ],
)

pub names_below : NamesBelow
names_below = record { at_or_below = at_or_below; below = below }

-- ---- names that exist

pub names_exist : NamesExist
names_exist [] name = (λ h. absurd (grind (arith, h)), λ e. absurd e.1)
names_exist (set ∷ sets) name =
    let either : Decides (exists (set ∷ sets) name) (EndsWith set.name name ⊎ Exists sets name) =
    Decides-or (is_at_or_below set.name name) (exists sets name)
    (at_or_below set.name name) (names_exist sets name) in (
      λ h. elim (either.0 h) [
        | inl ends ↦ (set, inl refl, ends)
        | inr there ↦ (there.0, inr there.1, there.2)
      ],
      λ e. either.1 (one e.0 e.1 e.2),
    )
  where
    one : (other : RecordSet) → IsAmong (set ∷ sets) other → EndsWith other.name name
        → EndsWith set.name name ⊎ Exists sets name
    one other (inl e) ends = inl (subst (λ (x : RecordSet). EndsWith x.name name) (sym e) ends)
    one other (inr there) ends = inr (other, there, ends)

-- ---- the closest encloser

-- by whether the parent exists
by_parent : {X : Type 0} (P : X → Type 0) (b : Bool) (x y : X)
    → (b ≡ true → P x) → (b ≡ false → P y) → P (cond b x y)
by_parent P true x y if_so if_not = if_so refl
by_parent P false x y if_so if_not = if_not refl

pub ends_shorter : (name other : List (List ℕ)) → EndsWith name other → length other ≤ length name
ends_shorter name other ends =
    let counts : length name ≡ length ends.0 + length other =
    ap (λ (n : List (List ℕ)). length n) ends.1 ∙ length-append ends.0 other in
    omega (arith, counts)

-- an ancestor is the parent, or one of the parent's
parent_ends : (label : List ℕ) (name other : List (List ℕ)) → IsAncestor (label ∷ name) other
    → EndsWith name other
parent_ends label name other ancestor = elim (splits label name other ancestor.0) [
  | inl same ↦ absurd (ancestor.1 same)
  | inr ends ↦ ends
]

under : (label : List ℕ) (name other : List (List ℕ)) → EndsWith name other
    → IsAncestor (label ∷ name) other
under label name other ends = (ends_under label name other ends, not_parent label name other ends)

-- The parent of a name, where that exists; else what is closest to the parent.
step_up : (sets : List RecordSet) (label : List ℕ) (name : List (List ℕ))
    → ((other : List (List ℕ)) → IsAncestor name other → Exists sets other
    → IsClosest sets name (closest sets name))
    → (ancestor : List (List ℕ)) → IsAncestor (label ∷ name) ancestor → Exists sets ancestor
    → IsClosest sets (label ∷ name) (closest sets (label ∷ name))
step_up sets label name closer ancestor is there =
    by_parent (IsClosest sets (label ∷ name)) (exists sets name) name (closest sets name) here above
  where
    here : exists sets name ≡ true → IsClosest sets (label ∷ name) name
    here h = record {
      ancestor = under label name name ([], refl);
      exists = (names_exist sets name).0 h;
      longest = λ other is_one exists_too. ends_shorter name other
          (parent_ends label name other is_one);
    }

    apart : (other : List (List ℕ)) → exists sets name ≡ false → IsAncestor (label ∷ name) other
        → Exists sets other → IsAncestor name other
    apart other h is_one exists_too = (
      parent_ends label name other is_one,
      λ same. absurd (grind (
        arith,
        h,
        (names_exist sets name).1 (subst (Exists sets) (sym same) exists_too),
      )),
    )

    above : exists sets name ≡ false → IsClosest sets (label ∷ name) (closest sets name)
    above h =
        let rest = closer ancestor (apart ancestor h is there) there in
        record {
          ancestor = under label name (closest sets name) rest.ancestor.0;
          exists = rest.exists;
          longest = λ other is_one exists_too.
              rest.longest other (apart other h is_one exists_too) exists_too;
        }

pub enclosers_are_closest : EnclosersAreClosest
enclosers_are_closest sets [] ancestor is there =
    absurd (grind (arith, (below [] ancestor).1 is))
enclosers_are_closest sets (label ∷ name) ancestor is there =
    step_up sets label name (enclosers_are_closest sets name) ancestor is there
