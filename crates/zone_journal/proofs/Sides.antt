-- A journal that stands on two disks, by the side that decides.
use Rattle.std.proofs.Common.{◌≡◌, ℕ, List, Option, Some, sym, ◌∙◌, subst}
use Rattle.file_building.specs.Layout.{OpensTo}
use Rattle.zone_journal.specs.Pairs.{OpensPair, Yields, active_of, other_of}
use Rattle.zone_journal.specs.declared.answers.Side.{Side}
use Rattle.zone_journal.specs.declared.answers.Side.TheVariants.{A, B}
use Rattle.zone_journal.specs.Standing.{State, StandsWith, StandsOn}
use Rattle.file_building.proofs.Gates.{has_generation}
use Rattle.zone_journal.proofs.PairLemmas.{opens_by_a, opens_by_b}
use Rattle.zone_journal.proofs.Appends.{ends_open}

-- what is known of the file that decides and of the images of the other one
pub record Sided (side : Side) (generation : ℕ) (active_images other_images : List ℕ
    → Type 0) (x y : List ℕ) (n : ℕ) (s : List ℕ) (es : List (List ℕ)) : Type 0 where
  pub same : generation ≡ n
  pub only : (c : List ℕ) → active_images c → c ≡ x
  pub opens : OpensTo x n s es
  pub yields : Yields side n y
  pub all : (c : List ℕ) → other_images c → Yields side n c

module _ {D : Type 0} (reading : D → Option (List ℕ)) (images : D → List ℕ
    → Type 0) (is_image : (d : D) (bytes : List ℕ) → reading d ≡ Some bytes
    → images d bytes) (v : State) (a b : D) (stands : StandsOn reading images v a b)
    (x y : List ℕ) (tx : reading a ≡ Some x) (ty : reading b
    ≡ Some y) (n : ℕ) (s : List ℕ) (es : List (List ℕ)) (o : OpensPair x y n s es) where
  pub of_a : v.side ≡ A → Sided A v.generation (images a) (images b) x y n s es
  of_a side =
      let here =
      subst (λ q. StandsWith reading images v (active_of q a b) (other_of q a b)) side stands in
      let all =
      λ (c : List ℕ) (now : images b c). subst (λ q. Yields q v.generation c) side
      (here.yields y ty c now) in
      let by = opens_by_a x y v.generation (ends_open v.at x (here.journal.file x tx))
      (here.generation x tx) (all y (is_image b y ty)) n s es o in
      let same : v.generation ≡ n = sym (here.generation x tx) ∙ has_generation x n s es by.0 in
      record {
        same = same;
        only = here.journal.durable x tx;
        opens = by.0;
        yields = by.1;
        all =
            λ c now. subst (λ g. Yields A g c) same (all c now);
      }

  pub of_b : v.side ≡ B → Sided B v.generation (images b) (images a) y x n s es
  of_b side =
      let here =
      subst (λ q. StandsWith reading images v (active_of q a b) (other_of q a b)) side stands in
      let all =
      λ (c : List ℕ) (now : images a c). subst (λ q. Yields q v.generation c) side
      (here.yields x tx c now) in
      let by = opens_by_b x y v.generation (ends_open v.at y (here.journal.file y ty))
      (here.generation y ty) (all x (is_image a x tx)) n s es o in
      let same : v.generation ≡ n = sym (here.generation y ty) ∙ has_generation y n s es by.0 in
      record {
        same = same;
        only = here.journal.durable y ty;
        opens = by.0;
        yields = by.1;
        all =
            λ c now. subst (λ g. Yields B g c) same (all c now);
      }
