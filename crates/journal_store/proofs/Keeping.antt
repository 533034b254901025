-- What keeps a store.
use Rattle.std.proofs.Common.{◌≡◌, ◌≤◌, inl, inr, ℕ, List, [], Option, Some, length, refl, sym, ◌∙◌, subst}
use Rattle.r53_disk.specs.Memory.{History, IsImage, ImagesAfter}
use Rattle.gate_journal.specs.Layout.{front, IsOpen, OpensTo}
use Rattle.gate_journal.specs.declared.answers.Appended.{Appended}
use Rattle.gate_journal.specs.declared.answers.Appended.TheVariants as appended
use Rattle.zone_journal.specs.Pairs.{OpensPair, OpensBy, EachPair, Unwritten, active_of, other_of}
use Rattle.file_building.specs.Building.{Plan}
use Rattle.zone_journal.specs.Standing.{State, StandsWith, StandsOn}
use Rattle.zone_journal.specs.Appending.{MayLeave}
use Rattle.zone_journal.specs.Compacting.{IsOldOrNew}
use Rattle.zone_journal.specs.Making.{InitGives, InitLeaves, empty_snapshot}
use Rattle.zone_journal.specs.declared.answers.Init.{Init}
use Rattle.zone_journal.specs.declared.answers.Init.TheVariants as init
use Rattle.zone_journal.specs.declared.answers.Side.{Side}
use Rattle.zone_journal.specs.declared.answers.Side.TheVariants.{A, B}
use Rattle.file_building.proofs.Gates.{is_open, has_generation}
use Rattle.zone_journal.proofs.Stores.{opens_empty}
use Rattle.journal_store.specs.Store.{Opens, IsStore, HasShape}

opens_so : (x y : List ℕ) (g : ℕ) (s : List ℕ) (es : List (List ℕ)) → OpensPair x y g s es
    → Opens x y
opens_so x y g s es o = record { generation = g; snapshot = s; entries = es; opens = o }

by_side : (side : Side) (x y : List ℕ) (g : ℕ) (s : List ℕ) (es : List (List ℕ))
    → OpensBy side (active_of side x y) (other_of side x y) g s es → OpensPair x y g s es
by_side A x y g s es o = inl o
by_side B x y g s es o = inr o

pub shape_is_store : {D : Type 0} (images : D → List ℕ → Type 0) (v : State) (a b : D)
    → HasShape images v a b → IsStore images a b
shape_is_store images v a b shape x y of_a of_b =
    opens_so x y v.generation shape.snapshot shape.entries
    (by_side v.side x y v.generation shape.snapshot shape.entries (shape.each x y of_a of_b))

-- what stands on an active disk and another one
record Shaped {D : Type 0} (images : D → List ℕ
    → Type 0) (v : State) (active other : D) : Type 0 where
  snapshot : List ℕ
  entries : List (List ℕ)
  place : v.at ≡ length (front v.generation snapshot entries)
  each : (c d : List ℕ) → images active c → images other d
      → OpensBy v.side c d v.generation snapshot entries

module _ {D : Type 0} (reading : D → Option (List ℕ)) (images : D → List ℕ → Type 0) where
  shaped : (v : State) (active other : D) → StandsWith reading images v active other
      → (x y : List ℕ) → reading active ≡ Some x → reading other ≡ Some y
      → Shaped images v active other
  shaped v active other stands x y tx ty =
      let file = stands.journal.file x tx in
      let same : file.generation ≡ v.generation =
      sym (has_generation x file.generation file.snapshot file.entries file.opens)
      ∙ stands.generation x tx in
      record {
        snapshot = file.snapshot;
        entries = file.entries;
        place = subst (λ g. v.at ≡ length (front g file.snapshot file.entries)) same file.place;
        each = λ c d now there. (
          subst (λ (p : List ℕ × ℕ). OpensTo p.0 p.1 file.snapshot file.entries)
              (λ i. (sym (stands.journal.durable x tx c now) i, same i)) file.opens,
          stands.yields y ty d there,
        );
      }

  shape_by : (side : Side) (v : State) (a b : D) → v.side ≡ side
      → StandsWith reading images v (active_of side a b) (other_of side a b)
      → (x y : List ℕ) → reading a ≡ Some x → reading b ≡ Some y → HasShape images v a b
  shape_by A v a b is stands x y tx ty =
      let all = shaped v a b stands x y tx ty in
      record {
        snapshot = all.snapshot;
        entries = all.entries;
        place = all.place;
        each = λ c d of_a of_b.
            subst (λ q. OpensBy v.side (active_of q c d) (other_of q c d) v.generation all.snapshot
            all.entries)
            (sym is) (all.each c d of_a of_b);
      }
  shape_by B v a b is stands x y tx ty =
      let all = shaped v b a stands y x ty tx in
      record {
        snapshot = all.snapshot;
        entries = all.entries;
        place = all.place;
        each = λ c d of_a of_b.
            subst (λ q. OpensBy v.side (active_of q c d) (other_of q c d) v.generation all.snapshot
            all.entries)
            (sym is) (all.each d c of_b of_a);
      }

  pub shape : (v : State) (a b : D) (x y : List ℕ) → StandsOn reading images v a b
      → reading a ≡ Some x → reading b ≡ Some y
      → HasShape images v a b
  shape v a b x y stands tx ty = shape_by v.side v a b refl stands x y tx ty

  pub made : (x y : List ℕ) (a b : D) → InitGives reading images init.Done x y a b
      → IsStore images a b
  made x y a b gives c d of_a of_b =
      opens_so c d 1 empty_snapshot []
      (inl (
        subst (λ l. OpensTo l 1 empty_snapshot []) (sym (gives.3 c of_a)) (opens_empty x),
        λ o. absurd (gives.1 (subst IsOpen (gives.4 d of_b) o)),
      ))

  pub fewer : (a_old a_new b_old b_new : D) → ((c : List ℕ) → images a_new c → images a_old c)
      → ((c : List ℕ) → images b_new c → images b_old c) → IsStore images a_old b_old
      → IsStore images a_new b_new
  fewer a_old a_new b_old b_new of_a of_b store x y now there =
      store x y (of_a x now) (of_b y there)

  one_open : (x y : List ℕ) → Opens x y → (IsOpen x → ⊥) → (IsOpen y → ⊥) → ⊥
  one_open x y o a_shut b_shut = either o.opens
    where
      either : OpensPair x y o.generation o.snapshot o.entries → ⊥
      either (inl by) = a_shut (is_open x o.generation o.snapshot o.entries by.0)
      either (inr by) = b_shut (is_open y o.generation o.snapshot o.entries by.0)

  module _ (moment : D → ℕ) (images_since : D → ℕ → List ℕ → Type 0) where
    pub init_keeps : ((d : D) (bytes : List ℕ) → reading d ≡ Some bytes → images d bytes)
        → (r : Init) (x y : List ℕ) (a_old a_new b_old b_new : D) → reading a_old ≡ Some x
        → reading b_old ≡ Some y
        → InitGives reading images r x y a_new b_new
        → InitLeaves reading images moment images_since r x y a_old a_new b_old b_new
        → Unwritten reading images moment images_since b_old b_new
        → IsStore images a_old b_old → IsStore images a_new b_new
    init_keeps is_image init.Done x y a_old a_new b_old b_new tx ty gives leaves same store =
        made x y a_new b_new gives
    init_keeps is_image (init.AlreadyAStore side) x y a_old a_new b_old b_new tx ty gives leaves
        same store =
        fewer a_old a_new b_old b_new leaves.leaves same.leaves store
    init_keeps is_image init.DiskFault x y a_old a_new b_old b_new tx ty gives (inl looked) same
        store =
        fewer a_old a_new b_old b_new looked.0.leaves same.leaves store
    init_keeps is_image init.DiskFault x y a_old a_new b_old b_new tx ty gives (inr makes) same
        store =
        absurd (one_open x y (store x y (is_image a_old x tx) (is_image b_old y ty)) makes.a_shut
        makes.b_shut)

  module _ (moment : D → ℕ) (images_since : D → ℕ → List ℕ → Type 0)
      (counts_now : (d : D) (t : ℕ) (c : List ℕ) → t ≤ moment d → images d c
      → images_since d t c) where
    append_opens : (r : Appended) (g : ℕ) (s : List ℕ) (es : List (List ℕ)) (e x y : List ℕ)
        → MayLeave r g s es e x y → Opens x y
    append_opens appended.Done g s es e x y (inl o) = opens_so x y g s _ o
    append_opens appended.Done g s es e x y (inr o) = opens_so x y g s _ o
    append_opens (appended.Full n) g s es e x y o = opens_so x y g s es o
    append_opens appended.DiskFault g s es e x y (inl o) = opens_so x y g s _ o
    append_opens appended.DiskFault g s es e x y (inr o) = opens_so x y g s _ o

    pub append_keeps : (r : Appended) (g : ℕ) (s : List ℕ) (es : List (List ℕ)) (e : List ℕ)
        (a_old a_new b_old b_new : D)
        → EachPair moment images_since a_old a_new b_old b_new (MayLeave r g s es e)
        → IsStore images a_new b_new
    append_keeps r g s es e a_old a_new b_old b_new run x y of_a of_b =
        append_opens r g s es e x y
        (run.each x y (counts_now a_new (moment a_old) x run.a_later of_a)
        (counts_now b_new (moment b_old) y run.b_later of_b))

    piece_opens : (v : State) (p : Plan) (g : ℕ) (s : List ℕ) (es since : List (List ℕ))
        (x y : List ℕ)
        → IsOldOrNew v p g s es since x y → Opens x y
    piece_opens v p g s es since x y (inl o) = opens_so x y g s _ o
    piece_opens v p g s es since x y (inr new) = opens_so x y _ p.snapshot since new.1

    pub piece_keeps : (v : State) (p : Plan) (g : ℕ) (s : List ℕ) (es since : List (List ℕ))
        (a_old a_new b_old b_new : D)
        → EachPair moment images_since a_old a_new b_old b_new (IsOldOrNew v p g s es since)
        → IsStore images a_new b_new
    piece_keeps v p g s es since a_old a_new b_old b_new run x y of_a of_b =
        piece_opens v p g s es since x y
        (run.each x y (counts_now a_new (moment a_old) x run.a_later of_a)
        (counts_now b_new (moment b_old) y run.b_later of_b))

pub again : (a b c d : History) → IsStore IsImage a b → IsImage a c.first → c.steps ≡ []
    → IsImage b d.first → d.steps ≡ []
    → IsStore IsImage c d
again a b c d store of_a no_steps of_b none x y now there =
    let x_is : x ≡ c.first =
    subst (λ l. ImagesAfter c.first (λ file. file ≡ c.first) l x) no_steps now in
    let y_is : y ≡ d.first =
    subst (λ l. ImagesAfter d.first (λ file. file ≡ d.first) l y) none there in
    subst (λ (p : List ℕ × List ℕ). Opens p.0 p.1) (λ i. (sym x_is i, sym y_is i))
    (store c.first d.first of_a of_b)
