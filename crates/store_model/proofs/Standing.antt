-- What a crash leaves of two files on which a journal stands.
use Rattle.std.proofs.Common.{◌≡◌, ◌∙◌, ◌+◌, inl, inr, ℕ, List, [], length, Option, Some, refl, sym}
use Rattle.std.proofs.Common.{subst}
use Rattle.config_model.specs.Configs.{empty}
use Rattle.gate_journal.proofs.Opening.{opens_to_one}
use Rattle.gate_journal.specs.Layout.{IsOpen, OpensTo, front}
use Rattle.store_model.proofs.Readings.{opens_read, read_open}
use Rattle.store_model.proofs.Shapes.{shape_at}
use Rattle.store_model.proofs.Sides.{active_opens, generation_is, opens_by_active}
use Rattle.store_model.specs.Laws.{EmptyOpens, InitOpens, NoStoreOrConfig, NoneOrEmptyOpens}
use Rattle.store_model.specs.Laws.{StandingOpens, StandingPlace, StandingShapes, StoreIsTold}
use Rattle.store_model.specs.Opening.{IsShape, OpensConfig}
use Rattle.zone_journal.proofs.Stores.{opens_empty}
use Rattle.zone_journal.specs.Making.{empty_snapshot}
use Rattle.zone_journal.specs.Pairs.{IsActive, OpensPair, Yields, active_of, other_of}
use Rattle.zone_journal.specs.Standing.{StandsWith, State}
use Rattle.zone_journal.specs.declared.answers.Side.{Side}
use Rattle.zone_journal.specs.declared.answers.Side.TheVariants.{A, B}

module _ {D : Type 0} (reading : D → Option (List ℕ)) (images : D → List ℕ → Type 0)
    (is_image : (disk : D) (bytes : List ℕ) → reading disk ≡ Some bytes → images disk bytes) where
  -- the file of the journal decides beside each image of the other one
  decides : (state : State) (active other : D) → StandsWith reading images state active other
      → (x y : List ℕ) → reading active ≡ Some x → reading other ≡ Some y
      → (side : Side) → state.side ≡ side → (c : List ℕ) → images other c → IsActive side x c
  decides state active other stands x y tx ty side is c now =
      let file = stands.journal.file x tx in (
        read_open x (length (front file.generation file.snapshot file.entries)) file.generation
            file.snapshot file.entries
            (opens_read x file.generation file.snapshot file.entries file.opens),
        subst (λ (k : Side × ℕ). Yields k.0 k.1 c) (λ i. (is i, sym (stands.generation x tx) i))
            (stands.yields y ty c now),
      )

  by_side : (side : Side) (state : State) (a b : D) → state.side ≡ side
      → StandsWith reading images state (active_of side a b) (other_of side a b)
      → (x y : List ℕ) → reading a ≡ Some x → reading b ≡ Some y
      → (g : ℕ) (s : List ℕ) (es : List (List ℕ)) → OpensPair x y g s es
      → (u v : List ℕ) → images a u → images b v → OpensPair u v g s es
  by_side A state a b is stands x y tx ty g s es opens u v of_a of_b =
      let now = decides state a b stands x y tx ty A is y (is_image b y ty) in
      subst (λ l. OpensPair l v g s es) (sym (stands.journal.durable x tx u of_a))
      (active_opens x v A g s es (decides state a b stands x y tx ty A is v of_b)
      (opens_by_active x y A g s es now opens))
  by_side B state a b is stands x y tx ty g s es opens u v of_a of_b =
      let now = decides state b a stands y x ty tx B is x (is_image a x tx) in
      subst (λ l. OpensPair u l g s es) (sym (stands.journal.durable y ty v of_b))
      (active_opens u y B g s es (decides state b a stands y x ty tx B is u of_a)
      (opens_by_active x y B g s es now opens))

  pub standing_opens : StandingOpens reading images
  standing_opens state a b x y generation octets entries config stands tx ty o u v of_a of_b =
      record {
        opens = by_side state.side state a b refl stands x y tx ty generation octets entries o.opens
            u v of_a of_b;
        makes = o.makes;
      }

  placed : (state : State) (active other : D) → StandsWith reading images state active other
      → (x : List ℕ) → reading active ≡ Some x
      → (g : ℕ) (s : List ℕ) (es : List (List ℕ)) → OpensTo x g s es
      → (state.generation ≡ g) × (state.at ≡ length (front g s es)) × OpensTo x g s es
  placed state active other stands x tx g s es o =
      let file = stands.journal.file x tx in
      let one = opens_to_one x file.generation g file.snapshot s file.entries es file.opens o in (
        sym (stands.generation x tx) ∙ generation_is x g s es o,
        file.place ∙ (λ i. length (front (one.generation i) (one.snapshot i) (one.entries i))),
        o,
      )

  place_by : (side : Side) (state : State) (a b : D) → state.side ≡ side
      → StandsWith reading images state (active_of side a b) (other_of side a b)
      → (x y : List ℕ) → reading a ≡ Some x → reading b ≡ Some y
      → (g : ℕ) (s : List ℕ) (es : List (List ℕ)) → OpensPair x y g s es
      → IsActive side (active_of side x y) (other_of side x y) × (state.generation ≡ g)
      × (state.at ≡ length (front g s es)) × OpensTo (active_of side x y) g s es
  place_by A state a b is stands x y tx ty g s es opens =
      let now = decides state a b stands x y tx ty A is y (is_image b y ty) in
      let p = placed state a b stands x tx g s es (opens_by_active x y A g s es now opens) in
      (now, p.0, p.1, p.2)
  place_by B state a b is stands x y tx ty g s es opens =
      let now = decides state b a stands y x ty tx B is x (is_image a x tx) in
      let p = placed state b a stands y ty g s es (opens_by_active x y B g s es now opens) in
      (now, p.0, p.1, p.2)

  pub standing_place : StandingPlace reading images
  standing_place state a b x y generation octets entries stands tx ty opens =
      let p = place_by state.side state a b refl stands x y tx ty generation octets entries opens in (
        p.1,
        p.2,
        p.3,
        shape_at x y state.side state.generation state.at generation octets entries p.0 p.1 p.2 p.3,
      )

  -- the same of what a crash leaves of the two files
  shape_by : (side : Side) (state : State) (a b : D) → state.side ≡ side
      → StandsWith reading images state (active_of side a b) (other_of side a b)
      → (x y : List ℕ) → reading a ≡ Some x → reading b ≡ Some y
      → (g : ℕ) (s : List ℕ) (es : List (List ℕ)) → OpensPair x y g s es
      → (u v : List ℕ) → images a u → images b v
      → IsShape u v side state.generation (state.at + 1)
  shape_by A state a b is stands x y tx ty g s es opens u v of_a of_b =
      let now = decides state a b stands x y tx ty A is y (is_image b y ty) in
      let p = placed state a b stands x tx g s es (opens_by_active x y A g s es now opens) in
      subst (λ l. IsShape l v A state.generation (state.at + 1))
      (sym (stands.journal.durable x tx u of_a))
      (shape_at x v A state.generation state.at g s es
      (decides state a b stands x y tx ty A is v of_b) p.0 p.1 p.2)
  shape_by B state a b is stands x y tx ty g s es opens u v of_a of_b =
      let now = decides state b a stands y x ty tx B is x (is_image a x tx) in
      let p = placed state b a stands y ty g s es (opens_by_active x y B g s es now opens) in
      subst (λ l. IsShape u l B state.generation (state.at + 1))
      (sym (stands.journal.durable y ty v of_b))
      (shape_at u y B state.generation state.at g s es
      (decides state b a stands y x ty tx B is u of_a) p.0 p.1 p.2)

  pub standing_shapes : StandingShapes reading images
  standing_shapes state a b x y generation octets entries stands tx ty opens u v of_a of_b =
      shape_by state.side state a b refl stands x y tx ty generation octets entries opens u v of_a
      of_b

  pub store_is_told : NoStoreOrConfig → StoreIsTold reading images
  store_is_told not_both a b x y side place store tx ty none =
      let opened = store x y (is_image a x tx) (is_image b y ty) in
      not_both x y opened.0 side place opened.1 none

-- ---- a new store

module _ (opens : EmptyOpens) where
  opens_nothing : (x y : List ℕ) → OpensTo x 1 empty_snapshot [] → (IsOpen y → ⊥)
      → OpensConfig x y empty
  opens_nothing x y of_a closed = record {
    generation = 1;
    snapshot = empty_snapshot;
    entries = [];
    opens = opens x y 1 (inl (of_a, λ is_open. absurd (closed is_open)));
  }

  pub none_or_empty_opens : NoneOrEmptyOpens
  none_or_empty_opens x y (inl shut) closed = inl (inl (refl, refl, shut, closed))
  none_or_empty_opens x y (inr of_a) closed = inr (opens_nothing x y of_a closed)

  pub init_opens : {D : Type 0} (reading : D → Option (List ℕ)) (images : D → List ℕ → Type 0)
      → InitOpens reading images
  init_opens reading images x y a b gives u v of_a of_b =
      opens_nothing u v
      (subst (λ l. OpensTo l 1 empty_snapshot []) (sym (gives.3 u of_a)) (opens_empty x))
      (λ is_open. gives.1 (subst IsOpen (gives.4 v of_b) is_open))
