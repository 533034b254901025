-- What keeps a store.
use Rattle.std.proofs.Common.{◌≡◌, ◌≤◌, inl, inr, ℕ, List, Option, Some, length, sym, subst}
use Rattle.config_model.specs.Configs.{Config, empty}
use Rattle.gate_journal.specs.Layout.{IsOpen}
use Rattle.gate_journal.specs.declared.answers.Appended.{Appended}
use Rattle.gate_journal.specs.declared.answers.Appended.TheVariants as appended
use Rattle.r53_disk.specs.Memory.{ImagesAfter}
use Rattle.store_model.proofs.Sides.{opens_active}
use Rattle.store_model.specs.Kept.{AppendsKeepStore, ImagesMakeStore, InitKeepsStore}
use Rattle.store_model.specs.Kept.{OpeningKeepsStore, PiecesKeepStore}
use Rattle.store_model.specs.Laws.{InitOpens}
use Rattle.store_model.specs.Leaving.{MayOpen}
use Rattle.store_model.specs.Opening.{OpensConfig}
use Rattle.zone_journal.specs.Pairs.{OpensPair}
use Rattle.zone_journal.specs.declared.answers.Init.TheVariants as init
use Rattle.zone_journal.specs.declared.answers.Side.TheVariants.{A, B}

-- of files that open one is open
one_open : (x y : List ℕ) (g : ℕ) (s : List ℕ) (es : List (List ℕ)) → OpensPair x y g s es
    → (IsOpen x → ⊥) → (IsOpen y → ⊥) → ⊥
one_open x y g s es (inl by) a_shut b_shut = a_shut (opens_active A x y g s es by).0
one_open x y g s es (inr by) a_shut b_shut = b_shut (opens_active B y x g s es by).0

module _ {D : Type 0} (reading : D → Option (List ℕ)) (images : D → List ℕ → Type 0)
    (moment : D → ℕ) (images_since : D → ℕ → List ℕ → Type 0) where
  pub opening_keeps_store : OpeningKeepsStore reading images moment images_since
  opening_keeps_store a_old a_new b_old b_new of_a of_b store x y now there =
      store x y (of_a.leaves x now) (of_b.leaves y there)

  pub init_keeps_store : InitOpens reading images
      → ((disk : D) (bytes : List ℕ) → reading disk ≡ Some bytes → images disk bytes)
      → InitKeepsStore reading images moment images_since
  init_keeps_store opens is_image init.Done x y a_old a_new b_old b_new tx ty gives leaves same
      store u v now there =
      (empty, opens x y a_new b_new gives u v now there)
  init_keeps_store opens is_image (init.AlreadyAStore side) x y a_old a_new b_old b_new tx ty gives
      leaves same store u v now there =
      store u v (leaves.leaves u now) (same.leaves v there)
  init_keeps_store opens is_image init.DiskFault x y a_old a_new b_old b_new tx ty gives
      (inl looked) same store u v now there =
      store u v (looked.0.leaves u now) (same.leaves v there)
  init_keeps_store opens is_image init.DiskFault x y a_old a_new b_old b_new tx ty gives
      (inr makes) same store u v now there =
      let o = (store x y (is_image a_old x tx) (is_image b_old y ty)).1 in
      absurd (one_open x y o.generation o.snapshot o.entries o.opens.opens makes.a_shut
      makes.b_shut)

may_open : (result : Appended) (before after : Config) (x y : List ℕ)
    → MayOpen result before after x y → (config : Config) × OpensConfig x y config
may_open appended.Done before after x y (inl old) = (before, old)
may_open appended.Done before after x y (inr new) = (after, new)
may_open (appended.Full length) before after x y old = (before, old)
may_open appended.DiskFault before after x y (inl old) = (before, old)
may_open appended.DiskFault before after x y (inr new) = (after, new)

module _ {D : Type 0} (images : D → List ℕ → Type 0) (moment : D → ℕ)
    (images_since : D → ℕ → List ℕ → Type 0)
    (counts_now : (disk : D) (t : ℕ) (c : List ℕ) → t ≤ moment disk → images disk c
    → images_since disk t c) where
  pub appends_keep_store : AppendsKeepStore images moment images_since
  appends_keep_store a_old a_new b_old b_new result before after pairs x y of_a of_b =
      may_open result before after x y
      (pairs.each x y (counts_now a_new (moment a_old) x pairs.a_later of_a)
      (counts_now b_new (moment b_old) y pairs.b_later of_b))

  pub pieces_keep_store : PiecesKeepStore images moment images_since
  pieces_keep_store a_old a_new b_old b_new config pairs x y of_a of_b = (
    config,
    pairs.each x y (counts_now a_new (moment a_old) x pairs.a_later of_a)
        (counts_now b_new (moment b_old) y pairs.b_later of_b),
  )

pub images_make_store : ImagesMakeStore
images_make_store a b c d store of_a no_steps of_b none x y now there =
    let x_is : x ≡ c.first =
    subst (λ l. ImagesAfter c.first (λ file. file ≡ c.first) l x) no_steps now in
    let y_is : y ≡ d.first =
    subst (λ l. ImagesAfter d.first (λ file. file ≡ d.first) l y) none there in
    subst (λ (p : List ℕ × List ℕ). (config : Config) × OpensConfig p.0 p.1 config)
    (λ i. (sym x_is i, sym y_is i)) (store c.first d.first of_a of_b)
