-- What calls leave of two files, told as configurations.
use Rattle.std.proofs.Common.{inl, inr, ⊎_elim, ℕ, ◌+◌, List, [], ◌∷◌, ◌++◌, Option}
use Rattle.config_model.specs.Configs.{Config}
use Rattle.gate_journal.specs.declared.answers.Appended.{Appended}
use Rattle.gate_journal.specs.declared.answers.Appended.TheVariants as appended
use Rattle.store_model.proofs.Taken.{makes_more}
use Rattle.store_model.specs.Laws.{AppendsMayOpen, AppendsOpen, PiecesMayOpen, PiecesOpen}
use Rattle.store_model.specs.Leaving.{AppendOpens, MayOpen, PieceOpens}
use Rattle.store_model.specs.Opening.{MakesConfig, OpensAs, OpensConfig, AcceptsEntry}
use Rattle.zone_journal.specs.Appending.{AppendLeaves, MayLeave}
use Rattle.zone_journal.specs.Building.{Plan}
use Rattle.zone_journal.specs.Compacting.{IsOldOrNew, PieceLeaves}
use Rattle.zone_journal.specs.Pairs.{EachPair, BothRead, OpensPair}
use Rattle.zone_journal.specs.Standing.{State}
use Rattle.zone_journal.specs.declared.answers.Piece.{Piece}
use Rattle.zone_journal.specs.declared.answers.Piece.TheVariants as piece

-- ---- weaker words

module _ {D : Type 0} (P Q : List ℕ → List ℕ → Type 0)
    (gives : (x y : List ℕ) → P x y → Q x y) where
  -- what each pair of images has
  pub each_pair_weakens : (moment : D → ℕ) (images_since : D → ℕ → List ℕ → Type 0)
      (a_old a_new b_old b_new : D) → EachPair moment images_since a_old a_new b_old b_new P
      → EachPair moment images_since a_old a_new b_old b_new Q
  each_pair_weakens moment images_since a_old a_new b_old b_new pairs = record {
    a_later = pairs.a_later;
    b_later = pairs.b_later;
    each = λ x y of_a of_b. gives x y (pairs.each x y of_a of_b);
    from_a = λ t x y le of_a of_b. ⊎_elim inl (λ p. inr (gives x y p))
        (pairs.from_a t x y le of_a of_b);
    from_b = λ t x y le of_a of_b. ⊎_elim inl (λ p. inr (gives x y p))
        (pairs.from_b t x y le of_a of_b);
  }

  -- what is read
  pub leaves_weaken : (reading : D → Option (List ℕ)) (a b : D) → BothRead reading a b P
      → BothRead reading a b Q
  leaves_weaken reading a b leaves = record {
    x = leaves.x;
    y = leaves.y;
    a_reads = leaves.a_reads;
    b_reads = leaves.b_reads;
    has = gives leaves.x leaves.y leaves.has;
  }

-- ---- configurations

opens_as : (x y : List ℕ) (g : ℕ) (s : List ℕ) (es : List (List ℕ)) (config : Config)
    → MakesConfig s es config → OpensPair x y g s es → OpensAs x y g s es config
opens_as x y g s es config makes opens = record { opens = opens; makes = makes }

opens_so : (x y : List ℕ) (g : ℕ) (s : List ℕ) (es : List (List ℕ)) (config : Config)
    → MakesConfig s es config → OpensPair x y g s es → OpensConfig x y config
opens_so x y g s es config makes opens = record {
  generation = g;
  snapshot = s;
  entries = es;
  opens = opens_as x y g s es config makes opens;
}

module _ (g : ℕ) (s : List ℕ) (es : List (List ℕ)) (entry : List ℕ) (before after : Config)
    (makes : MakesConfig s es before) (taken : AcceptsEntry before entry after) where
  more : MakesConfig s (es ++ entry ∷ []) after
  more = makes_more s es before after entry makes taken

  pub may_open : (result : Appended) (x y : List ℕ) → MayLeave result g s es entry x y
      → MayOpen result before after x y
  may_open appended.Done x y (inl old) = inl (opens_so x y g s es before makes old)
  may_open appended.Done x y (inr new) = inr (opens_so x y g s (es ++ entry ∷ []) after more new)
  may_open (appended.Full length) x y old = opens_so x y g s es before makes old
  may_open appended.DiskFault x y (inl old) = inl (opens_so x y g s es before makes old)
  may_open appended.DiskFault x y (inr new) =
      inr (opens_so x y g s (es ++ entry ∷ []) after more new)

  pub append_opens : (result : Appended) (x y : List ℕ) → AppendLeaves result g s es entry x y
      → AppendOpens result g s es entry before after x y
  append_opens appended.Done x y new = opens_as x y g s (es ++ entry ∷ []) after more new
  append_opens (appended.Full length) x y old = opens_as x y g s es before makes old
  append_opens appended.DiskFault x y (inl old) = inl (opens_as x y g s es before makes old)
  append_opens appended.DiskFault x y (inr new) =
      inr (opens_as x y g s (es ++ entry ∷ []) after more new)

module _ (state : State) (plan : Plan) (g : ℕ) (s : List ℕ) (es since : List (List ℕ))
    (config : Config) (old : MakesConfig s (es ++ since) config)
    (new : MakesConfig plan.snapshot since config) where
  pub piece_may_open : (x y : List ℕ) → IsOldOrNew state plan g s es since x y
      → OpensConfig x y config
  piece_may_open x y (inl before) = opens_so x y g s (es ++ since) config old before
  piece_may_open x y (inr (last, after)) =
      opens_so x y (g + 1) plan.snapshot since config new after

  pub piece_opens : (result : Piece) (x y : List ℕ) → PieceLeaves result state plan g s es since x y
      → PieceOpens result plan.snapshot g s es since config x y
  piece_opens (piece.Running left) x y before =
      opens_as x y g s (es ++ since) config old before
  piece_opens (piece.Done generation) x y after =
      opens_as x y (g + 1) plan.snapshot since config new after
  piece_opens piece.DiskFault x y either = piece_may_open x y either

module _ {D : Type 0} where
  pub appends_may_open : (moment : D → ℕ) (images_since : D → ℕ → List ℕ → Type 0)
      → AppendsMayOpen moment images_since
  appends_may_open moment images_since a_old a_new b_old b_new result g s es entry before after
      makes taken pairs =
      each_pair_weakens (MayLeave result g s es entry) (MayOpen result before after)
      (may_open g s es entry before after makes taken result)
      moment images_since a_old a_new b_old b_new pairs

  pub appends_open : (reading : D → Option (List ℕ)) → AppendsOpen reading
  appends_open reading a b result g s es entry before after makes taken leaves =
      leaves_weaken (AppendLeaves result g s es entry)
      (AppendOpens result g s es entry before after)
      (append_opens g s es entry before after makes taken result) reading a b leaves

  pub pieces_may_open : (moment : D → ℕ) (images_since : D → ℕ → List ℕ → Type 0)
      → PiecesMayOpen moment images_since
  pieces_may_open moment images_since a_old a_new b_old b_new state plan g s es since config old
      new pairs =
      each_pair_weakens (IsOldOrNew state plan g s es since) (λ x y. OpensConfig x y config)
      (piece_may_open state plan g s es since config old new)
      moment images_since a_old a_new b_old b_new pairs

  pub pieces_open : (reading : D → Option (List ℕ)) → PiecesOpen reading
  pieces_open reading a b result state plan g s es since config old new leaves =
      leaves_weaken (PieceLeaves result state plan g s es since)
      (PieceOpens result plan.snapshot g s es since config)
      (piece_opens state plan g s es since config old new result) reading a b leaves
