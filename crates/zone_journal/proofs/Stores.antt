-- The making of a store.
use Rattle.std.proofs.Common.{◌≡◌, inl, inr, ⊎_elim, ℕ, ◌≤◌, List, [], ◌∷◌, ◌++◌, drop, Option, Some, refl, sym, ◌∙◌, ap, subst, arith, if◌then◌else◌, ◌==◌}
use Rattle.std.proofs.lemmas.Bool.{cases_eq}
use Rattle.file_building.specs.Disk.{Torn, Only, Rests, LeavesOnly, written}
use Rattle.file_building.proofs.Moments.{only_still}
use Rattle.zone_journal.specs.Pairs.{Unwritten}
use Rattle.file_building.specs.Synced.{OldOrTorn, WritesSynced}
use Rattle.file_building.specs.DoneRecord.{Done}
use Rattle.file_building.specs.DoneRecord.TheVariants as done
use Rattle.file_building.specs.Layout.{IsOpen, OpensTo}
use Rattle.file_building.specs.Closing.{closed_file, IsWholeOrShut}
use Rattle.file_building.specs.Building.{IsShut}
use Rattle.zone_journal.specs.Making.{empty_snapshot, empty_store, store_over, IsNoneOrEmpty, WritesEmpty, NoneOrEmptyFrom}
use Rattle.file_building.proofs.Gates.{not_open, torn_first}

abbrev pub closed_gate : List ℕ → ℕ
closed_gate [] = 0
closed_gate (gate ∷ rest) = if gate == 1 then 0 else gate

pub closed_is : (bytes : List ℕ) → closed_file bytes ≡ closed_gate bytes ∷ drop 1 bytes
closed_is [] = refl
closed_is (gate ∷ rest) = refl

is_closed_gate : (gate : ℕ) → (if gate == 1 then 0 else gate) ≡ 1 → ⊥
is_closed_gate gate is = elim (cases_eq gate 1) [
  | inl same ↦ grind (arith, is, same)
  | inr other ↦ grind (arith, is, other)
]

pub closed_shut : (bytes : List ℕ) → IsShut (closed_file bytes)
closed_shut [] = record { gate = 0; rest = []; is = refl; closed = λ never. omega (arith, never) }
closed_shut (gate ∷ rest) =
    record {
      gate = if gate == 1 then 0 else gate;
      rest = rest;
      is = refl;
      closed =
          is_closed_gate gate;
    }

pub staged : (bytes : List ℕ)
    → written (closed_file bytes) 1 empty_store ≡ closed_gate bytes ∷ (empty_store ++ drop 34 bytes)
staged [] = refl
staged (gate ∷ rest) = refl

pub staged_shut : (bytes : List ℕ) → IsShut (written (closed_file bytes) 1 empty_store)
staged_shut bytes =
    record {
      gate = closed_gate bytes;
      rest = empty_store ++ drop 34 bytes;
      is =
          staged bytes;
      closed = closed bytes;
    }
  where
    closed : (bytes : List ℕ) → closed_gate bytes ≡ 1 → ⊥
    closed [] is = omega (arith, is)
    closed (gate ∷ rest) is = is_closed_gate gate is

pub made : (bytes : List ℕ)
    → written (written (closed_file bytes) 1 empty_store) 0 (1 ∷ []) ≡ store_over bytes
made bytes = ap (λ l. written l 0 (1 ∷ [])) (staged bytes)

pub opens_empty : (bytes : List ℕ) → OpensTo (store_over bytes) 1 empty_snapshot []
opens_empty bytes =
    record {
      gate = 0;
      rest = drop 34 bytes;
      is = refl;
      closed =
          λ never. omega (arith, never);
      generation_fits = omega arith;
      snapshot_fits =
          omega arith;
      entries_fit = tt;
    }

pub none : (c : List ℕ) → IsShut c → IsNoneOrEmpty c
none c shut = inl (not_open c shut)

pub whole_or_shut : (bytes c : List ℕ) → (IsOpen bytes → ⊥) → IsWholeOrShut bytes c
    → IsNoneOrEmpty c
whole_or_shut bytes c shut (inl same) = inl (subst (λ l. IsOpen l → ⊥) (sym same) shut)
whole_or_shut bytes c shut (inr closed) = inl closed

-- while the gate is opened
pub opening : (bytes : List ℕ) (images : List ℕ → Type 0)
    → Only (written (closed_file bytes) 1 empty_store) images → (c : List ℕ)
    → OldOrTorn 0 1 images c → IsNoneOrEmpty c
opening bytes images only c (inl old) = none c (subst IsShut (sym (only c old)) (staged_shut bytes))
opening bytes images only c (inr (d, was, torn)) =
    let first =
    torn_first (closed_gate bytes) (empty_store
    ++ drop 34 bytes) c (subst (λ l. Torn 0 1 l c) (only d was ∙ staged bytes) torn) in
    elim (cases_eq first.0 1) [
      | inl is ↦
          inr (subst (λ l. OpensTo l 1 empty_snapshot [])
          (sym (first.1 ∙ ap (λ n. n ∷ (empty_store ++ drop 34 bytes)) is)) (opens_empty bytes))
      | inr isnt ↦
          none c (record {
            gate = first.0;
            rest = empty_store ++ drop 34 bytes;
            is =
                first.1;
            closed = isnt;
          })
    ]

pub makes : (r : Done) (bytes : List ℕ) (after : Option (List ℕ)) (images : List ℕ → Type 0)
    → WritesSynced r (written (closed_file bytes) 1 empty_store) 0 (1 ∷ []) after images
    → WritesEmpty r bytes after images
makes done.Whole bytes after images kept =
    subst (λ l. (after ≡ Some l) × Only l images) (made bytes) kept
makes done.Failed bytes after images kept = kept

module _ {D : Type 0} (reading : D → Option (List ℕ)) (images : D → List ℕ → Type 0) (moment : D
    → ℕ) (images_since : D → ℕ → List ℕ → Type 0) (only_now : (d : D) (c : List ℕ)
    → images_since d (moment d) c → images d c) where
  pub made_from : (a_old a_synced a_seen a_new b_old b_synced b_seen : D) (x y : List ℕ)
      → Unwritten reading images moment images_since a_old a_synced
      → Rests reading images moment images_since a_synced a_seen
      → Unwritten reading images moment images_since b_old b_synced
      → Rests reading images moment images_since b_synced b_seen
      → Only y (images b_synced) → (IsOpen x → ⊥) → (IsOpen y → ⊥)
      → LeavesOnly moment images_since a_seen a_new IsNoneOrEmpty
      → ((now : List ℕ) × (reading a_new ≡ Some now))
      → NoneOrEmptyFrom reading images moment images_since x y a_old a_new b_old b_seen
  made_from a_old a_synced a_seen a_new b_old b_synced b_seen x y a_same a_rests b_same b_rests only
      a_shut b_shut run told = record {
        a_shut = a_shut;
        b_shut = b_shut;
        b_synced = only_still b_rests only;
        t = moment a_seen;
        u = moment b_seen;
        a_later = a_later;
        b_later = omega (arith, b_same.later, b_rests.at_moment);
        a_now = run.later;
        b_now = omega arith;
        told = told;
        before = λ c left.
            ⊎_elim (λ was.
            inl (only_now a_old c
            (a_same.before (moment a_old) c (omega arith)
            ((a_rests.since (moment a_old) c).0 was))))
            inr (run.before (moment a_old) c a_later left);
        pairs = λ c d of_a of_b. (
          run.each c of_a,
          λ o. b_shut (subst IsOpen (only_still b_rests only d (only_now b_seen d of_b)) o),
        );
      }
    where
      a_later : moment a_old ≤ moment a_seen
      a_later = omega (arith, a_same.later, a_rests.at_moment)

pub makes_told : (r : Done) (bytes : List ℕ) (after : Option (List ℕ)) (images : List ℕ → Type 0)
    → WritesEmpty r bytes after images
    → (now : List ℕ) × (after ≡ Some now)
makes_told done.Whole bytes after images made = (store_over bytes, made.0)
makes_told done.Failed bytes after images made = made
