-- Open files, and files whose gate is closed.
use Rattle.std.proofs.Common.{◌≡◌, ◌⊎◌, inl, inr, ℕ, zero, suc, ◌+◌, ◌≤◌, List, [], ◌∷◌, ◌++◌, length, take, drop, slice_index, Option, Some, sym, ◌∙◌, ap, subst, arith, append_assoc, length-append}
use Rattle.byteorder.specs.Endian.{big_bytes, big_from}
use Rattle.byteorder.specs.Numbers.{big_number-reads_back, length-bytes_high_first}
use Rattle.std.proofs.lemmas.Bool.{cases_eq}
use Rattle.gate_journal.specs.Disk.{Torn, Unsettles, WriteLeaves, Only, written}
use Rattle.gate_journal.specs.DoneRecord.{Done}
use Rattle.gate_journal.specs.DoneRecord.TheVariants as done
use Rattle.gate_journal.specs.Synced.{WritesSynced, OldOrTorn}
use Rattle.gate_journal.specs.Layout.{body, opened, inner, front, IsOpen, OpensTo, generation_of}
use Rattle.gate_journal.proofs.Opening.{length-body}
use Rattle.file_building.specs.Building.{IsShut}

module _ (file : List ℕ) (g : ℕ) (s : List ℕ) (es : List (List ℕ)) (o : OpensTo file g s es) where
  long : 20 ≤ length file
  long = omega (
    arith,
    ap length o.is,
    length-append (front g s es) (o.gate ∷ o.rest),
    length-append (inner g s) (opened es),
    length-append (big_bytes 8 g) (body s),
    length-body s,
    length-bytes_high_first 8 g,
  )

  pub is_open : IsOpen file
  is_open =
      record {
        long = long;
        gate = ap (λ l. slice_index l 0) o.is;
        named =
            ap (λ (l : List ℕ). take 7 (drop 1 l)) o.is;
      }

  pub has_generation : generation_of file ≡ g
  has_generation =
      ap generation_of o.is
      ∙ ap (big_from 0 8) (append_assoc (big_bytes 8 g ++ body s) (opened es) (o.gate ∷ o.rest)
      ∙ append_assoc (big_bytes 8 g) (body s) (opened es ++ o.gate ∷ o.rest))
      ∙ big_number-reads_back 8 g (body s ++ (opened es ++ o.gate ∷ o.rest)) o.generation_fits

-- a file with a closed gate isn't open
pub not_open : (c : List ℕ) → IsShut c → IsOpen c → ⊥
not_open c shut o = shut.closed (sym (ap (λ l. slice_index l 0) shut.is) ∙ o.gate)

-- a write behind the gate leaves it closed, whatever a crash makes of it
pub torn_shut : (at n : ℕ) (d c : List ℕ) → 1 ≤ at → IsShut d → Torn at n d c → IsShut c
torn_shut zero n d c behind shut torn = absurd (omega (arith, behind))
torn_shut (suc k) n d [] behind shut torn =
    let never : Path (List ℕ) [] (shut.gate ∷ take k shut.rest) = torn.before
    ∙ ap (take (suc k)) shut.is in absurd (Prim.cc)
torn_shut (suc k) n d (x ∷ c) behind shut torn =
    let both : Path (List ℕ) (x ∷ take k c) (shut.gate ∷ take k shut.rest) = torn.before
    ∙ ap (take (suc k)) shut.is in
    let same : x ≡ shut.gate = Prim.cc in
    record { gate = shut.gate; rest = c; is = λ i. same i ∷ c; closed = shut.closed }

pub all_shut : (at n : ℕ) (images : List ℕ → Type 0) → 1 ≤ at → ((c : List ℕ) → images c → IsShut c)
    → (c : List ℕ) → OldOrTorn at n images c → IsShut c
all_shut at n images behind shut c (inl old) = shut c old
all_shut at n images behind shut c (inr (d, was, torn)) =
    torn_shut at n d c behind (shut d was) torn

pub only_shut : (file : List ℕ) (images : List ℕ → Type 0) → Only file images → IsShut file
    → (c : List ℕ) → images c → IsShut c
only_shut file images only shut c now = subst IsShut (sym (only c now)) shut

-- what a write of the gate leaves
pub torn_first : (gate : ℕ) (rest c : List ℕ) → Torn 0 1 (gate ∷ rest) c → (g : ℕ) × (c ≡ g ∷ rest)
torn_first gate rest [] torn = absurd (omega (arith, torn.no_shorter))
torn_first gate rest (g ∷ c) torn = (g, λ i. g ∷ torn.after i)

pub frees_shut : (r : Done) (at n : ℕ) (old new : List ℕ → Type 0) → 1 ≤ at
    → ((c : List ℕ) → old c → IsShut c) → Unsettles r at n old new → (c : List ℕ) → new c → IsShut c
frees_shut done.Whole at n old new behind shut frees c now = let torn = (frees c).0 now in
    torn_shut at n torn.0 c behind (shut torn.0 torn.1) torn.2
frees_shut done.Failed at n old new behind shut (inl frees) c now = let torn = (frees c).0 now in
    torn_shut at n torn.0 c behind (shut torn.0 torn.1) torn.2
frees_shut done.Failed at n old new behind shut (inr same) c now = shut c ((same c).0 now)

pub written_shut : (file : List ℕ) (at : ℕ) (from : List ℕ) → 1 ≤ at → IsShut file
    → IsShut (written file at from)
written_shut file zero from behind shut = absurd (omega (arith, behind))
written_shut file (suc k) from behind shut = record {
  gate = shut.gate;
  rest = take k shut.rest ++ (from ++ drop (suc k + length from) file);
  is = ap (λ (l : List ℕ). take (suc k) l ++ (from ++ drop (suc k + length from) file)) shut.is;
  closed = shut.closed;
}

-- while the gate of a shut file is opened
pub opening : (file : List ℕ) (images : List ℕ → Type 0) → Only file images → IsShut file
    → (c : List ℕ) → OldOrTorn 0 1 images c → IsShut c ⊎ (c ≡ 1 ∷ drop 1 file)
opening file images only shut c (inl old) = inl (only_shut file images only shut c old)
opening file images only shut c (inr (d, was, torn)) =
    let first =
    torn_first shut.gate shut.rest c (subst (λ l. Torn 0 1 l c) (only d was ∙ shut.is) torn) in
    let rest : shut.rest ≡ drop 1 file = sym (ap (drop 1) shut.is) in
    elim (cases_eq first.0 1) [
      | inl is ↦ inr (first.1 ∙ (λ i. is i ∷ rest i))
      | inr isnt ↦ inl (record { gate = first.0; rest = shut.rest; is = first.1; closed = isnt })
    ]

pub write_told : (r : Done) (bytes : List ℕ) (at : ℕ) (from : List ℕ) (after : Option (List ℕ))
    → WriteLeaves r bytes at from after → (now : List ℕ) × (after ≡ Some now)
write_told done.Whole bytes at from after leaves = (_, leaves)
write_told done.Failed bytes at from after leaves = leaves

pub keeps_told : (r : Done) (bytes : List ℕ) (at : ℕ) (from : List ℕ) (after : Option (List ℕ))
    (images : List ℕ → Type 0) → WritesSynced r bytes at from after images
    → (now : List ℕ) × (after ≡ Some now)
keeps_told done.Whole bytes at from after images kept = (_, kept.0)
keeps_told done.Failed bytes at from after images kept = kept
