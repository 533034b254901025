-- Closing the gate of a file.
use Rattle.std.proofs.Common.{◌≡◌, ◌≢◌, inl, inr, ℕ, List, [], ◌∷◌, length, take, drop, Option, Some, refl, sym, ◌∙◌, ap, subst, arith}
use Rattle.std.proofs.lemmas.Bool.{cases_eq}
use Rattle.r53_disk.specs.Disk.{Torn, Only, Settles, written}
use Rattle.r53_disk.specs.Synced.{WritesSynced, OldOrTorn}
use Rattle.r53_disk.specs.declared.disk.Done.{Done}
use Rattle.r53_disk.specs.declared.disk.Done.TheVariants as done
use Rattle.gate_journal.specs.Closing.{closed_file, Closes, IsWholeOrShut}

-- the gate is to be written: there is none, or it is open
abbrev pub IsToClose : List ℕ → Type 0
IsToClose [] = Unit {0}
IsToClose (gate ∷ rest) = gate ≡ 1

pub no_bytes : (bytes : List ℕ) (n : ℕ) → n ≡ length bytes → n ≡ 0 → IsToClose bytes
no_bytes [] n size zero = tt
no_bytes (gate ∷ rest) n size zero = absurd (omega (arith, size, zero))

pub first_open : (bytes : List ℕ) (gate : ℕ) → gate ∷ [] ≡ take 1 (drop 0 bytes) → gate ≡ 1
    → IsToClose bytes
first_open [] gate is open_gate = tt
first_open (first ∷ rest) gate is open_gate = let same : gate ≡ first = Prim.cc in sym same
    ∙ open_gate

pub shut : (bytes : List ℕ) → IsToClose bytes → written bytes 0 (0 ∷ []) ≡ closed_file bytes
shut [] to_close = refl
shut (gate ∷ rest) to_close = ap (λ n. closed_file (n ∷ rest)) (sym to_close)

pub closes : (r : Done) (bytes : List ℕ) (after : Option (List ℕ)) (images : List ℕ → Type 0)
    → IsToClose bytes → WritesSynced r bytes 0 (0 ∷ []) after images → Closes r bytes after images
closes done.Whole bytes after images to_close kept =
    subst (λ l. (after ≡ Some l) × Only l images) (shut bytes to_close) kept
closes done.Failed bytes after images to_close kept = kept

-- a file whose gate was torn is what it was, or it isn't open
torn_gate : (bytes c : List ℕ) → IsToClose bytes → Torn 0 1 bytes c → IsWholeOrShut bytes c
torn_gate [] c to_close torn = inr (λ o. omega (arith, o.long, torn.no_longer))
torn_gate (gate ∷ rest) [] to_close torn = inr (λ o. omega (arith, o.long))
torn_gate (gate ∷ rest) (g ∷ c) to_close torn = elim (cases_eq g 1) [
  | inl is ↦ inl (let same : g ≡ gate = is ∙ sym to_close in λ i. same i ∷ torn.after i)
  | inr isnt ↦ inr (λ o. isnt o.gate)
]

pub torn_shut : (bytes : List ℕ) (images : List ℕ → Type 0) → IsToClose bytes → Only bytes images
    → (c : List ℕ) → OldOrTorn 0 1 images c → IsWholeOrShut bytes c
torn_shut bytes images to_close only c (inl old) = inl (only c old)
torn_shut bytes images to_close only c (inr (d, was, torn)) =
    torn_gate bytes c to_close (subst (λ l. Torn 0 1 l c) (only d was) torn)

-- a gate that is closed already stays
stays : (bytes : List ℕ) (gate : ℕ) → gate ≢ 1 → gate ∷ [] ≡ take 1 (drop 0 bytes)
    → closed_file bytes ≡ bytes
stays [] gate closed is = let never : Path (List ℕ) (gate ∷ []) [] = is in absurd (Prim.cc)
stays (first ∷ rest) gate closed is =
    let same : gate ≡ first = Prim.cc in
    grind (arith, same, closed)

pub settled : (r : Done) (bytes : List ℕ) (gate : ℕ) (after : Option (List ℕ)) (old new : List ℕ
    → Type 0) → gate ≢ 1 → gate ∷ [] ≡ take 1 (drop 0 bytes) → after ≡ Some bytes
    → Settles r bytes old new
    → Closes r bytes after new
settled done.Whole bytes gate after old new closed is told settles =
    subst (λ l. (after ≡ Some l) × Only l new) (sym (stays bytes gate closed is)) (told, settles)
settled done.Failed bytes gate after old new closed is told settles = (bytes, told)
