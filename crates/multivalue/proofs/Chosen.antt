-- What is picked is what is chosen.
use Rattle.std.proofs.Common.{◌≡◌, ◌<◌, ◌≤◌, ◌%◌, ℕ, Bool, List, length, take, arith, sym, ap, ◌∙◌, append-nil, if◌then◌else◌}
use Rattle.std.proofs.lemmas.Bool.{le-leb, lt-leb}
use Rattle.std.proofs.lemmas.List.{take_all}
use Rattle.considered_sets.specs.Considered.{places}
use Rattle.multivalue.specs.Choice.{cyclic_from, chosen}

module _ (hs : List Bool) (word : ℕ) where
  -- eight from the word's place on
  abbrev pub eight_from : List ℕ
  eight_from = take 8 (cyclic_from (word % length (places hs)) (places hs))

  pub few : length (places hs) ≤ 8 → chosen hs word ≡ places hs
  few le = ap (λ b. if b then places hs else eight_from) (le-leb (length (places hs)) 8 le)

  pub many : 8 < length (places hs) → chosen hs word ≡ eight_from
  many lt = ap (λ b. if b then places hs else eight_from) (lt-leb (length (places hs)) 8 lt)

module _ (hs : List Bool) (xs : List ℕ) (word : ℕ) (is : xs ≡ places hs) where
  -- all of at most eight
  pub chosen_few : length xs ≤ 8 → take 8 (cyclic_from 0 xs) ≡ chosen hs word
  chosen_few le = ap (take 8) (append-nil xs)
      ∙ (take_all 8 xs le ∙ (is ∙ sym (few hs word (omega (arith, ap length is)))))

  -- eight of more
  pub chosen_many : (count : ℕ) → count ≡ length xs → 8 < count
      → take 8 (cyclic_from (word % count) xs) ≡ chosen hs word
  chosen_many count long lt =
      let e : word % count ≡ word % length (places hs) = ap (λ n. word % n) (long ∙ ap length is) in
      ap (λ n. take 8 (cyclic_from n xs)) e
      ∙ (ap (λ l. take 8 (cyclic_from (word % length (places hs)) l)) is
      ∙ sym (many hs word (omega (arith, ap length is))))
