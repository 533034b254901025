-- What has been seen of the rows, with one more row or with more bits that are not shared.
use Rattle.std.proofs.Common.{◌≡◌, ℕ, ◌+◌, ◌<◌, ◌≤◌, List, length, max, ◌↔◌, sym, ◌∙◌, subst, inl, inr, arith}
use Rattle.std.proofs.lemmas.Bool.{cases_lt}
use Rattle.address_text.specs.declared.address.IpAddress.{IpAddress}
use Rattle.ip_table.specs.declared.tree.Walked.{Walked}
use Rattle.ip_table.specs.Bits.{width_of, first_bits, SharesFirst}
use Rattle.ip_table.specs.Prefixes.{Prefix, Covers}
use Rattle.ip_table.specs.Trees.{prefix_at, IsTrueOf, IsDone, HasLength}
use Rattle.ip_table.proofs.FirstBits.{shares_fewer}

module _ (prefixes : List Prefix) (a : IpAddress) (old new : Walked) where
  -- more bits are not shared
  pub done_past : old.past ≤ new.past → new.found ≡ old.found → (r : ℕ) → IsDone prefixes a old r
      → IsDone prefixes a new r
  done_past more same r d = record {
    covers = λ c. subst (λ f. HasLength prefixes f (prefix_at prefixes r).length) (sym same)
        (d.covers c);
    apart = λ n s. d.apart n (shares_fewer old.past new.past _ a more s);
  }

  -- a row that doesn't contain the address shares all fewer bits
  pub sound_past : (past row : ℕ) → row < length prefixes → (¬ Covers (prefix_at prefixes row) a)
      → ((n : ℕ) → n < past → SharesFirst n (prefix_at prefixes row).address a)
      → new.found ≡ old.found → new.long ≡ old.long → new.past ≡ max old.past past
      → IsTrueOf prefixes a old → IsTrueOf prefixes a new
  sound_past past row h not shares same long most s = record {
    found = λ r e. let b = s.found r (sym same ∙ e) in (b.0, b.1, long ∙ b.2);
    below = λ n h'. elim (cases_lt n old.past) [
      | inl before ↦ s.below n before
      | inr now ↦ (row, h, not, shares n (omega arith))
    ];
  }

  -- a row that is longer than what it shares with the address
  pub sound_row : (row shared : ℕ) → row < length prefixes
      → width_of (prefix_at prefixes row).address ≡ width_of a
      → ((n : ℕ) → n ≤ (prefix_at prefixes row).length
      → (n ≤ shared ↔ (first_bits n (prefix_at prefixes row).address ≡ first_bits n a)))
      → shared < (prefix_at prefixes row).length
      → new.found ≡ old.found → new.long ≡ old.long → new.past ≡ max old.past (shared + 1)
      → IsTrueOf prefixes a old → IsTrueOf prefixes a new
  sound_row row shared h family same short found long past s =
      sound_past (shared + 1) row h
      (λ c. absurd (omega (arith, (same (prefix_at prefixes row).length (omega arith)).1 c.bits)))
      (λ n less. record { family = family; bits = (same n (omega arith)).0 (omega arith) })
      found long past s

  pub done_row : (row shared : ℕ)
      → ((n : ℕ) → n ≤ (prefix_at prefixes row).length
      → (n ≤ shared ↔ (first_bits n (prefix_at prefixes row).address ≡ first_bits n a)))
      → shared < (prefix_at prefixes row).length → new.past ≡ max old.past (shared + 1)
      → IsDone prefixes a new row
  done_row row shared same short past = record {
    covers = λ c.
        absurd (omega (arith, (same (prefix_at prefixes row).length (omega arith)).1 c.bits));
    apart = λ n s. omega (
      arith,
      (same (shared + 1) (omega arith)).1
          (shares_fewer (shared + 1) new.past _ a (omega (arith, past)) s).bits,
    );
  }
