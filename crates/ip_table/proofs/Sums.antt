-- What a whole walk sums up.
use Rattle.std.proofs.Common.{◌≡◌, ℕ, ◌<◌, ◌≤◌, ◌⊎◌, List, length, None, inl, inr, arith}
use Rattle.std.proofs.lemmas.Bool.{cases_eq, cases_lt}
use Rattle.address_text.specs.declared.address.IpAddress.{IpAddress}
use Rattle.ip_table.specs.declared.tree.Fork.{Fork}
use Rattle.ip_table.specs.declared.tree.Walked.{Walked}
use Rattle.ip_table.specs.Bits.{width_of}
use Rattle.ip_table.specs.Prefixes.{Prefix}
use Rattle.ip_table.specs.Trees.{prefix_at, StandsBelow, AllStand, AllPrefixes, IsTrueOf, IsDone, SumsUp}
use Rattle.ip_table.proofs.FirstBits.{shares_fewer}
use Rattle.ip_table.proofs.Walks.{width_low}

-- a row that doesn't contain the address shares fewer than 128 bits with it
pub low : (prefixes : List Prefix) (a : IpAddress) (walked : Walked) → AllPrefixes prefixes
    → IsTrueOf prefixes a walked → walked.past ≤ 128
low prefixes a walked all sound = elim (cases_lt 128 walked.past) [
  | inr few ↦ few
  | inl many ↦
      let b = sound.below 128 many in
      let own = prefix_at prefixes b.0 in
      absurd (b.2 (shares_fewer own.length 128 own.address a
      (omega (arith, (all b.0 b.1).within, width_low own.address)) b.3))
]

-- before the first step nothing was seen
pub sound_nothing : (prefixes : List Prefix) (a : IpAddress)
    → IsTrueOf prefixes a record { found = None; long = 0; past = 0 }
sound_nothing prefixes a =
    record { found = λ row e. absurd (cc); below = λ n h. absurd (omega arith) }

-- in an empty tree no row of the family stands
pub empty : (prefixes : List Prefix) (forks : List Fork) (a : IpAddress) → length forks ≡ 0
    → AllStand prefixes forks (width_of a) (length prefixes)
    → SumsUp prefixes a record { found = None; long = 0; past = 0 }
empty prefixes forks a none all =
    let nowhere : (row : ℕ) → row < length prefixes
    → width_of (prefix_at prefixes row).address ≡ width_of a → ⊥ = λ row h family.
    absurd (omega (arith, none, (all row h family (λ e. absurd (omega arith))).within)) in
    record {
      sound = sound_nothing prefixes a;
      each = λ row h. record {
        covers = λ c. absurd (nowhere row h c.family);
        apart =
            λ n s. nowhere row h s.family;
      };
    }

-- at the end of the way no row is ahead
pub finish : (prefixes : List Prefix) (forks : List Fork) (a : IpAddress) (next : ℕ) (walked : Walked)
    → next ≡ 0 → IsTrueOf prefixes a walked
    → ((row : ℕ) → row < length prefixes → width_of (prefix_at prefixes row).address ≡ width_of a
    → ((0 < next) × StandsBelow forks next row) ⊎ IsDone prefixes a walked row)
    → SumsUp prefixes a walked
finish prefixes forks a next walked none sound each = record {
  sound = sound;
  each = λ row h. elim (cases_eq (width_of (prefix_at prefixes row).address) (width_of a)) [
    | inl family ↦ elim (each row h family) [
      | inl ahead ↦ absurd (omega (arith, ahead.0))
      | inr done ↦ done
    ]
    | inr other ↦ record { covers = λ c. absurd (other c.family); apart = λ n s. other s.family }
  ];
}
