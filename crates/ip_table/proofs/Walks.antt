-- Walks in the tree of one family.
use Rattle.std.proofs.Common.{◌≡◌, ℕ, ◌+◌, ◌*◌, ◌<◌, ◌≤◌, List, length, sym, ap, ◌∙◌, subst, arith, zero, suc}
use Rattle.address_text.specs.declared.address.IpAddress.{IpAddress}
use Rattle.address_text.specs.declared.address.IpAddress.TheVariants.{V4, V6}
use Rattle.ip_table.specs.declared.tree.Fork.{Fork}
use Rattle.ip_table.specs.Bits.{width_of, first_bits}
use Rattle.ip_table.specs.Prefixes.{Prefix}
use Rattle.ip_table.specs.Trees.{prefix_at, fork_at, here, child, bit_behind, Leads, IsTree, StandsBelow, AllPrefixes}
use Rattle.ip_table.proofs.FirstBits.{halves, fewer}

pub width_low : (a : IpAddress) → width_of a ≤ 128
width_low (V4 octets) = omega arith
width_low (V6 octets) = omega arith

-- a step more at the end
pub one_further : (forks : List Fork) (k above at bit : ℕ) → Leads forks k above at → bit < 2
    → 0 < child (fork_at forks at) bit
    → Leads forks (suc k) above (child (fork_at forks at) bit)
one_further forks zero above at bit l low some = (
  bit,
  low,
  subst (λ i. 0 < child (fork_at forks i) bit) (sym l) some,
  ap (λ i. child (fork_at forks i) bit) l,
)
one_further forks (suc k) above at bit l low some =
    (l.0, l.1, l.2, one_further forks k (child (fork_at forks above) l.0) at bit l.3 low some)

-- a fork that stands at another or below it
pub record Below (prefixes : List Prefix) (forks : List Fork) (above at : ℕ) : Type 0 where
  pub within : at < length forks
  pub deep : (fork_at forks above).depth ≤ (fork_at forks at).depth
  pub bits : first_bits (fork_at forks above).depth (here prefixes forks at).address
      ≡ first_bits (fork_at forks above).depth (here prefixes forks above).address

-- where a row stands that stands at a fork or below it
pub data Ways (prefixes : List Prefix) (forks : List Fork) (above row : ℕ) : Type 0 where
  Here : (fork_at forks above).row ≡ row → Ways prefixes forks above row
  On : 0 < child (fork_at forks above)
      (bit_behind (fork_at forks above).depth (prefix_at prefixes row).address)
      → StandsBelow forks
      (child (fork_at forks above)
      (bit_behind (fork_at forks above).depth (prefix_at prefixes row).address)) row
      → Ways prefixes forks above row

module _ (prefixes : List Prefix) (forks : List Fork) (width : ℕ) (all : AllPrefixes prefixes)
    (tree : IsTree prefixes forks width) where
  -- a fork is no deeper than its row is long
  pub shallow : (at : ℕ) → at < length forks → (fork_at forks at).depth ≤ 128
  shallow at h =
      let fork = tree.each at h in
      let prefix = all (fork_at forks at).row fork.row in
      omega (arith, fork.depth, prefix.within, width_low (here prefixes forks at).address)

  -- in a tree of IPv4 no row is longer than 32 bits, and no fork is deeper
  pub narrow : (at : ℕ) → at < length forks → width ≡ 32
      → ((here prefixes forks at).length ≤ 32) × ((fork_at forks at).depth ≤ 32)
  narrow at h is =
      let fork = tree.each at h in
      let prefix = all (fork_at forks at).row fork.row in (
        omega (arith, prefix.within, fork.family, is),
        omega (arith, fork.depth, prefix.within, fork.family, is),
      )

  -- the bits of a fork below, by which its way begins
  pub turn : (above bit at : ℕ) → above < length forks → bit < 2
      → 0 < child (fork_at forks above) bit
      → Below prefixes forks (child (fork_at forks above) bit) at
      → first_bits ((fork_at forks above).depth + 1) (here prefixes forks at).address
      ≡ 2 * first_bits (fork_at forks above).depth (here prefixes forks above).address + bit
  turn above bit at h low some b =
      let kid = (tree.each above h).children bit low some in
      fewer ((fork_at forks above).depth + 1)
      (fork_at forks (child (fork_at forks above) bit)).depth _ _ (omega (arith, kid.deeper))
      b.bits
      ∙ kid.bits

  pub below : (k above at : ℕ) → above < length forks → Leads forks k above at
      → Below prefixes forks above at
  below zero above at h l = record {
    within = subst (λ i. i < length forks) l h;
    deep = omega (arith, ap (λ i. (fork_at forks i).depth) l);
    bits = ap (λ i. first_bits (fork_at forks above).depth (here prefixes forks i).address) (sym l);
  }
  below (suc k) above at h l =
      let kid = (tree.each above h).children l.0 l.1 l.2 in
      let rest = below k (child (fork_at forks above) l.0) at kid.within l.3 in
      let low : (fork_at forks above).depth < 128 =
      omega (arith, kid.deeper, shallow _ kid.within) in
      record {
        within = rest.within;
        deep = omega (arith, kid.deeper, rest.deep);
        bits = omega (
          arith,
          halves (fork_at forks above).depth (here prefixes forks at).address low,
          turn above l.0 at h l.1 l.2 rest,
          l.1,
        );
      }

  -- a row below a fork has its bits, and is no shorter
  pub row_bits : (above row : ℕ) → above < length forks → StandsBelow forks above row
      → ((fork_at forks above).depth ≤ (prefix_at prefixes row).length)
      × (first_bits (fork_at forks above).depth (prefix_at prefixes row).address
      ≡ first_bits (fork_at forks above).depth (here prefixes forks above).address)
  row_bits above row h s =
      let b = below s.steps above s.at h s.leads in (
        omega (
          arith,
          b.deep,
          (tree.each s.at b.within).depth,
          ap (λ r. (prefix_at prefixes r).length) s.is,
        ),
        ap (λ r. first_bits (fork_at forks above).depth (prefix_at prefixes r).address) (sym s.is)
            ∙ b.bits,
      )

  stood : (k above at row : ℕ) → above < length forks → at < length forks → Leads forks k above at
      → (fork_at forks at).row ≡ row
      → Ways prefixes forks above row
  stood zero above at row h w l is = Here (ap (λ i. (fork_at forks i).row) l ∙ is)
  stood (suc k) above at row h w l is =
      let kid = (tree.each above h).children l.0 l.1 l.2 in
      let rest = below k (child (fork_at forks above) l.0) at kid.within l.3 in
      let d = (fork_at forks above).depth in
      let bits : first_bits (d + 1) (prefix_at prefixes row).address
      ≡ 2 * first_bits d (here prefixes forks above).address + l.0 =
      ap (λ r. first_bits (d + 1) (prefix_at prefixes r).address) (sym is)
      ∙ turn above l.0 at h l.1 l.2 rest in
      let same : l.0 ≡ bit_behind d (prefix_at prefixes row).address = omega (arith, bits, l.1) in
      On (subst (λ b. 0 < child (fork_at forks above) b) same l.2)
      (subst (λ b. StandsBelow forks (child (fork_at forks above) b) row) same record {
        steps = k;
        at =
            at;
        within = w;
        leads = l.3;
        is = is;
      })

  pub ways : (above row : ℕ) → above < length forks → StandsBelow forks above row
      → Ways prefixes forks above row
  ways above row h s = stood s.steps above s.at row h s.within s.leads s.is
