-- Blocks that are equal in their order.
use Rattle.std.proofs.Common.{◌≡◌, ℕ, ap, ◌∙◌, sym, refl, arith}
use Rattle.std.specs.declared.cmp.Ordering.{Ordering}
use Rattle.std.specs.declared.cmp.Ordering.TheVariants.{Less, Equal, Greater}
use Rattle.std.specs.Cmp.Lexicographic.{slice_cmp}
use Rattle.std.specs.Ordering.{nat_cmp, ordering_then}
use Rattle.std.proofs.lemmas.Cmp.{ranked}
use Rattle.std.proofs.lemmas.Map.Lookups.{exact_bytes}
use Rattle.ip_table.specs.IpAddressRecord.{IpAddress}
use Rattle.ip_table.specs.IpAddressRecord.TheVariants.{V4, V6}
use Rattle.ip_table.specs.Bits.{width_of}
use Rattle.ip_table.specs.Prefixes.{Prefix}
use Rattle.cidr_blocks.specs.Laws.{OneOrder}
use Rattle.cidr_blocks.specs.Places.{octets_of}

pub both_equal : (o r : Ordering) → ordering_then o r ≡ Equal → (o ≡ Equal) × (r ≡ Equal)
both_equal Less r e = absurd (let no : ⊥ = cc in no)
both_equal Equal r e = (refl, e)
both_equal Greater r e = absurd (let no : ⊥ = cc in no)

same_number : (m n : ℕ) → nat_cmp m n ≡ Equal → m ≡ n
same_number m n e = ranked m n Equal (sym e)

same_address : (a b : IpAddress) → width_of a ≡ width_of b → octets_of a ≡ octets_of b → a ≡ b
same_address (V4 octets) (V4 others) width same = ap V4 same
same_address (V4 octets) (V6 others) width same = absurd (omega (arith, width))
same_address (V6 octets) (V4 others) width same = absurd (omega (arith, width))
same_address (V6 octets) (V6 others) width same = ap V6 same

abbrev the_prefix : IpAddress → ℕ → Prefix
the_prefix address length = record { address = address; length = length }

pub one : OneOrder
one p q e =
    let widths = both_equal (nat_cmp (width_of p.address) (width_of q.address)) _ e in
    let octets =
    both_equal (slice_cmp nat_cmp (octets_of p.address) (octets_of q.address)) _ widths.1 in
    let address : p.address ≡ q.address =
    same_address p.address q.address (same_number _ _ widths.0)
    (exact_bytes (octets_of p.address) (octets_of q.address) octets.0) in
    let length : p.length ≡ q.length = same_number p.length q.length octets.1 in
    ap (λ (a : IpAddress). the_prefix a p.length) address ∙ ap (the_prefix q.address) length
