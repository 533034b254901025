-- The order of blocks is total.
use Rattle.std.specs.Prelude.{Some, refl}
use Rattle.std.specs.Ordering.{eq_by_cmp}
use Rattle.std.specs.Cmp.{IsTotalOrder, IsEquivalence, IsPartialEquivalence, IsPartialOrder}
use Rattle.std.specs.Cmp.{nat_cmp_total, on_total, then_total, eq_by_cmp_equiv}
use Rattle.std.specs.Cmp.{partial_equiv_from_equiv, partial_order_from_agreeing_total}
use Rattle.std.specs.Cmp.Lexicographic.{on_texts}
use Rattle.ip_table.specs.Bits.{width_of}
use Rattle.ip_table.specs.Prefixes.{Prefix}
use Rattle.cidr_blocks.specs.Places.{block_cmp, octets_of}

pub block_cmp_total : IsTotalOrder block_cmp
block_cmp_total = then_total (on_total (λ (p : Prefix). width_of p.address) nat_cmp_total)
    (then_total (on_texts (λ (p : Prefix). octets_of p.address))
    (on_total (λ (p : Prefix). p.length) nat_cmp_total))

pub same_block_laws : IsEquivalence (eq_by_cmp block_cmp)
same_block_laws = eq_by_cmp_equiv block_cmp_total

pub same_block_partial : IsPartialEquivalence (eq_by_cmp block_cmp)
same_block_partial = partial_equiv_from_equiv same_block_laws

pub block_cmp_partial : IsPartialOrder (eq_by_cmp block_cmp) (λ p q. Some (block_cmp p q))
block_cmp_partial = partial_order_from_agreeing_total block_cmp block_cmp_total (λ p q. refl)
    (λ p q. refl)
