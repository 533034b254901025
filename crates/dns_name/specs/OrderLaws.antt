-- Zone order is a total order, and its ties are the same labels.
use Rattle.std.specs.Prelude.{◌≡◌, ℕ, List, reverse, Some, nat_eq, refl}
use Rattle.std.proofs.Common.{sym, ap, ◌∙◌}
use Rattle.std.specs.Bool.{Decides}
use Rattle.std.specs.Ordering.{nat_cmp, eq_by_cmp}
use Rattle.std.specs.Cmp.{IsTotalOrder, IsEquivalence, IsPartialEquivalence, IsPartialOrder}
use Rattle.std.specs.Cmp.{on_total, partial_equiv_from_equiv}
use Rattle.std.specs.Cmp.{partial_order_from_agreeing_total}
use Rattle.std.specs.Cmp.Lexicographic.{pointwise, slice_cmp, lists_ties, texts_ties}
use Rattle.std.specs.Cmp.Lexicographic.{nat_list_eq_equiv, nat_list_cmp_total}
use Rattle.std.proofs.lemmas.Bool.Decides.{Decides-eqb, Decides-like, same_from_decides}
use Rattle.std.proofs.lemmas.Cmp.{lists_total, lists_equiv}
use Rattle.std.proofs.lemmas.List.{reverse-reverse}
use Rattle.std.proofs.lemmas.Slice.Eq.{slice_eq-Decides}
use Rattle.dns_name.specs.Order.{same_labels, zone_cmp}

pub same_labels_laws : IsEquivalence same_labels
same_labels_laws = lists_equiv nat_list_eq_equiv

pub same_labels_partial : IsPartialEquivalence same_labels
same_labels_partial = partial_equiv_from_equiv same_labels_laws

-- the test holds exactly of equal lists of labels
pub same_labels-Decides : (labels others : List (List ℕ))
    → Decides (same_labels labels others) (labels ≡ others)
same_labels-Decides labels others =
    slice_eq-Decides (λ x y. slice_eq-Decides Decides-eqb x y (pointwise nat_eq x y) refl)
    labels others
    (same_labels labels others) refl

pub zone_cmp_total : IsTotalOrder zone_cmp
zone_cmp_total = on_total reverse (lists_total nat_list_cmp_total)

pub zone_cmp_ties : (labels others : List (List ℕ))
    → same_labels labels others ≡ eq_by_cmp zone_cmp labels others
zone_cmp_ties labels others =
    same_from_decides (same_labels labels others) (same_labels (reverse labels) (reverse others))
    (same_labels-Decides labels others)
    (Decides-like (same_labels (reverse labels) (reverse others))
    (λ e. sym (reverse-reverse labels) ∙ ap reverse e ∙ reverse-reverse others) (λ e. ap reverse e)
    (same_labels-Decides (reverse labels) (reverse others)))
    ∙ lists_ties (slice_cmp nat_cmp) texts_ties (reverse labels) (reverse others)

pub zone_cmp_partial : IsPartialOrder same_labels (λ labels others. Some (zone_cmp labels others))
zone_cmp_partial = partial_order_from_agreeing_total zone_cmp zone_cmp_total
    (λ labels others. refl) zone_cmp_ties
