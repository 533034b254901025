-- The order of keys.
use Rattle.std.proofs.Common.{◌≡◌, ℕ, List, [], ◌∷◌, ap, ◌∙◌, sym, refl, Option, None, Some, Less, Equal, Greater, subst, arith}
use Rattle.std.specs.Prelude.{◌==◌, if◌then◌else◌, nat_eq}
use Rattle.std.specs.declared.cmp.Ordering.{Ordering}
use Rattle.std.specs.Ordering.{nat_cmp, ordering_then, is_eq}
use Rattle.std.specs.Cmp.{IsTotalOrder}
use Rattle.std.specs.Cmp.Lexicographic.{slice_cmp, pointwise, texts_ties}
use Rattle.std.proofs.lemmas.Bool.Decides.{Decides-eqb}
use Rattle.std.proofs.lemmas.Slice.Eq.{slice_eq-Decides}
use Rattle.std.proofs.lemmas.Cmp.{on_total, then_total, nat_cmp_total, nat_list_cmp_total, ranked}
use Rattle.record_set.specs.Order.{zone_cmp}
use Rattle.record_set.specs.OrderLaws.{zone_cmp_total, zone_cmp_ties, same_labels-Decides}
use Rattle.record_set.specs.Types.{number_of}
use Rattle.record_set.specs.RTypeRecord.{RType}
use Rattle.record_set.specs.RTypeRecord.TheVariants.{A, Ns, Cname, Soa, Ptr, Mx, Txt, Aaaa, Srv, Spf, Caa}
use Rattle.record_set.specs.declared.sets.SetKey.{SetKey}
use Rattle.zone_model.specs.Keys.{ident_cmp, key_cmp}
use Rattle.zone_model.specs.KeyLaws.{KeysAreOrdered}

-- the type of a number
abbrev type_of : ℕ → RType
type_of n =
    if n == 1 then A
    else (if n == 2 then Ns
    else (if n == 5 then Cname else (if n == 6 then Soa else (if n == 12 then Ptr
    else (if n == 15 then Mx
    else (if n == 16 then Txt else (if n == 28 then Aaaa else (if n == 33 then Srv
    else (if n == 99 then Spf else Caa)))))))))

type_back : (rtype : RType) → type_of (number_of rtype) ≡ rtype
type_back A = refl
type_back Ns = refl
type_back Cname = refl
type_back Soa = refl
type_back Ptr = refl
type_back Mx = refl
type_back Txt = refl
type_back Aaaa = refl
type_back Srv = refl
type_back Spf = refl
type_back Caa = refl

-- a type has its own number
pub one_number : (rtype other : RType) → number_of rtype ≡ number_of other → rtype ≡ other
one_number rtype other e = sym (type_back rtype) ∙ ap type_of e ∙ type_back other

-- identifiers as lists that are not empty
abbrev listed : Option (List ℕ) → List ℕ
listed None = []
listed (Some ident) = 0 ∷ ident

as_lists : (ident other : Option (List ℕ))
    → slice_cmp nat_cmp (listed ident) (listed other) ≡ ident_cmp ident other
as_lists None None = refl
as_lists None (Some other) = refl
as_lists (Some ident) None = refl
as_lists (Some ident) (Some other) = refl

idents_total : IsTotalOrder ident_cmp
idents_total = subst IsTotalOrder (λ i x y. as_lists x y i) (on_total listed nat_list_cmp_total)

pub keys_total : IsTotalOrder key_cmp
keys_total =
    then_total
    (then_total (on_total (λ (k : SetKey). k.name) zone_cmp_total)
    (on_total (λ (k : SetKey). number_of k.rtype) nat_cmp_total))
    (on_total (λ (k : SetKey). k.ident) idents_total)

pub names_tie : (name other : List (List ℕ)) → zone_cmp name other ≡ Equal → name ≡ other
names_tie name other e = (same_labels-Decides name other).0 (zone_cmp_ties name other ∙ ap is_eq e)

pub types_tie : (rtype other : RType) → nat_cmp (number_of rtype) (number_of other) ≡ Equal
    → rtype ≡ other
types_tie rtype other e =
    one_number rtype other (ranked (number_of rtype) (number_of other) Equal (sym e))

texts_tie : (text other : List ℕ) → slice_cmp nat_cmp text other ≡ Equal → text ≡ other
texts_tie text other e =
    (slice_eq-Decides Decides-eqb text other (pointwise nat_eq text other) refl).0
    (texts_ties text other ∙ ap is_eq e)

idents_tie : (ident other : Option (List ℕ)) → ident_cmp ident other ≡ Equal → ident ≡ other
idents_tie None None e = refl
idents_tie None (Some other) e = absurd (grind (arith, e))
idents_tie (Some ident) None e = absurd (grind (arith, e))
idents_tie (Some ident) (Some other) e = ap Some (texts_tie ident other e)

-- both parts of a tie
pub first_tie : (o p : Ordering) → ordering_then o p ≡ Equal → o ≡ Equal
first_tie Less p e = e
first_tie Equal p e = refl
first_tie Greater p e = e

pub second_tie : (o p : Ordering) → ordering_then o p ≡ Equal → p ≡ Equal
second_tie Less p e = absurd (grind (arith, e))
second_tie Equal p e = e
second_tie Greater p e = absurd (grind (arith, e))

pub keys_tie : (key other : SetKey) → key_cmp key other ≡ Equal → key ≡ other
keys_tie key other e =
    let names_types =
    first_tie
    (ordering_then (zone_cmp key.name other.name)
    (nat_cmp (number_of key.rtype) (number_of other.rtype))) (ident_cmp key.ident other.ident) e
    in
    let name : key.name ≡ other.name =
    names_tie key.name other.name (first_tie (zone_cmp key.name other.name) _ names_types) in
    let rtype : key.rtype ≡ other.rtype =
    types_tie key.rtype other.rtype (second_tie (zone_cmp key.name other.name) _ names_types) in
    let ident : key.ident ≡ other.ident =
    idents_tie key.ident other.ident (second_tie _ (ident_cmp key.ident other.ident) e) in
    let parts : (key.name, (key.rtype, key.ident)) ≡ (other.name, (other.rtype, other.ident)) =
    cc in
    ap (λ (p : List (List ℕ) × (RType × Option (List ℕ))). record {
      name = p.0;
      rtype =
          p.1.0;
      ident = p.1.1;
    }) parts

pub keys_are_ordered : KeysAreOrdered
keys_are_ordered = record { total = keys_total; ties = keys_tie }
