-- The words of `once`.
use Rattle.std.proofs.Common.{◌≡◌, ℕ, List, [], ◌∷◌, map, arith, ap, ◌∙◌, sym, codes, subst, Option, Some, None}
use Rattle.std.specs.Prelude.{IfSome}
use Rattle.dns_name.specs.Text.{name_of_text}
use Rattle.r53_cli.specs.declared.once.Once.{Once}
use Rattle.rdata.specs.Datum.{Datum}
use Rattle.rdata.specs.Laws.{OneReading}
use Rattle.r53_cli.specs.Once.{IsAddress, IsOnce, IsPlain, Spells}
use Rattle.r53_cli.proofs.Addresses.{one_address}
use Rattle.r53_cli.proofs.Numbers.{same_number}
use Rattle.std.specs.List.{All, AllByRecursion}
use Rattle.std.proofs.lemmas.List.Elements.{recursion_from_All, All-from_recursion}

-- what holds of each item of a map, of each item before it
under_map : {X Y : Type 0} (P : Y → Type 0) (f : X → Y) (xs : List X) → AllByRecursion P (map f xs)
    → AllByRecursion (λ x. P (f x)) xs
under_map P f [] h = tt
under_map P f (x ∷ xs) h = (h.0, under_map P f xs h.1)

pub All-under_map : {X Y : Type 0} (P : Y → Type 0) (f : X → Y) (xs : List X) → All P (map f xs)
    → All (λ x. P (f x)) xs
All-under_map P f xs h =
    All-from_recursion (λ x. P (f x)) xs (under_map P f xs (recursion_from_All P (map f xs) h))

module _ (words : List (List ℕ)) (name ttl address : List ℕ) (form : words
    ≡ codes "once" ∷ name ∷ ttl ∷ address ∷ []) where
  pub form_taken : All IsPlain words → (result : Option Once)
      → IfSome result (Spells name ttl address) → IfSome result (IsOnce words)
  form_taken plain None spelled = tt
  form_taken plain (Some once) spelled = record {
    plain = plain;
    name = name;
    ttl = ttl;
    address = address;
    form = form;
    spelled = spelled;
  }

  spells : (once : Once) → IsOnce words once → Spells name ttl address once
  spells once f =
      let same : codes "once" ∷ name ∷ ttl ∷ address ∷ []
      ≡ codes "once" ∷ f.name ∷ f.ttl ∷ f.address ∷ [] = sym form ∙ f.form in
      let names : f.name ≡ name = cc in
      let ttls : ttl ≡ f.ttl = cc in
      let addresses : f.address ≡ address = cc in
      record {
        name_is = ap name_of_text (sym names) ∙ f.spelled.name_is;
        ttl_is = ttls ∙ f.spelled.ttl_is;
        ttl_fits = f.spelled.ttl_fits;
        address_is = subst (λ t. IsAddress t once.address) addresses f.spelled.address_is;
      }

same_once : (a b : Once) → a.name ≡ b.name → a.ttl ≡ b.ttl → a.address ≡ b.address → a ≡ b
same_once a b names ttls addresses =
    let make : List (List ℕ) × ℕ × Datum
    → Once = λ p. record { name = p.0; ttl = p.1; address = p.2 } in
    let same : (a.name, a.ttl, a.address) ≡ (b.name, b.ttl, b.address) = cc in
    ap make same

-- the words of `once` have one record
pub one_once : OneReading → (words : List (List ℕ)) (once other : Once) → IsOnce words once
    → IsOnce words other → once ≡ other
one_once law words once other x y =
    let forms : codes "once" ∷ x.name ∷ x.ttl ∷ x.address ∷ []
    ≡ codes "once" ∷ y.name ∷ y.ttl ∷ y.address ∷ [] = sym x.form ∙ y.form in
    let names : x.name ≡ y.name = cc in
    let ttls : x.ttl ≡ y.ttl = cc in
    let addresses : x.address ≡ y.address = cc in
    let f = x.spelled.ttl_fits in
    let g = y.spelled.ttl_fits in
    let name : once.name ≡ other.name = let n = x.spelled.name_is in let m = ap name_of_text names
    ∙ y.spelled.name_is in cc in
    let ttl : once.ttl ≡ other.ttl =
    same_number x.ttl once.ttl other.ttl (omega arith) (omega arith) x.spelled.ttl_is (ttls
    ∙ y.spelled.ttl_is) in
    let address =
    one_address law x.address once.address other.address x.spelled.address_is
    (subst (λ t. IsAddress t other.address) (sym addresses) y.spelled.address_is) in
    same_once once other name ttl address
