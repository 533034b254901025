-- Texts of addresses.
use Rattle.std.proofs.Common.{◌≡◌, List, [], ℕ, sym, ◌∙◌, ap, subst}
use Rattle.std.specs.Prelude.{Result, Ok, Err, IfOk}
use Rattle.rdata_layout.specs.declared.types.RType.{RType}
use Rattle.rdata_layout.specs.declared.types.RType.TheVariants.{A}
use Rattle.rdata.specs.Datum.{Datum}
use Rattle.rdata.specs.Laws.{OneReading}
use Rattle.rdata.specs.declared.faults.ValueFault.{ValueFault}
use Rattle.rdata.specs.Reading.{Reads}
use Rattle.r53_cli.specs.Once.{IsAddress}

abbrev Read : Type 0
Read = Result (List ℕ) ValueFault

abbrev octets_of : Read → List ℕ
octets_of (Ok octets) = octets
octets_of (Err fault) = []

abbrev IsOk : Read → Type 0
IsOk (Ok octets) = Unit {0}
IsOk (Err fault) = ⊥

same_datum : (x y : Datum) → x.rtype ≡ y.rtype → x.wire ≡ y.wire → x ≡ y
same_datum x y types wires =
    let make : RType × List ℕ → Datum = λ p. record { rtype = p.0; wire = p.1 } in
    let same : (x.rtype, x.wire) ≡ (y.rtype, y.wire) = cc in
    ap make same

-- a text is that of one address at most
pub one_address : OneReading → (text : List ℕ) (x y : Datum) → IsAddress text x → IsAddress text y
    → x ≡ y
one_address law text x y is also =
    let same : Ok x.wire ≡ Ok y.wire = law A text (Ok x.wire) (Ok y.wire) is.reads also.reads in
    same_datum x y (is.rtype_is ∙ sym also.rtype_is) (ap octets_of same)

-- where a text has a fault it is none
pub no_address : OneReading → (text : List ℕ) (fault : ValueFault) → Reads A text (Err fault)
    → (address : Datum) → IsAddress text address → ⊥
no_address law text fault read address is =
    let same : Ok address.wire ≡ Err fault =
    law A text (Ok address.wire) (Err fault) is.reads read in
    subst IsOk same tt

pub ok_so : {X E : Type 0} {P Q : X → Type 0} (r : Result X E) → IfOk r P → ((x : X) → P x → Q x)
    → IfOk r Q
ok_so (Ok x) p f = f x p
ok_so (Err e) p f = tt
