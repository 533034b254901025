-- Values that are read from a set that is held.
use Rattle.std.proofs.Common.{◌≡◌, ℕ, ◌+◌, List, [], ◌∷◌, ◌++◌, take, Option, None, Some, sym, ap}
use Rattle.std.proofs.Common.{◌∙◌, subst, arith}
use Rattle.std.specs.Prelude.{IfSome, slice_get, unwrap_or}
use Rattle.rdata.specs.Datum.{Datum}
use Rattle.rdata_layout.specs.declared.types.RType.{RType}
use Rattle.batch_model.specs.BodyRecord.{Body}
use Rattle.batch_model.specs.BodyRecord.TheVariants as body
use Rattle.batch_model.specs.RecordSetRecord.{RecordSet}
use Rattle.batch_model.specs.Octets.{AreOfType, HasSpelling}
use Rattle.zone_table.specs.Bodies.{values_of, wires_of}
use Rattle.zone_table.proofs.Lists.{take_more}
use Rattle.zone_table.proofs.Places.{all_at}
use Rattle.zone_table.proofs.Naming.{of_map_at}

one_type : (rtype : RType) (what : Body) (i : ℕ) (value : Datum) → AreOfType rtype what
    → slice_get (values_of what) i ≡ Some value → value.rtype ≡ rtype
one_type rtype (body.Values ttl values) i value all there =
    all_at (λ (v : Datum). v.rtype ≡ rtype) values i value all there
one_type rtype (body.Alias target evaluate) i value all there = absurd (grind (arith, there))

-- one value more
pub value_more : (held : Option RecordSet) (i : ℕ) (rtype : RType) (wire : List ℕ)
    (items more : List Datum)
    → ((set : RecordSet) × (held ≡ Some set) × HasSpelling set)
    → IfSome held (λ set. rtype ≡ set.rtype)
    → IfSome held (λ set. slice_get (wires_of set.body) i ≡ Some wire)
    → IfSome held (λ set. items ≡ take i (values_of set.body))
    → more ≡ items ++ record { rtype = rtype; wire = wire } ∷ []
    → IfSome held (λ set. more ≡ take (i + 1) (values_of set.body))
value_more None i rtype wire items more spelled its_type its_wire so_far e = tt
value_more (Some set) i rtype wire items more (other, is, spelled) its_type its_wire so_far e =
    let same : other ≡ set = ap (λ (o : Option RecordSet). unwrap_or o set) (sym is) in
    let at = of_map_at (λ (v : Datum). v.wire) (values_of set.body) i wire its_wire in
    let kind : at.0.rtype ≡ set.rtype =
    one_type set.rtype set.body i at.0
    (subst (λ (s : RecordSet). AreOfType s.rtype s.body) same spelled.of_type) at.1 in
    let value : record { rtype = rtype; wire = wire } ≡ at.0 =
    let parts : (rtype, wire) ≡ (at.0.rtype, at.0.wire) = let w = at.2 in cc in
    ap (λ (p : RType × List ℕ). record { rtype = p.0; wire = p.1 }) parts in
    e ∙ ap (λ (xs : List Datum). xs ++ record { rtype = rtype; wire = wire } ∷ []) so_far
    ∙ ap (λ (v : Datum). take i (values_of set.body) ++ v ∷ []) value
    ∙ sym (take_more (values_of set.body) i at.0 at.1)
