-- The name that octets of a key begin with.
use Rattle.std.proofs.Common.{◌≡◌, Less, Equal, Greater, ◌++◌, ℕ, List, Result, Ok, Err, ap, refl, ◌∙◌, append_assoc}
use Rattle.std.specs.declared.cmp.Ordering.{Ordering}
use Rattle.std.specs.Ordering.{ordering_reverse}
use Rattle.octets.specs.Numbers.{two_octets}
use Rattle.set_search.specs.OrderOfDnsName.{zone_cmp}
use Rattle.set_search.specs.OrderLaws.{zone_cmp_total}
use Rattle.set_search.specs.Labels.{wire}
use Rattle.set_scratch.specs.Names.{name_at}
use Rattle.set_scratch.specs.Rules.{BaseFieldsAreRead}
use Rattle.set_search.specs.Types.{number_of}
use Rattle.set_search.specs.RecordSetRecord.{RecordSet}
use Rattle.set_scratch.specs.Heads.{key_octets, policy_front}
use Rattle.set_scratch.specs.Sets.{IsSet}

pub name_of_head : BaseFieldsAreRead → (set : RecordSet) (rest octets : List ℕ) → IsSet set
    → octets ≡ key_octets set ++ rest
    → name_at octets ≡ Ok (set.name, (two_octets (number_of set.rtype) ++ policy_front set.routing) ++ rest)
name_of_head base set rest octets is e =
    let behind = two_octets (number_of set.rtype) ++ policy_front set.routing in
    ap name_at (e ∙ append_assoc (wire set.name) behind rest) ∙ base.names.again set.name (behind
    ++ rest) is.name

abbrev Read : Type 0
Read = Result (List (List ℕ) × List ℕ) ℕ

pub read_one : (read : Read) (x y : List (List ℕ) × List ℕ) → read ≡ Ok x → read ≡ Ok y → x.0 ≡ y.0
read_one read x y e f = let same : x ≡ y = cc in ap (λ (p : List (List ℕ) × List ℕ). p.0) same

pub never : (read : Read) (x : List (List ℕ) × List ℕ) (left : ℕ) → read ≡ Ok x → read ≡ Err left → ⊥
never read x left e f = cc

same_as_back : (o : Ordering) → o ≡ ordering_reverse o → o ≡ Equal
same_as_back Less e = absurd cc
same_as_back Equal e = refl
same_as_back Greater e = absurd cc

-- a name stands where it stands
pub as_itself : (name : List (List ℕ)) → zone_cmp name name ≡ Equal
as_itself name = same_as_back (zone_cmp name name) (zone_cmp_total.antisymm name name)
