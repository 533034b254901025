-- What a set answers, its check, and the set as a whole.
use Rattle.std.proofs.Common.{◌≡◌, ◌<◌, ◌^◌, ℕ, Bool, List, ◌∷◌, length, refl, sym, true, append_assoc, Option, None, Some}
use Rattle.std.specs.Prelude.{⊤}
use Rattle.std.specs.List.{flat_map}
use Rattle.octets.specs.Numbers.{two_octets, four_octets}
use Rattle.set_fields.specs.Readers.{has_kind}
use Rattle.set_fields.specs.Rules.{IsReadAs, AreListable, WhereSome, optional_octets}
use Rattle.set_fields.proofs.Base.{flag_read, name_read}
use Rattle.set_fields.proofs.Composed.{in_turn_read, in_turn_by_read}
use Rattle.set_fields.proofs.OfKind.{kinds_read}
use Rattle.set_fields.proofs.Optional.{list_read, optional_read}
use Rattle.set_fields.proofs.Rules.{alike, seen_read}
use Rattle.set_fields.specs.NamesOfDnsName.{IsName}
use Rattle.set_fields.specs.Datum.{Datum}
use Rattle.set_fields.specs.RTypeRecord.{RType}
use Rattle.set_fields.specs.RecordSetRecord.{RecordSet}
use Rattle.set_fields.specs.BodyRecord.{Body}
use Rattle.set_fields.specs.BodyRecord.TheVariants as body
use Rattle.set_fields.specs.Octets.{value_octets, head_octets, body_octets, check_octets, set_octets, AreOfType, IsSpelledBody, IsSpelledRouting}
use Rattle.set_fields.specs.Laws.{FieldsAreRead}
use Rattle.set_reading.specs.Reading.{records_at, alias_at, bodies, body_at, check_at, set_of, set_at}
use Rattle.set_reading.specs.Sets.{IsBody, IsSet}
use Rattle.set_reading.proofs.Policies.{first, others, four_read, routing_read}
use Rattle.set_reading.proofs.ValueLists.{IsValue, are_values, of_type, in_layout, value_read}

-- what sets of the type answer
pub record IsGoodBody (type : RType) (answers : Body) : Type 0 where
  pub is : IsBody answers
  pub spelled : IsSpelledBody answers
  pub of_type : AreOfType type answers

abbrev kind : Body → ℕ
kind answers = first (body_octets answers)

abbrev later : Body → List ℕ
later answers = others (body_octets answers)

abbrev Of : RType → ℕ → Body → Type 0
Of type n answers = IsGoodBody type answers × (kind answers ≡ n)

records_from : (type : RType) (x : Body) → Of type 0 x
    → (p : ℕ × List Datum) × ((p.0 < 2 ^ 31) × AreListable (IsValue type) p.1)
    × (body.Values p.0 p.1 ≡ x)
records_from type (body.Values ttl values) h = (
  (ttl, values),
  (
    h.0.spelled.0,
    record { count = h.0.spelled.1; each = are_values type values h.0.of_type h.0.is },
  ),
  refl,
)
records_from type (body.Alias target evaluate) h = absurd cc

alias_from : (type : RType) (x : Body) → Of type 1 x → (p : List (List ℕ) × Bool) × (IsName p.0 × ⊤)
    × (body.Alias p.0 p.1 ≡ x)
alias_from type (body.Values ttl values) h = absurd cc
alias_from type (body.Alias target evaluate) h = ((target, evaluate), (h.0.is, tt), refl)

parts : (x : Body) → kind x ∷ later x ≡ body_octets x
parts (body.Values ttl values) = refl
parts (body.Alias target evaluate) = refl

there : (type : RType) (x : Body) → has_kind (bodies type) (kind x) ≡ true
there type (body.Values ttl values) = refl
there type (body.Alias target evaluate) = refl

-- the number of a check
named : (check : Option ℕ) → optional_octets four_octets check ≡ check_octets check
named None = refl
named (Some check) = refl

any : (check : Option ℕ) → WhereSome (λ n. ⊤) check
any None = tt
any (Some check) = tt

pub check_read : IsReadAs (λ check. ⊤) check_octets check_at
unfolding check_at
check_read = alike (optional_read four_read) (λ check is. (tt, named check)) (λ check is. any check)

-- what a set is that has a spelling, however long
pub record IsGoodSet (set : RecordSet) : Type 0 where
  pub is : IsSet set
  pub routing : IsSpelledRouting set.routing
  pub body : IsSpelledBody set.body
  pub of_type : AreOfType set.rtype set.body

module _ (fields : FieldsAreRead) where
  records_read : (type : RType) → IsReadAs (Of type 0) later (records_at type)
  unfolding records_at
  records_read type =
      seen_read (λ x. body.Values x.0 x.1) (in_turn_read fields.times (list_read (value_read type)))
      (λ x h. (
        (
          record {
            is = in_layout type x.1 h.1.each;
            spelled = (h.0, h.1.count);
            of_type =
                of_type type x.1 h.1.each;
          },
          refl,
        ),
        sym (append_assoc (four_octets x.0) (two_octets (length x.1)) (flat_map value_octets x.1)),
      ))
      (records_from type)

  alias_read : (type : RType) → IsReadAs (Of type 1) later alias_at
  unfolding alias_at
  alias_read type = seen_read (λ x. body.Alias x.0 x.1) (in_turn_read name_read flag_read)
      (λ x h. ((record { is = h.0; spelled = tt; of_type = tt }, refl), refl)) (alias_from type)

  body_read : (type : RType) → IsReadAs (IsGoodBody type) body_octets (body_at type)
  unfolding body_at
  body_read type = alike
      (kinds_read kind (IsGoodBody type) later (bodies type) (
        records_read type,
        (alias_read type, tt),
      ) (λ x is. there type x))
      (λ x is. (is, parts x)) (λ x is. is)

  pub set_read : IsReadAs IsGoodSet set_octets set_at
  unfolding set_at
  set_read = seen_read set_of
      (in_turn_by_read (in_turn_read (in_turn_read name_read fields.types) (routing_read fields))
      (λ head. in_turn_read (body_read head.0.1) check_read))
      (λ x h. (
        record {
          is = record { name = h.0.0.0; routing = h.0.1.0; body = h.1.0.is };
          routing = h.0.1.1;
          body = h.1.0.spelled;
          of_type = h.1.0.of_type;
        },
        sym (append_assoc (head_octets (set_of x)) (body_octets x.1.0) (check_octets x.1.1)),
      ))
      (λ set good. (
        (((set.name, set.rtype), set.routing), (set.body, set.check)),
        (
          ((good.is.name, tt), (good.is.routing, good.routing)),
          (record { is = good.is.body; spelled = good.body; of_type = good.of_type }, tt),
        ),
        refl,
      ))
