-- A set that a line gives is within its bounds.
use Rattle.std.proofs.Common.{◌≡◌, ℕ, ◌<◌, ◌≤◌, ◌^◌, List, [], ◌∷◌, length, Option, None, Some, Result, Ok, Err, arith, refl, subst, sym}
use Rattle.std.specs.Prelude.{IfSome, map}
use Rattle.std.specs.List.{AllByRecursion}
use Rattle.std.proofs.lemmas.List.{length-map}
use Rattle.dns_name.specs.Laws.{TextsReadAsNames}
use Rattle.dns_name.specs.Names.{IsName}
use Rattle.serde_json.specs.Data.{Data}
use Rattle.line_faults.specs.declared.member.Member.{Member}
use Rattle.line_faults.specs.declared.member.Member.TheVariants as m
use Rattle.line_reading.specs.Kinds.{check_id, flag, list, name, number, text}
use Rattle.line_reading.specs.Reading.{each, optional, required}
use Rattle.line_words.specs.Words.{record_type}
use Rattle.policy_lines.specs.Policies.{policy_members, routing_of}
use Rattle.rdata.specs.Datum.{Datum}
use Rattle.rdata.specs.ValueOfText.{value_of_text}
use Rattle.rdata.specs.declared.faults.ValueFault.{ValueFault}
use Rattle.rdata_layout.specs.declared.types.RType.{RType}
use Rattle.record_set.specs.Values.{IsInLayout}
use Rattle.record_set.specs.declared.sets.Body.{Body}
use Rattle.batch_json.specs.Sets.{body_with, content_members, resource_record_set}
use Rattle.batch_json.specs.Values.{alias_target, or_bad_value, record_value, records, same_zone, value, values_in}
use Rattle.set_octets.specs.Octets.{AreOfType, IsSpelledBody}
use Rattle.set_reading.specs.Sets.{IsBody}
use Rattle.command_bounds.specs.LawsOfConfigModel.{IsBoundedSet}
use Rattle.line_bounds.proofs.Names.{name_is}
use Rattle.line_bounds.proofs.Policies.{policy_is}
use Rattle.line_bounds.proofs.Steps.{after_object, each_has, list_within, number_within, optional_has, required_has, same_ok, steps}
use Rattle.line_bounds.specs.Laws.{TextsAreValues}

-- ---- values

abbrev IsValueOf : RType → Datum → Type 0
IsValueOf rtype datum = (datum.rtype ≡ rtype) × IsInLayout datum

value_is : TextsAreValues → (rtype : RType) (h : Member) (d : Data) (counted : _)
    → value rtype h d ≡ Ok counted → IsValueOf rtype counted.datum
unfolding value
value_is law rtype h d counted e =
    let s = steps (text h d) _ counted e in
    go s.value (value_of_text rtype s.value) refl s.gives
  where
    go : (s : List ℕ) (read : Result (List ℕ) ValueFault) → value_of_text rtype s ≡ read
        → or_bad_value h rtype (length s) read ≡ Ok counted → IsValueOf rtype counted.datum
    go s (Ok wire) r k =
        subst (λ c. IsValueOf rtype c.datum) (same_ok _ counted k) (refl, law rtype s wire r)
    go s (Err fault) r k = absurd cc

one_value : TextsAreValues → (rtype : RType) (h : Member) (o : Data) (counted : _)
    → record_value rtype h o ≡ Ok counted → IsValueOf rtype counted.datum
unfolding record_value
one_value law rtype h o counted e =
    let a = after_object _ _ _ _ _ counted e in
    required_has (λ c. IsValueOf rtype c.datum) m.Value (value rtype) o counted
    (value_is law rtype m.Value) a

-- ---- the values of a set

abbrev AreValuesOf : RType → List Datum → Type 0
AreValuesOf rtype values = AllByRecursion (IsValueOf rtype) values × (length values ≤ 65535)

in_layout : (rtype : RType) (values : List Datum) → AllByRecursion (IsValueOf rtype) values
    → AllByRecursion IsInLayout values
in_layout rtype [] are = tt
in_layout rtype (value ∷ values) are = (are.0.1, in_layout rtype values are.1)

of_the_type : (rtype : RType) (values : List Datum) → AllByRecursion (IsValueOf rtype) values
    → AllByRecursion (λ value. value.rtype ≡ rtype) values
of_the_type rtype [] are = tt
of_the_type rtype (value ∷ values) are = (are.0.0, of_the_type rtype values are.1)

mapped : {A B : Type 0} (P : B → Type 0) (f : A → B) (xs : List A) → AllByRecursion (λ x. P (f x)) xs
    → AllByRecursion P (map f xs)
mapped P f [] are = tt
mapped P f (x ∷ xs) are = (are.0, mapped P f xs are.1)

values_are : TextsAreValues → (rtype : RType) (h : Member) (d : Data) (given : _)
    → records rtype h d ≡ Ok given → AreValuesOf rtype given.values
unfolding records values_in
values_are law rtype h d given e =
    let s = steps (list 0 65535 h d) _ given e in
    let t = steps (each (λ _. record_value rtype h) 0 s.value) _ given s.gives in
    let all = each_has (λ c. IsValueOf rtype c.datum) (λ _. record_value rtype h)
    (λ k o c r. one_value law rtype h o c r) 0 s.value t.value t.is in
    let few = list_within 0 65535 h d s.value s.is in
    subst (λ v. AreValuesOf rtype v.values) (same_ok _ given t.gives) (
      mapped (IsValueOf rtype) (λ c. c.datum) t.value all.0,
      omega (arith, length-map t.value (λ c. c.datum), all.1, few),
    )

-- ---- the body

-- a body that a set of the type may have
pub record IsBoundedBody (rtype : RType) (given : Body) : Type 0 where
  pub parts : IsBody given
  pub spelled : IsSpelledBody given
  pub of_type : AreOfType rtype given

target_is : TextsReadAsNames → (zone : List ℕ) (h : Member) (o : Data) (given : _)
    → alias_target zone h o ≡ Ok given → IsName given.target
unfolding alias_target
target_is law zone h o given e =
    let a = after_object _ _ _ _ _ given e in
    let b = steps (required m.HostedZoneId (same_zone zone) o) _ given a in
    let c = steps (required m.DnsName name o) _ given b.gives in
    let d = steps (required m.EvaluateTargetHealth flag o) _ given c.gives in
    subst (λ v. IsName v.target) (same_ok _ given d.gives)
    (required_has IsName m.DnsName name o c.value (name_is law m.DnsName) c.is)

ttl_is : (h : Member) (d : Data) (n : ℕ) → number 0 2147483647 h d ≡ Ok n → n < 2 ^ 31
ttl_is h d n r = let w = number_within 0 2147483647 h d n r in omega (arith, w.1)

body_is : (rtype : RType) (ttl : Option ℕ) (values : Option _) (target : Option _) (given : _)
    → body_with ttl values target ≡ Ok given → IfSome ttl (λ n. n < 2 ^ 31)
    → IfSome values (λ v. AreValuesOf rtype v.values) → IfSome target (λ a. IsName a.target)
    → IsBoundedBody rtype given.body
body_is rtype None None (Some a) given e t v g =
    subst (λ b. IsBoundedBody rtype b.body) (same_ok _ given e)
    (record { parts = g; spelled = tt; of_type = tt })
body_is rtype (Some ttl) (Some values) None given e t v g =
    let few : length values.values < 2 ^ 16 = omega (arith, v.1) in
    subst (λ b. IsBoundedBody rtype b.body) (same_ok _ given e) (record {
      parts = in_layout rtype values.values v.0;
      spelled = (t, few);
      of_type = of_the_type rtype values.values v.0;
    })
body_is rtype (Some ttl) values (Some a) given e t v g = absurd cc
body_is rtype None (Some values) (Some a) given e t v g = absurd cc
body_is rtype None values None given e t v g = absurd cc
body_is rtype (Some ttl) None None given e t v g = absurd cc

content_is : TextsReadAsNames → TextsAreValues → (zone : List ℕ) (rtype : RType) (o : Data)
    (contents : _) (given : _) → content_members zone rtype o ≡ Ok contents
    → body_with contents.ttl contents.records contents.alias ≡ Ok given
    → IsBoundedBody rtype given.body
unfolding content_members
content_is names law zone rtype o contents given e k =
    let a = steps (optional m.Ttl (number 0 2147483647) o) _ contents e in
    let b = steps (optional m.ResourceRecords (records rtype) o) _ contents a.gives in
    let c = steps (optional m.AliasTarget (alias_target zone) o) _ contents b.gives in
    let d = steps (optional m.HealthCheckId check_id o) _ contents c.gives in
    body_is rtype a.value b.value c.value given
    (subst (λ x. body_with x.ttl x.records x.alias ≡ Ok given) (sym (same_ok _ contents d.gives)) k)
    (optional_has (λ n. n < 2 ^ 31) m.Ttl (number 0 2147483647) o a.value (ttl_is m.Ttl) a.is)
    (optional_has (λ v. AreValuesOf rtype v.values) m.ResourceRecords (records rtype) o b.value
    (values_are law rtype m.ResourceRecords) b.is)
    (optional_has (λ t. IsName t.target) m.AliasTarget (alias_target zone) o c.value
    (target_is names zone m.AliasTarget) c.is)

-- ---- the set

pub set_is : TextsReadAsNames → TextsAreValues → (zone : List ℕ) (h : Member) (o : Data) (given : _)
    → resource_record_set zone h o ≡ Ok given → IsBoundedSet given.set
unfolding resource_record_set
set_is names law zone h o given e =
    let a = after_object _ _ _ _ _ given e in
    let b = steps (required m.Name name o) _ given a in
    let c = steps (required m.«Type» record_type o) _ given b.gives in
    let d = steps (policy_members o) _ given c.gives in
    let f = steps (content_members zone c.value o) _ given d.gives in
    let g = steps (routing_of d.value) _ given f.gives in
    let k = steps (body_with f.value.ttl f.value.records f.value.alias) _ given g.gives in
    let name_of_set = required_has IsName m.Name name o b.value (name_is names m.Name) b.is in
    let policy = policy_is o d.value g.value d.is g.is in
    let body_of_set = content_is names law zone c.value o f.value k.value f.is k.is in
    subst (λ x. IsBoundedSet x.set) (same_ok _ given k.gives) (record {
      parts = record { name = name_of_set; routing = policy.0; body = body_of_set.parts };
      routing = policy.1;
      body = body_of_set.spelled;
      of_type = body_of_set.of_type;
    })
