-- Which queries are settled, case by case.
use Rattle.std.proofs.Common.{◌≡◌, ℕ, Bool, true, false, List, [], ◌∷◌, Option, None, Some, length, ◌<◌, refl, sym, ap, ◌∙◌, subst, arith}
use Rattle.std.specs.Prelude.{◌↔◌, IfSome, IsSome}
use Rattle.dns_message.specs.Judge.{Judges}
use Rattle.dns_message.specs.Laws.{OneJudgement}
use Rattle.dns_message.specs.declared.query.Query.{Query}
use Rattle.dns_message.specs.declared.query.QueryRead.{QueryRead}
use Rattle.dns_message.specs.declared.query.QueryRead.TheVariants as read
use Rattle.query_engine.specs.Reply.{Served, is_refused}
use Rattle.query_engine.specs.Sections.{asked_group, cut_above}
use Rattle.rdata_layout.specs.declared.types.RType.TheVariants as rtype
use Rattle.record_set.specs.declared.sets.RecordSet.{RecordSet}
use Rattle.zone_lookup.specs.Names.{source}
use Rattle.zone_lookup.specs.Zones.{zone_for}
use Rattle.zone_model.specs.Hosted.{HostedZone}
use Rattle.zone_model.specs.Zones.{group}
use Rattle.settled_replies.specs.Settling.{CanSettle, CanSettleBelow, CanSettleFrom, CanSettleIn, CanSettleQuery, CanSettleSets, IsSureFor}

some_same : {X : Type 0} {x y : X} → Some x ≡ Some y → x ≡ y
some_same e = cc

-- one set stands at a place
pub one_at : {X : Type 0} (found : Option X) (x y : X) → found ≡ Some x → found ≡ Some y → x ≡ y
one_at found x y at other = some_same (sym at ∙ other)

-- what is said of a set that is held
pub of_held : {X : Type 0} (P : X → Type 0) (held : Option X) (x : X) → held ≡ Some x → IfSome held P → P x
of_held P held x is said = subst (λ o. IfSome o P) is said

-- what follows where there is something
pub where_some : {P : Type 0} (found : Option ℕ) → (IsSome found → P) → IfSome found (λ n. P)
where_some None on = tt
where_some (Some n) on = on refl

-- both hold
pub hold : {P Q : Type 0} → P → Q → P ↔ Q
hold p q = (λ other. q, λ other. p)

-- neither holds
pub fail : {P Q : Type 0} → (P → ⊥) → (Q → ⊥) → P ↔ Q
fail p q = (λ its. absurd (p its), λ its. absurd (q its))

-- nothing is found
pub none_found : false ≡ true → ⊥
none_found is = absurd (grind (arith, is))

module _ (served : Served) (query : Query) (zone : HostedZone) where
  -- ---- sets

  pub by_one : (first : RecordSet) (others typed cnames : List RecordSet) → typed ≡ first ∷ others
      → IsSureFor served query zone first (first ∷ others) → CanSettleSets served query zone typed cnames
  by_one first others typed cnames are its =
      subst (λ (sets : List RecordSet). CanSettleSets served query zone sets cnames) (sym are) its

  pub of_one : (first : RecordSet) (others typed cnames : List RecordSet) → typed ≡ first ∷ others
      → CanSettleSets served query zone typed cnames → IsSureFor served query zone first (first ∷ others)
  of_one first others typed cnames are its =
      subst (λ (sets : List RecordSet). CanSettleSets served query zone sets cnames) are its

  pub no_sets : (typed cnames : List RecordSet) → typed ≡ [] → cnames ≡ [] → CanSettleSets served query zone typed cnames
  no_sets typed cnames none are =
      subst (λ (sets : List RecordSet). CanSettleSets served query zone sets cnames) (sym none) are

  pub cnames_lead : (typed cnames : List RecordSet) → typed ≡ [] → 0 < length cnames
      → CanSettleSets served query zone typed cnames → ⊥
  cnames_lead typed cnames none some its =
      let are = subst (λ (sets : List RecordSet). CanSettleSets served query zone sets cnames) none its in
      let count = ap (λ (sets : List RecordSet). length sets) are in absurd (omega (arith, some, count))

  -- ---- a name

  pub at_cut : (cut : Option RecordSet) (set : RecordSet) → cut ≡ Some set → CanSettleBelow served query zone cut
  at_cut cut set is = subst (λ (o : Option RecordSet). CanSettleBelow served query zone o) (sym is) tt

  pub absent_name : (cut : Option RecordSet) → cut ≡ None → source zone.sets query.name ≡ None
      → CanSettleBelow served query zone cut
  absent_name cut none absent =
      subst (λ (o : Option RecordSet). CanSettleBelow served query zone o) (sym none)
      (subst (λ (from : Option (List (List ℕ))). CanSettleFrom served query zone from) (sym absent) tt)

  -- by the sets that are taken for it
  pub taken : {P : Type 0} (cut : Option RecordSet) (from : List (List ℕ)) → cut ≡ None
      → source zone.sets query.name ≡ Some from
      → (P ↔ CanSettleSets served query zone (asked_group zone.sets from query.qtype) (group zone.sets from rtype.Cname))
      → P ↔ CanSettleBelow served query zone cut
  taken {P} cut from none is its =
      subst (λ (o : Option RecordSet). P ↔ CanSettleBelow served query zone o) (sym none)
      (subst (λ (f : Option (List (List ℕ))). P ↔ CanSettleFrom served query zone f) (sym is) its)

-- ---- a query

module _ (served : Served) (query : Query) where
  pub in_zone : {P : Type 0} (zone : HostedZone) → is_refused query ≡ false → zone_for served.zones query.name ≡ Some zone
      → (P ↔ CanSettleBelow served query zone (cut_above zone query.name)) → P ↔ CanSettleQuery served query
  in_zone {P} zone heard is its = (
    λ found. (heard, subst (λ (o : Option HostedZone). CanSettleIn served query o) (sym is) (its.0 found)),
    λ can. its.1 (subst (λ (o : Option HostedZone). CanSettleIn served query o) is can.1),
  )

  pub in_none : zone_for served.zones query.name ≡ None → CanSettleQuery served query → ⊥
  in_none none can = subst (λ (o : Option HostedZone). CanSettleIn served query o) none can.1

  pub refused : is_refused query ≡ true → CanSettleQuery served query → ⊥
  refused is can = absurd (grind (arith, sym is ∙ can.0))

-- ---- a packet

-- what a query is, or what else was read
abbrev pub queried : QueryRead → Option Query
queried read.Silent = None
queried (read.Bad id opcode rd rcode) = None
queried (read.BadVersion query) = None
queried (read.Query query) = Some query

some_query : {query other : Query} → Some query ≡ Some other → query ≡ other
some_query e = cc

module _ (one : OneJudgement) (served : Served) (packet : List ℕ) where
  pub of_query : {P : Type 0} (query : Query) → Judges packet (read.Query query)
      → (P ↔ CanSettleQuery served query) → P ↔ CanSettle served packet
  of_query {P} query judges its = (
    λ found. (query, judges, its.0 found),
    λ can. its.1 (subst (λ (q : Query). CanSettleQuery served q)
        (some_query (ap queried (one packet (read.Query can.0) (read.Query query) can.1 judges))) can.2),
  )

  pub no_query : (judged : QueryRead) → Judges packet judged → queried judged ≡ None → CanSettle served packet → ⊥
  no_query judged judges none can =
      absurd (grind (arith, ap queried (one packet (read.Query can.0) judged can.1 judges) ∙ none))

  pub no_bad : (id opcode : ℕ) (rd : Bool) (rcode : ℕ) → Judges packet (read.Bad id opcode rd rcode)
      → CanSettle served packet → ⊥
  no_bad id opcode rd rcode judges = no_query (read.Bad id opcode rd rcode) judges refl
