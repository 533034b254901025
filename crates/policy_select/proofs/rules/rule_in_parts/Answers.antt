use Rattle.std.proofs.Common.{◌≡◌, ◌∙◌, ◌∷◌, [], ℕ, Some, ap, refl, sym}
use Rattle.policy_select.proofs.Pieces.{blocks_by, failover_is, latency_by, place_by, place_is, role_by, several_by, simple_by, weight_by, weighted_is}
use Rattle.policy_select.proofs.rules.rule_in_parts.Goals as goal

pub returns-in-0 : goal.returns-in-0
returns-in-0 c set is =
    simple_by c.args.front.now c.args.next.now c.behind_ident-said.result.now set c.in-Some.size is
    c.behind_ident-said.ensures
    (λ all n e. c.in-Some.ensures all n e ∙ ap (λ (k : ℕ). k ∷ c.in-Some.size ∷ []) c.in-0.is)

pub returns-in-Some-octet_behind : goal.returns-in-Some-octet_behind
returns-in-Some-octet_behind c set is =
    let it = weight_by c.args.front.now c.args.next.now c.behind_ident-said.result.now set
    c.in-Some.size is c.behind_ident-said.ensures
    (λ all n e. c.in-Some.ensures all n e ∙ ap (λ (k : ℕ). k ∷ c.in-Some.size ∷ []) c.in-1.is) in
    let same : c.in-Some-octet_behind.weight ≡ it.0 =
    c.in-Some-octet_behind.ensures [] is.rest it.0 it.1 refl it.3 in
    weighted_is set.routing c.in-Some-octet_behind.weight (it.2 ∙ ap Some (sym same))

pub returns-in-Some-role_behind : goal.returns-in-Some-role_behind
returns-in-Some-role_behind c set is =
    let it = role_by c.args.front.now c.args.next.now c.behind_ident-said.result.now set
    c.in-Some.size is c.behind_ident-said.ensures
    (λ all n e. c.in-Some.ensures all n e ∙ ap (λ (k : ℕ). k ∷ c.in-Some.size ∷ []) c.in-2.is) in
    let same : c.in-Some-role_behind.role ≡ it.0 =
    c.in-Some-role_behind.ensures [] is.rest it.0 it.1 refl it.3 in
    failover_is set.routing c.in-Some-role_behind.role (it.2 ∙ ap Some (sym same))

pub returns-in-Some-place_whole : goal.returns-in-Some-place_whole
returns-in-Some-place_whole c set is =
    let it = place_by c.args.front.now c.args.next.now c.behind_ident-said.result.now set
    c.in-Some.size is c.behind_ident-said.ensures
    (λ all n e. c.in-Some.ensures all n e ∙ ap (λ (k : ℕ). k ∷ c.in-Some.size ∷ []) c.in-3.is) in
    let same : c.in-Some-place_whole.place ≡ it.0 =
    c.in-Some-place_whole.ensures is.rest it.0 it.1 it.3 it.4 in
    place_is set.routing c.in-Some-place_whole.place (it.2 ∙ ap Some (sym same))

pub returns-in-4 : goal.returns-in-4
returns-in-4 c set is =
    latency_by c.args.front.now c.args.next.now c.behind_ident-said.result.now set c.in-Some.size is
    c.behind_ident-said.ensures
    (λ all n e. c.in-Some.ensures all n e ∙ ap (λ (k : ℕ). k ∷ c.in-Some.size ∷ []) c.in-4.is)

pub returns-in-5 : goal.returns-in-5
returns-in-5 c set is =
    several_by c.args.front.now c.args.next.now c.behind_ident-said.result.now set c.in-Some.size is
    c.behind_ident-said.ensures
    (λ all n e. c.in-Some.ensures all n e ∙ ap (λ (k : ℕ). k ∷ c.in-Some.size ∷ []) c.in-5.is)

pub returns-in-6 : goal.returns-in-6
returns-in-6 c set is =
    blocks_by c.args.front.now c.args.next.now c.behind_ident-said.result.now set c.in-Some.size is
    c.behind_ident-said.ensures
    (λ all n e. c.in-Some.ensures all n e ∙ ap (λ (k : ℕ). k ∷ c.in-Some.size ∷ []) c.in-6.is)
