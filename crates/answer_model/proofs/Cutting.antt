-- The zone cut that is found is the NS set nearest the apex.
use Rattle.std.proofs.Common.{◌≡◌, ◌≤◌, ◌⊎◌, ℕ, Bool, true, false, Some, None, Option, List, []}
use Rattle.std.proofs.Common.{◌∷◌}
use Rattle.std.proofs.Common.{length, refl, sym, subst, inl, inr, arith}
use Rattle.std.specs.Prelude.{cond, slice_get, ◌==◌}
use Rattle.std.specs.Bool.{Decides}
use Rattle.std.specs.List.{filter}
use Rattle.std.proofs.lemmas.Bool.Decides.{Decides-and}
use Rattle.dns_name.specs.OrderLaws.{same_labels-Decides}
use Rattle.dns_name.specs.Suffix.{EndsWith}
use Rattle.zone_model.specs.Types.{number_of}
use Rattle.zone_model.specs.RTypeRecord.{RType}
use Rattle.zone_model.specs.RTypeRecord.TheVariants.{A, Ns, Cname, Soa, Ptr, Mx, Txt}
use Rattle.zone_model.specs.RTypeRecord.TheVariants.{Aaaa, Srv, Spf, Caa}
use Rattle.zone_model.specs.RecordSetRecord.{RecordSet}
use Rattle.zone_model.specs.Existing.{IsAncestor}
use Rattle.zone_model.specs.Zones.{IsAmong, group, is_of_group}
use Rattle.answer_model.specs.Laws.{CutOrNone, CutsAreNearest, IsCutAbove}
use Rattle.answer_model.specs.Names.{is_below}
use Rattle.answer_model.specs.Sections.{cut_above, cut_at}
use Rattle.zone_model.specs.Hosted.{HostedZone}
use Rattle.answer_model.specs.Zones.{or_else}
use Rattle.answer_model.proofs.Naming.{below, ends_shorter, ends_under, splits}

module _ {X : Type 0} where
  -- the first of those that pass a test is among them and passes; where there is none, none does
  abbrev FirstOf : (X → Bool) → List X → Option X → Type 0
  FirstOf test xs None = (x : X) → IsAmong xs x → test x ≡ false
  FirstOf test xs (Some x) = IsAmong xs x × (test x ≡ true)

  behind : (test : X → Bool) (y : X) (ys : List X) (found : Option X) → test y ≡ false
      → FirstOf test ys found → FirstOf test (y ∷ ys) found
  behind test y ys None fails none = other
    where
      other : (x : X) → IsAmong (y ∷ ys) x → test x ≡ false
      other x (inl e) = subst (λ (z : X). test z ≡ false) e fails
      other x (inr there) = none x there
  behind test y ys (Some x) fails found = (inr found.0, found.1)

  one_more : (test : X → Bool) (y : X) (ys : List X) (b : Bool) → test y ≡ b
      → FirstOf test ys (slice_get (filter test ys) 0)
      → FirstOf test (y ∷ ys) (slice_get (cond b (y ∷ filter test ys) (filter test ys)) 0)
  one_more test y ys true e rest = (inl refl, e)
  one_more test y ys false e rest = behind test y ys (slice_get (filter test ys) 0) e rest

  first_of : (test : X → Bool) (xs : List X) → FirstOf test xs (slice_get (filter test xs) 0)
  first_of test [] = λ x there. absurd there
  first_of test (y ∷ ys) = one_more test y ys (test y) refl (first_of test ys)

is_ns : (rtype : RType) → Decides (number_of Ns == number_of rtype) (rtype ≡ Ns)
is_ns rtype = (
  to rtype,
  λ e. subst (λ (t : RType). (number_of Ns == number_of t)
      ≡ true) (sym e) refl,
)
  where
    to : (t : RType) → (number_of Ns == number_of t) ≡ true → t ≡ Ns
    to A h = absurd (grind (arith, h))
    to Ns h = refl
    to Cname h = absurd (grind (arith, h))
    to Soa h = absurd (grind (arith, h))
    to Ptr h = absurd (grind (arith, h))
    to Mx h = absurd (grind (arith, h))
    to Txt h = absurd (grind (arith, h))
    to Aaaa h = absurd (grind (arith, h))
    to Srv h = absurd (grind (arith, h))
    to Spf h = absurd (grind (arith, h))
    to Caa h = absurd (grind (arith, h))

of_group : (name : List (List ℕ)) (set : RecordSet)
    → Decides (is_of_group name Ns set) ((name ≡ set.name) × (set.rtype ≡ Ns))
of_group name set =
    Decides-and _ _ (same_labels-Decides name set.name) (is_ns set.rtype)

-- an NS set at a name that is below the apex; or there is none
abbrev IsCutAt : HostedZone → (name : List (List ℕ)) → Option RecordSet → Type 0
IsCutAt zone name None = (other : RecordSet) → IsCutAbove zone name other → name ≡ other.name → ⊥
IsCutAt zone name (Some cut) = IsCutAbove zone name cut × (name ≡ cut.name)

below_apex : (zone : HostedZone) (name : List (List ℕ)) (found : Option RecordSet)
    → IsAncestor name zone.apex
    → FirstOf (is_of_group name Ns) zone.sets found → IsCutAt zone name found
below_apex zone name None ancestor none = λ other cut same.
    let is_one = (of_group name other).1 (same, cut.servers) in
    let is_none = none other cut.there in
    absurd (grind (arith, is_one, is_none))
below_apex zone name (Some cut) ancestor found =
    let is_one = (of_group name cut).0 found.1 in (
      record {
        there = found.0;
        servers = is_one.1;
        above = ([], is_one.0);
        below_apex = subst (λ (n : List (List ℕ)). IsAncestor n zone.apex) is_one.0 ancestor;
      },
      is_one.0,
    )

at_name : (zone : HostedZone) (name : List (List ℕ)) → IsCutAt zone name (cut_at zone name)
at_name zone name = by (is_below name zone.apex) (below name zone.apex)
  where
    by : (b : Bool) → Decides b (IsAncestor name zone.apex)
        → IsCutAt zone name (cond b (slice_get (group zone.sets name Ns) 0) None)
    by true decides =
        below_apex zone name (slice_get (group zone.sets name Ns) 0) (decides.0 refl)
        (first_of (is_of_group name Ns) zone.sets)
    by false decides = λ other cut same. absurd (grind (
      arith,
      decides.1 (subst (λ (n : List (List ℕ)). IsAncestor n zone.apex) (sym same) cut.below_apex),
    ))

-- a cut above the parent is one above the name
of_parent : (zone : HostedZone) (label : List ℕ) (name : List (List ℕ)) (cut : RecordSet)
    → IsCutAbove zone name cut → IsCutAbove zone (label ∷ name) cut
of_parent zone label name cut is = record {
  there = is.there;
  servers = is.servers;
  above = ends_under label name cut.name is.above;
  below_apex = is.below_apex;
}

-- a cut above a name is at it, or above the parent
at_or_above : (zone : HostedZone) (label : List ℕ) (name : List (List ℕ)) (cut : RecordSet)
    → IsCutAbove zone (label ∷ name) cut
    → (label ∷ name ≡ cut.name) ⊎ IsCutAbove zone name cut
at_or_above zone label name cut is = elim (splits label name cut.name is.above) [
  | inl same ↦ inl same
  | inr ends ↦ inr (record {
    there = is.there;
    servers = is.servers;
    above = ends;
    below_apex = is.below_apex;
  })
]

joined : (zone : HostedZone) (label : List ℕ) (name : List (List ℕ)) (above here : Option RecordSet)
    → CutOrNone zone name above → IsCutAt zone (label ∷ name) here
    → CutOrNone zone (label ∷ name) (or_else above here)
joined zone label name (Some cut) here rest at = (
  of_parent zone label name cut rest.0,
  λ other is. elim (at_or_above zone label name other is) [
    | inl same ↦ let shorter = ends_shorter name cut.name rest.0.above in
        subst (λ (n : List (List ℕ)). length cut.name ≤ length n) same (omega (arith, shorter))
    | inr higher ↦ rest.1 other higher
  ],
)
joined zone label name None (Some cut) none at = (
  at.0,
  λ other is. elim (at_or_above zone label name other is) [
    | inl same ↦ subst (λ (n : List (List ℕ)). length cut.name ≤ length n) same
        (subst (λ (n : List (List ℕ)). length cut.name ≤ length n) (sym at.1) (omega arith))
    | inr higher ↦ absurd (none other higher)
  ],
)
joined zone label name None None none none_here = λ other is.
    elim (at_or_above zone label name other is) [
      | inl same ↦ none_here other is same
      | inr higher ↦ none other higher
    ]

at_root : (zone : HostedZone) (found : Option RecordSet) → IsCutAt zone [] found → CutOrNone zone [] found
at_root zone None none = λ other is. none other is (root other.name is.above)
  where
    root : (other : List (List ℕ)) → EndsWith [] other → [] ≡ other
    root other ([], e) = e
    root other (first ∷ more, e) = absurd (grind (arith, e))
at_root zone (Some cut) at = (
  at.0,
  λ other is. subst (λ (n : List (List ℕ)). length n ≤ length other.name) at.1 (omega arith),
)

pub cuts_are_nearest : CutsAreNearest
cuts_are_nearest zone [] = at_root zone (cut_at zone []) (at_name zone [])
cuts_are_nearest zone (label ∷ name) =
    joined zone label name (cut_above zone name) (cut_at zone (label ∷ name))
    (cuts_are_nearest zone name) (at_name zone (label ∷ name))
