-- A set's name and type told by the octets that stand in front.
use Rattle.std.proofs.Common.{◌≡◌, ℕ, ◌/◌, ◌%◌, List, ◌++◌, take, drop, length, ap, ◌∙◌, sym, arith, append_assoc, subst}
use Rattle.std.specs.Prelude.{◌↔◌}
use Rattle.std.specs.List.{AllByRecursion}
use Rattle.std.proofs.lemmas.List.{take-append-drop}
use Rattle.std.proofs.Math.Seq.{take-append_seam, drop-append_seam}
use Rattle.octets.specs.Numbers.{two_octets}
use Rattle.set_search.specs.Labels.{IsRawLabel, wire}
use Rattle.set_search.specs.NamesOfDnsName.{IsName}
use Rattle.set_search.specs.Stored.{labels_of}
use Rattle.set_search.proofs.Labels.{labels_of-wire}
use Rattle.set_search.specs.Types.{number_of}
use Rattle.set_search.specs.RTypeRecord.{RType}
use Rattle.set_search.specs.RecordSetRecord.{RecordSet}
use Rattle.set_scratch.specs.Heads.{policy_front}
use Rattle.set_scratch.specs.Laws.{KeysAreInFront}
use Rattle.set_scratch.specs.Spelling.{Spells}
use Rattle.set_search.proofs.Ordered.{one_number}

-- octets that begin with two names begin with one
one_front : (octets rest more : List ℕ) (labels others : List (List ℕ)) → IsName labels → IsName others
    → octets ≡ wire labels ++ rest → octets ≡ wire others ++ more → labels ≡ others
one_front octets rest more labels others is others_are e f =
    sym (ap labels_of e ∙ labels_of-wire labels rest is.raw.each)
    ∙ (ap labels_of f ∙ labels_of-wire others more others_are.raw.each)

-- the names are one, where the octets of one stand in front of what the other begins
pub above_alike : (octets more : List ℕ) (labels others : List (List ℕ))
    → AllByRecursion IsRawLabel labels → AllByRecursion IsRawLabel others
    → octets ≡ wire labels ++ more → take (length (wire others)) octets ≡ wire others
    → labels ≡ others
above_alike octets more labels others each other_each e h =
    let n = length (wire others) in
    sym (ap labels_of e ∙ labels_of-wire labels more each)
    ∙ (ap labels_of (sym (take-append-drop n octets) ∙ ap (λ xs. xs ++ drop n octets) h)
    ∙ labels_of-wire others (drop n octets) other_each)

-- octets that begin with a name begin with the octets of that name alone
pub named : (octets rest : List ℕ) (labels name : List (List ℕ)) → IsName labels → IsName name
    → octets ≡ wire labels ++ rest
    → (take (length (wire name)) (drop 0 octets) ≡ wire name) ↔ (labels ≡ name)
named octets rest labels name is its e = (
  (λ h. one_front octets rest (drop (length (wire name)) octets) labels name is its e
      (sym (take-append-drop (length (wire name)) octets)
      ∙ ap (λ xs. xs ++ drop (length (wire name)) octets) h)),
  λ same. ap (λ xs. take (length (wire name)) xs) (e ∙ ap (λ n. wire n ++ rest) same)
      ∙ take-append_seam (wire name) rest,
)

two_alike : (a b : ℕ) → two_octets a ≡ two_octets b → a ≡ b
two_alike a b e =
    let high : a / 256 ≡ b / 256 = cc in
    let low : a % 256 ≡ b % 256 = cc in
    omega (arith, high, low)

-- behind a name the type is told
pub typed : (octets rest : List ℕ) (name : List (List ℕ)) (rtype other : RType)
    → octets ≡ wire name ++ (two_octets (number_of rtype) ++ rest)
    → (take 2 (drop (length (wire name)) octets) ≡ two_octets (number_of other)) ↔ (rtype ≡ other)
typed octets rest name rtype other e =
    let behind : drop (length (wire name)) octets ≡ two_octets (number_of rtype) ++ rest =
    ap (drop (length (wire name))) e
    ∙ drop-append_seam (wire name) (two_octets (number_of rtype) ++ rest) in (
      (λ h. one_number rtype other
          (two_alike (number_of rtype) (number_of other) (sym (ap (take 2) behind) ∙ h))),
      λ same. ap (take 2) behind ∙ ap (λ t. two_octets (number_of t)) same,
    )

-- the octets of a set: its name, its type, and more
pub record IsFronted (octets : List ℕ) (set : RecordSet) : Type 0 where
  pub rest : List ℕ
  pub more : List ℕ
  pub named : octets ≡ wire set.name ++ rest
  pub typed : octets ≡ wire set.name ++ (two_octets (number_of set.rtype) ++ more)

pub fronted : KeysAreInFront → (set : RecordSet) (octets : List ℕ) → Spells octets set
    → IsFronted octets set
fronted keys set octets spells =
    let key = keys set spells.is in
    let two = two_octets (number_of set.rtype) in
    let policy = policy_front set.routing in
    let e : octets ≡ wire set.name ++ (two ++ (policy ++ key.rest)) =
    spells.same ∙ key.in_front ∙ append_assoc (wire set.name) (two ++ policy) key.rest
    ∙ ap (λ xs. wire set.name ++ xs) (append_assoc two policy key.rest) in
    record { rest = two ++ (policy ++ key.rest); more = policy ++ key.rest; named = e; typed = e }

module _ (keys : KeysAreInFront) (set : RecordSet) (octets : List ℕ) (spells : Spells octets set)
    (name : List (List ℕ)) (piece : List ℕ) where
  -- the octets of a name stand in front of those of a set of this name
  pub its_name : IsName name → piece ≡ wire name
      → (take (length piece) (drop 0 octets) ≡ piece) ↔ (set.name ≡ name)
  its_name is e =
      let front = fronted keys set octets spells in
      subst (λ (p : List ℕ). (take (length p) (drop 0 octets) ≡ p) ↔ (set.name ≡ name)) (sym e)
      (named octets front.rest set.name name spells.is.name is front.named)

  -- and those of its type behind them
  pub its_type : piece ≡ wire name → set.name ≡ name → (rtype : RType) (number : List ℕ)
      → number ≡ two_octets (number_of rtype)
      → (take (length number) (drop (length piece) octets) ≡ number) ↔ (set.rtype ≡ rtype)
  its_type e same rtype number is =
      let front = fronted keys set octets spells in
      let at : length (wire set.name) ≡ length piece =
      ap (λ n. length (wire n)) same ∙ ap length (sym e) in
      subst (λ (p : List ℕ). (take (length p) (drop (length piece) octets) ≡ p)
      ↔ (set.rtype ≡ rtype)) (sym is)
      (subst (λ n. (take 2 (drop n octets) ≡ two_octets (number_of rtype)) ↔ (set.rtype ≡ rtype)) at
      (typed octets front.more set.name set.rtype rtype front.typed))
