-- One node made to meet its equation, and a pass over a cone.
use Rattle.std.proofs.Common.{◌≡◌, ◌≢◌, suc, Bool, true, false, List, [], ◌∷◌, ◌∙◌, sym, refl, subst, inl, inr}
use Rattle.std.specs.Prelude.{Contains}
use Rattle.std.proofs.lemmas.Bool.{false≢true}
use Rattle.check_model.proofs.Members.{further}
use Rattle.health_model.specs.Healthy.{Watched}
use Rattle.health_model.specs.Laws.{OneNode, OnePass}
use Rattle.health_model.specs.Nodes.{Evaluates, FeedersFirst, IsNode, Meets, Node, WorksOut, feeders, local}
use Rattle.health_model.specs.Statuses.{Report}
use Rattle.health_model.proofs.Local.{local_same}
use Rattle.health_model.proofs.Members.{at_first, first_or_rest, nothing_in}

-- what can't differ is equal
pub stable : (a b : Bool) → ((a ≡ b → ⊥) → ⊥) → a ≡ b
stable true true never = refl
stable false false never = refl
stable true false never = absurd (never (λ e. false≢true (sym e)))
stable false true never = absurd (never false≢true)

module _ (watched : Watched) (reports : List Report) (n : Node) (v w : Node → Bool)
    (made : Evaluates watched reports n v w) where
  -- a node that isn't fed by this one has its equation as before
  local_kept : (m : Node) → (Contains (feeders watched m) n → ⊥)
      → local watched reports w m ≡ local watched reports v m
  local_kept m never =
      local_same watched reports w v m
      (λ a fed. made.others a (λ same. never (subst (Contains (feeders watched m)) same fed)))

  pub met_itself : (Contains (feeders watched n) n → ⊥) → Meets watched reports w n
  met_itself never = made.its ∙ sym (local_kept n never)

  pub met_still : (m : Node) → m ≢ n → (Contains (feeders watched m) n → ⊥)
      → Meets watched reports v m → Meets watched reports w m
  met_still m ne never meets = made.others m ne ∙ meets ∙ sym (local_kept m never)

pub one_node : OneNode
one_node = record {
  its = λ watched reports n v w made never. met_itself watched reports n v w made never;
  others = λ watched reports n m v w made ne never meets.
      met_still watched reports n v w made m ne never meets;
}

module _ (watched : Watched) (reports : List Report) where
  -- what a node of the list feeds is in the list
  abbrev IsClosed : List Node → Type 0
  IsClosed rest = (a b : Node) → IsNode watched b → Contains rest a
      → Contains (feeders watched b) a → Contains rest b

  same_values : (v w : Node → Bool) → ((m : Node) → w m ≡ v m) → (n : Node)
      → Meets watched reports v n → Meets watched reports w n
  same_values v w same n meets =
      same n ∙ meets ∙ sym (local_same watched reports w v n (λ m fed. same m))

  step : (n : Node) (rest : List Node) (v u : Node → Bool)
      → FeedersFirst watched (n ∷ rest) → IsClosed (n ∷ rest)
      → Evaluates watched reports n v u
      → ((m : Node) → IsNode watched m → (Contains (n ∷ rest) m → ⊥) → Meets watched reports v m)
      → (m : Node) → IsNode watched m → (Contains rest m → ⊥) → Meets watched reports u m
  step n rest v u first closed made meets m is out =
      stable (u m) (local watched reports u m) never
    where
      other : (u m ≡ local watched reports u m → ⊥) → m ≢ n
      other differ same =
          differ (subst (λ (k : Node). u k ≡ local watched reports u k) (sym same)
          (met_itself watched reports n v u made (first.0 n (at_first n rest))))

      beyond : m ≢ n → Contains (n ∷ rest) m → ⊥
      beyond ne within = elim (first_or_rest n rest m within) [
        | inl same ↦ ne (sym same)
        | inr behind ↦ out behind
      ]

      never : (u m ≡ local watched reports u m → ⊥) → ⊥
      never differ =
          let ne = other differ in
          differ (met_still watched reports n v u made m ne
          (λ fed. beyond ne (closed n m is (at_first n rest) fed)) (meets m is (beyond ne)))

  mends : (rest : List Node) (v w : Node → Bool) → FeedersFirst watched rest → IsClosed rest
      → WorksOut watched reports rest v w
      → ((m : Node) → IsNode watched m → (Contains rest m → ⊥) → Meets watched reports v m)
      → (m : Node) → IsNode watched m → Meets watched reports w m
  mends [] v w first closed passed meets m is =
      same_values v w passed m (meets m is (nothing_in m))
  mends (n ∷ rest) v w first closed (u, made, passed) meets m is =
      mends rest u w first.1 later passed (step n rest v u first closed made meets) m is
    where
      later : (a b : Node) → IsNode watched b → Contains rest a
          → Contains (feeders watched b) a → Contains rest b
      later a b node in_rest fed =
          elim (first_or_rest n rest b (closed a b node (further n rest a in_rest) fed)) [
            | inl same ↦ absurd (first.0 a (further n rest a in_rest)
                (subst (λ (k : Node). Contains (feeders watched k) a) (sym same) fed))
            | inr behind ↦ behind
          ]

pub one_pass : OnePass
one_pass watched reports x cone is v w passed meets n node =
    mends watched reports cone v w is.in_order closed passed
    (λ m is_node out. meets m is_node (λ within. out ((is.members m).1 within))) n node
  where
    closed : (a b : Node) → IsNode watched b → Contains cone a
        → Contains (feeders watched b) a → Contains cone b
    closed a b is_node within fed =
        let r = (is.members a).0 within in
        (is.members b).1 (suc r.0, (is_node, (a, fed, r.1)))
