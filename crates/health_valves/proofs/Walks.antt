-- Walks along feeds, depth first.
use Rattle.std.proofs.Common.{◌≡◌, ◌<◌, ◌≤◌, ◌+◌, ◌-◌, ℕ, zero, suc, Bool, true, false, List, [], ◌∷◌, ◌++◌, length, set, get_or-set_other, sub-one, arith, refl, ap, sym, ◌∙◌, ◌⊎◌, inl, inr}
use Rattle.std.specs.Prelude.{if◌then◌else◌, reverse, slice_index_or}
use Rattle.std.proofs.lemmas.List.{reverse-append}
use Rattle.std.specs.List.{Contains}
use Rattle.std.proofs.lemmas.Bool.{cases_eq, false≢true}
use Rattle.health_valves.proofs.Members.{in_head, in_tail, in_none, in_cases}
use Rattle.health_valves.specs.Valves.{Net, IsLaid, Feeds, FedBy, BothWays, fed_by, value_in}
use Rattle.health_valves.specs.Walk.{Leads, IsAbove, InCone, FeedersFirst, IsRanked, PathsEnd, IsShallow}
use Rattle.health_valves.specs.Listed.{IsListed}
use Rattle.health_valves.specs.declared.valves.ValveFeeds.{ValveFeeds}
use Rattle.health_valves.proofs.Times.{times_in, in_times}
use Rattle.health_valves.proofs.Marks.{set_again, mark_here, mark_kept}

-- one step further there is one node fewer to go
pub deeper : (feeds : ℕ → ℕ → Type 0) (depth : ℕ) (these : ℕ → Type 0) (x : ℕ) → IsShallow feeds depth these → these x → (0 < depth) × IsShallow feeds (depth - 1) (feeds x)
unfolding IsShallow
deeper feeds zero these x h i = absurd (h x i)
deeper feeds (suc n) these x h i = (omega arith, rw sub-one (h x i))

-- paths that end bound the depth
ended : (feeds : ℕ → ℕ → Type 0) (n : ℕ) (these : ℕ → Type 0) → ((x y : ℕ) → these x → Leads feeds n x y → ⊥) → IsShallow feeds n these
unfolding IsShallow
ended feeds zero these h = λ x i. h x x i refl
ended feeds (suc n) these h = λ x i. ended feeds n (feeds x) (λ z y j l. h x y i (z, j, l))

pub shallow : (feeds : ℕ → ℕ → Type 0) (n : ℕ) (these : ℕ → Type 0) → PathsEnd feeds n → IsShallow feeds n these
unfolding PathsEnd
shallow feeds n these h = ended feeds n these (λ x y i l. h x y l)

-- no node feeds itself
pub not_itself : (feeds : ℕ → ℕ → Type 0) (n x : ℕ) → PathsEnd feeds n → feeds x x → ⊥
unfolding PathsEnd
not_itself feeds n x h f = h x x (round n)
  where
    round : (k : ℕ) → Leads feeds k x x
    round zero = refl
    round (suc k) = (x, f, round k)

-- ranks make paths end
climbs : (feeds : ℕ → ℕ → Type 0) (rank : ℕ → ℕ) (bound : ℕ) → IsRanked feeds rank bound → (k x y : ℕ) → Leads feeds k x y → rank x + k ≤ rank y
climbs feeds rank bound is zero x y l = let e = ap rank l in omega arith
climbs feeds rank bound is (suc k) x y l = let r = is.rises x l.0 l.1 in let h = climbs feeds rank bound is k l.0 y l.2 in omega arith

pub ranked_ends : (feeds : ℕ → ℕ → Type 0) (rank : ℕ → ℕ) (bound : ℕ) → IsRanked feeds rank bound → PathsEnd feeds bound
unfolding PathsEnd
ranked_ends feeds rank bound is = λ x y l. let h = climbs feeds rank bound is bound x y l in let b = is.below y in omega arith

-- a node that is marked is listed: it stays so, or it comes to the front
abbrev pub with_node : List ℕ → List Bool → ℕ → List ℕ
with_node walk marks valve = if value_in marks valve then walk else valve ∷ walk

more : (feeds : ℕ → ℕ → Type 0) (walk : List ℕ) (marks : List Bool) (valve : ℕ) (b : Bool) → value_in marks valve ≡ b → valve < length marks → IsListed feeds walk marks → (PathsEnd feeds 64 → (y : ℕ) → feeds valve y → Contains walk y) → IsListed feeds (if b then walk else valve ∷ walk) (set marks valve true)
more feeds walk marks valve true e l is below = rw (set_again marks valve e) is
more feeds walk marks valve false e l is below = record {
  listed = λ y m. elim (cases_eq y valve) [ inl same ↦ rw same (in_head valve walk) | inr ne ↦ in_tail valve y walk (is.listed y (sym (get_or-set_other marks valve y true false ne) ∙ m)) ];
  marked = λ y i. elim (in_cases valve y walk i) [ inl same ↦ rw (sym same) (mark_here marks valve l) | inr j ↦ mark_kept marks valve y l (is.marked y j) ];
  once = (λ i. false≢true (sym e ∙ is.marked valve i), is.once);
  first = λ ends. (below ends, is.first ends);
}

pub listed_more : (feeds : ℕ → ℕ → Type 0) (walk : List ℕ) (marks : List Bool) (valve : ℕ) → valve < length marks → IsListed feeds walk marks → (PathsEnd feeds 64 → (y : ℕ) → feeds valve y → Contains walk y) → IsListed feeds (with_node walk marks valve) (set marks valve true)
listed_more feeds walk marks valve = more feeds walk marks valve (value_in marks valve) refl

kept : (walk : List ℕ) (valve y : ℕ) (b : Bool) → Contains walk y → Contains (if b then walk else valve ∷ walk) y
kept walk valve y true i = i
kept walk valve y false i = in_tail valve y walk i

pub still : (walk : List ℕ) (marks : List Bool) (valve y : ℕ) → Contains walk y → Contains (with_node walk marks valve) y
still walk marks valve y = kept walk valve y (value_in marks valve)

either : (walk : List ℕ) (valve y : ℕ) (b : Bool) → Contains (if b then walk else valve ∷ walk) y → (valve ≡ y) ⊎ Contains walk y
either walk valve y true i = inr i
either walk valve y false i = in_cases valve y walk i

pub came : (walk : List ℕ) (marks : List Bool) (valve y : ℕ) → Contains (with_node walk marks valve) y → (valve ≡ y) ⊎ Contains walk y
came walk marks valve y = either walk valve y (value_in marks valve)

-- what is above the nodes that x feeds is above x
pub above_fed : (feeds : ℕ → ℕ → Type 0) (x y : ℕ) (fed : List ℕ) → ((z : ℕ) → Contains fed z → feeds x z) → InCone feeds fed y → IsAbove feeds x y
above_fed feeds x y fed h c = (suc c.2.0, (c.0, h c.0 c.1, c.2.1))

-- what a listed node feeds is listed
closed : (feeds : ℕ → ℕ → Type 0) (walk : List ℕ) (x y : ℕ) → FeedersFirst feeds walk → Contains walk x → feeds x y → Contains walk y
closed feeds [] x y h i f = absurd (in_none x i)
closed feeds (n ∷ rest) x y h i f = elim (in_cases n x rest i) [
  | inl e ↦ in_tail n y rest (h.0 y (rw e f))
  | inr j ↦ in_tail n y rest (closed feeds rest x y h.1 j f)
]

pub all_above : (feeds : ℕ → ℕ → Type 0) (walk : List ℕ) → FeedersFirst feeds walk → (k x y : ℕ) → Contains walk x → Leads feeds k x y → Contains walk y
all_above feeds walk h zero x y i l = rw l i
all_above feeds walk h (suc k) x y i l = all_above feeds walk h k l.0 y (closed feeds walk x l.0 h i l.1) l.2

module _ (net : Net) (rows : List ValveFeeds) (feeds : BothWays) (laid : IsLaid net rows feeds) where
  -- what x feeds is in its list
  pub lists : (x y : ℕ) → y < net.size → Feeds net x y → FedBy feeds x y
  lists x y b i = let t = in_times x (net.condition y).feeders i in let r = laid.reversed x y b in times_in y (fed_by feeds x) (omega arith)

  -- what is in its list it feeds
  pub listed_feeds : (x y : ℕ) → FedBy feeds x y → Feeds net x y
  listed_feeds x y i = let t = in_times y (fed_by feeds x) i in let r = laid.reversed x y (laid.within x y i) in times_in x (net.condition y).feeders (omega arith)

  -- a path along the edges is one in the net
  pub leads_net : (k x y : ℕ) → Leads (FedBy feeds) k x y → Leads (Feeds net) k x y
  leads_net zero x y l = l
  leads_net (suc k) x y l = (l.0, listed_feeds x l.0 l.1, leads_net k l.0 y l.2)

  pub edges_end : (n : ℕ) → PathsEnd (Feeds net) n → PathsEnd (FedBy feeds) n
  unfolding PathsEnd
  edges_end n h = λ x y l. h x y (leads_net n x y l)

  -- a valve that feeds one has a row
  there : (x y : ℕ) → FedBy feeds x y → x < net.size
  there x y i = let size = laid.valves in let b = has_list feeds.fed x i in omega arith
    where
      has_list : (ls : List (List ℕ)) (o : ℕ) → Contains (slice_index_or ls o []) y → o < length ls
      has_list [] o w = absurd (in_none y w)
      has_list (l ∷ ls) zero w = omega arith
      has_list (l ∷ ls) (suc o) w = let r = has_list ls o w in omega arith

  -- and the other way
  pub leads_edges : (k x y : ℕ) → y < net.size → Leads (Feeds net) k x y → (x < net.size) × Leads (FedBy feeds) k x y
  leads_edges zero x y b l = (rw (sym l) b, l)
  leads_edges (suc k) x y b l =
      let r = leads_edges k l.0 y b l.2 in
      let i = lists x l.0 r.0 l.1 in
      (there x l.0 i, (l.0, i, r.1))

  -- what stands above a valve is a valve
  pub leads_within : (k x y : ℕ) → x < net.size → Leads (FedBy feeds) k x y → y < net.size
  leads_within zero x y b l = rw l b
  leads_within (suc k) x y b l = leads_within k l.0 y (laid.within x l.0 l.1) l.2

  pub cone_net : (starts : List ℕ) (y : ℕ) → InCone (FedBy feeds) starts y → InCone (Feeds net) starts y
  cone_net starts y c = (c.0, c.1, (c.2.0, leads_net c.2.0 c.0 y c.2.1))

  pub cone_edges : (starts : List ℕ) (y : ℕ) → y < net.size → InCone (Feeds net) starts y → InCone (FedBy feeds) starts y
  cone_edges starts y b c = (c.0, c.1, (c.2.0, (leads_edges c.2.0 c.0 y b c.2.1).1))

-- before the walk nothing is listed
pub from_none : (order : List ℕ) (y : ℕ) (P : Type 0) → order ≡ [] → Contains (reverse order) y ⊎ P → P
from_none order y P e (inl i) = absurd (in_none y (rw e at i))
from_none order y P e (inr p) = p

-- the last of a list is the first from its end
pub from_end : (order rest : List ℕ) (x : ℕ) → order ≡ rest ++ x ∷ [] → reverse order ≡ x ∷ reverse rest
from_end order rest x e = ap reverse e ∙ reverse-append rest (x ∷ [])

pub none_listed : (feeds : ℕ → ℕ → Type 0) (order : List ℕ) (marks : List Bool) → order ≡ [] → ((y : ℕ) → value_in marks y ≡ false) → IsListed feeds (reverse order) marks
none_listed feeds order marks e un = rw e (record {
  listed = λ y m. absurd (false≢true (sym (un y) ∙ m));
  marked = λ y i. absurd (in_none y i);
  once = tt;
  first = λ ends. tt;
})
