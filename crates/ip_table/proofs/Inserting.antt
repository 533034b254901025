-- A table with one more row.
use Rattle.std.proofs.Common.{◌≡◌, Bool, IsTrue, false, ◌↔◌, ℕ, ◌+◌, ◌<◌, ◌≤◌, List, [], ◌∷◌, ◌++◌, length, sym, ap, ◌∙◌, subst, arith}
use Rattle.std.specs.List.{zip}
use Rattle.std.proofs.lemmas.Bool.{false≢true}
use Rattle.std.proofs.lemmas.Slice.Zip.{length-zip}
use Rattle.ip_table.specs.declared.tree.Fork.{Fork}
use Rattle.ip_table.specs.Bits.{width_of}
use Rattle.ip_table.specs.Prefixes.{Prefix, IsPrefix}
use Rattle.ip_table.specs.Rows.{HasRow}
use Rattle.ip_table.specs.Tables.{IsTable}
use Rattle.ip_table.specs.Trees.{HasPrefix, IsTree, AllStand, IsGrown}
use Rattle.ip_table.proofs.Growth.{longer, all_prefixes, are_apart, tree_on, all_stand_on, zip_push}
use Rattle.ip_table.proofs.Located.{has_row}

module _ {V : Type 0} (ps : List Prefix) (vs : List V) (rows : List (Prefix × V)) (long : length vs
    ≡ length ps) (is : zip ps vs ≡ rows) where
  pub count : length rows ≡ length ps
  count = ap length (sym is) ∙ omega (arith, length-zip ps vs)

  pub kept : (qs : List Prefix) (ws : List V) → qs ≡ ps → ws ≡ vs → zip qs ws ≡ rows
  kept qs ws e f = ap (λ x. zip x ws) e ∙ ap (zip ps) f ∙ is

  pub pushed : (qs : List Prefix) (ws : List V) (p : Prefix) (v : V) → qs ≡ ps ++ p ∷ []
      → ws ≡ vs ++ v ∷ [] → zip qs ws ≡ rows ++ (p, v) ∷ []
  pushed qs ws p v e f = ap (λ x. zip x ws) e ∙ ap (zip (ps ++ p ∷ [])) f ∙ zip_push ps vs p v long
      ∙ ap (λ rs. rs ++ (p, v) ∷ []) is

  -- no row has the prefix, since a test has said so
  pub absent : (p : Prefix) (b : Bool) → b ≡ false → (IsTrue b ↔ HasRow rows p) → HasRow rows p → ⊥
  absent p b e test h = absurd (false≢true (sym e ∙ test.1 h))

  pub no_prefix : (p : Prefix) (b : Bool) → b ≡ false → (IsTrue b ↔ HasRow rows p)
      → (qs : List Prefix) → qs ≡ ps → HasPrefix qs p → ⊥
  no_prefix p b e test qs same h =
      absent p b e test (has_row ps vs rows long is p (subst (λ x. HasPrefix x p) same h))

module _ (ps : List Prefix) (count : ℕ) (n4 n6 : List Fork) (t : IsTable ps count n4 n6)
    (p : Prefix) (prefix : IsPrefix p.address p.length)
    (absent : HasPrefix ps p
    → ⊥) (room : length ps < 100000) (qs : List Prefix) (is : qs ≡ ps
    ++ p ∷ []) (now : ℕ) (more : now ≡ count + 1)
    (new : List Fork) (before : ℕ) (grown : IsGrown qs new (width_of p.address) before)
    (fewer : before ≤ length ps) where
  pub table_v4 : width_of p.address ≡ 32 → IsTable qs now new n6
  table_v4 family = record {
    prefixes = all_prefixes ps p qs is t.prefixes prefix;
    apart = are_apart ps p qs is t.apart absent;
    few = omega (arith, longer ps p qs is);
    values = omega (arith, longer ps p qs is, t.values);
    v4 = subst (λ w. IsTree qs new w) family grown.tree;
    v6 = tree_on ps p qs is n6 128 t.v6;
    all_v4 = subst (λ w. AllStand qs new w (length qs)) family grown.all;
    all_v6 = all_stand_on ps p qs is n6 128 (λ e. absurd (omega (arith, e, family))) t.all_v6;
    few_v4 = omega (arith, grown.long, fewer, longer ps p qs is);
    few_v6 = omega (arith, t.few_v6, longer ps p qs is);
  }

  pub table_v6 : width_of p.address ≡ 128 → IsTable qs now n4 new
  table_v6 family = record {
    prefixes = all_prefixes ps p qs is t.prefixes prefix;
    apart = are_apart ps p qs is t.apart absent;
    few = omega (arith, longer ps p qs is);
    values = omega (arith, longer ps p qs is, t.values);
    v4 = tree_on ps p qs is n4 32 t.v4;
    v6 = subst (λ w. IsTree qs new w) family grown.tree;
    all_v4 = all_stand_on ps p qs is n4 32 (λ e. absurd (omega (arith, e, family))) t.all_v4;
    all_v6 = subst (λ w. AllStand qs new w (length qs)) family grown.all;
    few_v4 = omega (arith, t.few_v4, longer ps p qs is);
    few_v6 = omega (arith, grown.long, fewer, longer ps p qs is);
  }
