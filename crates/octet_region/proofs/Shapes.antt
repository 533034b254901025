-- What a put, a free and a new cell leave of the shape of all chains.
use Rattle.std.proofs.Common.{◌≡◌, ℕ, zero, suc, ◌+◌, ◌-◌, ◌*◌, ◌<◌, ◌≤◌, List, length, ap, sym, refl, subst, ◌∙◌, arith, inl, inr, Some}
use Rattle.octet_region.specs.Cells.{cells_for}
use Rattle.octet_region.specs.Chains.{behind_by, jump, Ends, gather, Walk}
use Rattle.octet_region.specs.Shape.{octets_by, IsLive, IsShaped}
use Rattle.octet_region.proofs.Few.{walk_few}
use Rattle.octet_region.proofs.Picks.{pick, pick_yes, pick_no, at_or_not, free_or_not}
use Rattle.octet_region.proofs.Told.{ends_more, walk_ends, gather_fuel, gather_same, told, collect_same}
use Rattle.octet_region.proofs.Written.{collect}
use Rattle.octet_region.proofs.Walks.{walk_front, walk_back, walk_join, walk_last, walk_map, jump_same, jump_suc}

module _ (number begin : ℕ → ℕ) (size free spare : ℕ) (s : IsShaped number begin size free spare) where
  abbrev next : ℕ → ℕ
  next = behind_by number

  -- no chain of a handle begins where the free ones do
  pub unmarked : 0 < spare → begin free ≡ 1 → ⊥
  unmarked some e =
      let one : spare ≡ suc (spare - 1) = omega (arith, some) in
      let w : Walk s.owner s.rank number size 0 0 (suc (spare - 1)) free =
      subst (λ k. Walk s.owner s.rank number size 0 0 k free) one s.unused in
      let h = s.live free e in
      omega (arith, w.1, h.walk.1)

  -- a chain that is live has its end among all cells
  pub live_ends : (c : ℕ) → begin c ≡ 1 → Ends number size size c
  live_ends c e =
      let h = s.live c e in
      ends_more number size (suc h.more) size c
      (walk_few s.owner s.rank number size (suc c) (suc h.more) c h.walk)
      (walk_ends s.owner s.rank number size (suc c) h.more c h.walk h.last)

  -- as many cells are free as there are, at most
  pub spare_few : spare ≤ size
  spare_few = walk_few s.owner s.rank number size 0 spare free s.unused

  -- a live handle's octets are the same where its cells are
  live_same : (octets changed : ℕ → List ℕ) (other : ℕ → ℕ) (n c : ℕ) → begin c ≡ 1
      → ((d : ℕ) → d < size → s.owner d ≡ suc c → other d ≡ number d)
      → ((d : ℕ) → d < size → s.owner d ≡ suc c → changed d ≡ octets d)
      → gather changed other n c (other c - 32) ≡ gather octets number n c (number c - 32)
  live_same octets changed other n c e links same =
      let h = s.live c e in
      gather_same s.owner s.rank number size (suc c) octets changed other links same n h.more c h.walk h.last

  -- the same of what a handle gives
  by_begin : (octets changed : ℕ → List ℕ) (other : ℕ → ℕ) (n m c b a : ℕ) → b ≤ 1 → a ≡ b
      → (b ≡ 1 → gather changed other m c (other c - 32) ≡ gather octets number n c (number c - 32))
      → octets_by changed other m c a ≡ octets_by octets number n c b
  by_begin octets changed other n m c zero a few e same = ap (λ k. octets_by changed other m c k) e
  by_begin octets changed other n m c (suc b) a few e same =
      ap (λ k. octets_by changed other m c k) e ∙ ap Some (same (omega (arith, few)))

  module _ (m len : ℕ) (links begins : ℕ → ℕ) (enough : suc m ≤ spare) (count : suc m ≡ cells_for len)
      (linked : links (jump next m free) + 32 * m ≡ len)
      (links_kept : (d : ℕ) → (d ≡ jump next m free → ⊥) → links d ≡ number d)
      (begins_kept : (d : ℕ) → (d ≡ free → ⊥) → begins d ≡ begin d) where
    k : ℕ
    k = spare - suc m

    front : Walk s.owner s.rank number size 0 (0 + (spare - suc m)) (suc m) free
    front =
        walk_front s.owner s.rank number size 0 0 (spare - suc m) (suc m) spare free (omega (arith, enough))
        s.unused

    last : (jump next m free < size) × (s.owner (jump next m free) ≡ 0)
        × (s.rank (jump next m free) ≡ 0 + (spare - suc m))
    last = walk_last s.owner s.rank number size 0 (0 + (spare - suc m)) m free front

    few : links (jump next m free) ≤ 32
    few = omega (arith, linked, count)

    owner2 : ℕ → ℕ
    owner2 d = pick (free_or_not (s.owner d) (spare - suc m) (s.rank d)) (suc free) (s.owner d)

    rank2 : ℕ → ℕ
    rank2 d = pick (free_or_not (s.owner d) (spare - suc m) (s.rank d)) (s.rank d - (spare - suc m)) (s.rank d)

    -- links of cells that are not taken are kept, and those before the last one
    off : (d : ℕ) → ((s.owner d ≡ 0) × (spare - suc m ≤ s.rank d) → ⊥) → links d ≡ number d
    off d out = links_kept d
        (λ e. out (ap s.owner e ∙ last.1, omega (arith, ap s.rank e, last.2)))

    before : (d : ℕ) → spare - suc m < s.rank d → links d ≡ number d
    before d more = links_kept d (λ e. omega (arith, ap s.rank e, last.2, more))

    unused2 : Walk owner2 rank2 links size 0 0 (spare - suc m) (jump next (suc m) free)
    unfolding owner2 rank2
    unused2 =
        walk_map s.owner s.rank number size links owner2 rank2 size 0 0 0 0 (spare - suc m)
        (jump next (suc m) free) (omega arith)
        (walk_back s.owner s.rank number size 0 0 (spare - suc m) (suc m) spare free (omega (arith, enough))
        s.unused)
        (λ d r l x y z. let no_free : ((s.owner d ≡ 0) × (spare - suc m ≤ s.rank d))
        → ⊥ = λ f. omega (arith, f.1, y, z) in (
          (pick_no (free_or_not (s.owner d) (spare - suc m) (s.rank d)) (suc free) (s.owner d) no_free ∙ x),
          (pick_no (free_or_not (s.owner d) (spare - suc m) (s.rank d)) (s.rank d - (spare - suc m))
              (s.rank d) no_free ∙ y),
        ))
        (λ d l x y z. (off d (λ f. omega (arith, f.1, z))))

    mine : Walk owner2 rank2 links size (suc free) 0 (suc m) free
    unfolding owner2 rank2
    mine =
        walk_map s.owner s.rank number size links owner2 rank2 size 0 (0 + (spare - suc m)) (suc free) 0
        (suc m) free (omega arith) front
        (λ d r l x y z. let is_free : (s.owner d ≡ 0) × (spare - suc m ≤ s.rank d) = (x, omega (arith, y)) in (
          pick_yes (free_or_not (s.owner d) (spare - suc m) (s.rank d)) (suc free) (s.owner d) is_free,
          (pick_yes (free_or_not (s.owner d) (spare - suc m) (s.rank d)) (s.rank d - (spare - suc m))
              (s.rank d) is_free ∙ omega (arith, y)),
        ))
        (λ d l x y z. (before d (omega (arith, y))))

    same_last : jump (behind_by links) m free ≡ jump next m free
    same_last =
        jump_same s.owner s.rank number size links 0 (0 + (spare - suc m)) m free front
        (λ d x y. before d (omega (arith, y)))

    live_off : (c d : ℕ) → s.owner d ≡ suc c → (s.owner d ≡ 0) × (spare - suc m ≤ s.rank d) → ⊥
    live_off c d x f = omega (arith, f.0, x)

    theirs : (c : ℕ) → begin c ≡ 1 → IsLive owner2 rank2 links size c
    unfolding owner2 rank2
    theirs c e =
        let h = s.live c e in
        let w = walk_last s.owner s.rank number size (suc c) 0 h.more c h.walk in
        let same : jump (behind_by links) h.more c ≡ jump next h.more c =
        jump_same s.owner s.rank number size links (suc c) 0 h.more c h.walk
        (λ d x y. off d (live_off c d x)) in
        let at : links (jump (behind_by links) h.more c) ≡ number (jump next h.more c) =
        ap links same ∙ off (jump next h.more c) (live_off c (jump next h.more c) w.1) in
        record {
          more = h.more;
          walk =
              walk_map s.owner s.rank number size links owner2 rank2 size (suc c) 0 (suc c) 0
              (suc h.more) c (omega arith) h.walk
              (λ d r l x y z. (
                (pick_no (free_or_not (s.owner d) (spare - suc m) (s.rank d)) (suc free) (s.owner d)
                    (live_off c d x) ∙ x),
                (pick_no (free_or_not (s.owner d) (spare - suc m) (s.rank d)) (s.rank d - (spare - suc m))
                    (s.rank d) (live_off c d x) ∙ y),
              ))
              (λ d l x y z. (off d (live_off c d x)));
          last = omega (arith, at, h.last);
          full = ap (λ n. cells_for (32 * h.more + n)) at ∙ h.full;
        }

    its : IsLive owner2 rank2 links size free
    its =
        let at : links (jump (behind_by links) m free) ≡ links (jump next m free) = ap links same_last in
        let all : 32 * m + links (jump (behind_by links) m free) ≡ len = omega (arith, linked, at) in
        record {
          more = m;
          walk = mine;
          last = omega (arith, at, few);
          full = ap cells_for all ∙ sym count;
        }

    pub put_shape : IsShaped links begins size (jump next (suc m) free) (spare - suc m)
    put_shape = record {
      owner = owner2;
      rank = rank2;
      unused = unused2;
      live = λ c e. elim (at_or_not c free) [
        | inl same ↦ subst (λ x. IsLive owner2 rank2 links size x) (sym same) its
        | inr ne ↦ theirs c (sym (begins_kept c ne) ∙ e)
      ];
    }

    -- the octets of the new chain, by their number
    pub put_told : (octets : ℕ → List ℕ) → ((d : ℕ) → d < size → length (octets d) ≡ 32)
        → gather octets links size free (links free - 32) ≡ collect octets next (suc m) len free
    put_told octets full =
        let at : links (jump (behind_by links) m free) ≡ links (jump next m free) = ap links same_last in
        gather_fuel octets links size (suc m) size free
        (walk_few owner2 rank2 links size (suc free) (suc m) free mine)
        (walk_ends owner2 rank2 links size (suc free) m free mine (omega (arith, at, few)))
        ∙ told owner2 rank2 links size (suc free) octets full m len free count mine (omega (arith, at, linked))
        ∙ collect_same s.owner s.rank number size links octets 0 (0 + (spare - suc m)) m len free front
        (λ d x y. before d (omega (arith, y)))

    -- the others keep their octets
    pub put_keeps : (octets changed : ℕ → List ℕ)
        → ((d : ℕ) → (s.owner d ≡ 0 → spare - suc m ≤ s.rank d → ⊥) → changed d ≡ octets d)
        → ((d : ℕ) → begin d ≤ 1)
        → (n c : ℕ) → (c ≡ free → ⊥)
        → octets_by changed links n c (begins c) ≡ octets_by octets number n c (begin c)
    put_keeps octets changed keeps flags n c ne =
        by_begin octets changed links n n c (begin c) (begins c) (flags c) (begins_kept c ne)
        (λ e. live_same octets changed links n c e
        (λ d l x. off d (live_off c d x))
        (λ d l x. keeps d (λ y z. omega (arith, x, y))))

  module _ (c : ℕ) (links begins : ℕ → ℕ) (marked : begin c ≡ 1)
      (linked : links (jump next (s.live c marked).more c) ≡ free + 33)
      (links_kept : (d : ℕ) → (d ≡ jump next (s.live c marked).more c → ⊥) → links d ≡ number d)
      (unmark : begins c ≡ 0) (begins_kept : (d : ℕ) → (d ≡ c → ⊥) → begins d ≡ begin d) where
    abbrev m : ℕ
    m = (s.live c marked).more

    owner3 : ℕ → ℕ
    owner3 d = pick (at_or_not (s.owner d) (suc c)) 0 (s.owner d)

    rank3 : ℕ → ℕ
    rank3 d = pick (at_or_not (s.owner d) (suc c)) (s.rank d + spare) (s.rank d)

    walked : Walk s.owner s.rank number size (suc c) 0 (suc m) c
    walked = (s.live c marked).walk

    last3 : (jump next m c < size) × (s.owner (jump next m c) ≡ suc c) × (s.rank (jump next m c) ≡ 0)
    last3 = walk_last s.owner s.rank number size (suc c) 0 m c walked

    links_mine : (d : ℕ) → 0 < s.rank d → links d ≡ number d
    links_mine d y = links_kept d (λ e. omega (arith, ap s.rank e, last3.2, y))

    links_theirs : (d o : ℕ) → s.owner d ≡ o → (o ≡ suc c → ⊥) → links d ≡ number d
    links_theirs d o x ne = links_kept d (λ e. ne (sym x ∙ ap s.owner e ∙ last3.1))

    front3 : Walk owner3 rank3 links size 0 (0 + spare) (suc m) c
    unfolding owner3 rank3
    front3 =
        walk_map s.owner s.rank number size links owner3 rank3 size (suc c) 0 0 (0 + spare) (suc m) c
        (omega arith) walked
        (λ d r l x y z. (
          pick_yes (at_or_not (s.owner d) (suc c)) 0 (s.owner d) x,
          (pick_yes (at_or_not (s.owner d) (suc c)) (s.rank d + spare) (s.rank d) x ∙ omega (arith, y)),
        ))
        (λ d l x y z. (links_mine d y))

    back3 : Walk owner3 rank3 links size 0 0 spare free
    unfolding owner3 rank3
    back3 =
        walk_map s.owner s.rank number size links owner3 rank3 size 0 0 0 0 spare free (omega arith)
        s.unused
        (λ d r l x y z. let ne : s.owner d ≡ suc c → ⊥ = λ e. omega (arith, e, x) in (
          (pick_no (at_or_not (s.owner d) (suc c)) 0 (s.owner d) ne ∙ x),
          (pick_no (at_or_not (s.owner d) (suc c)) (s.rank d + spare) (s.rank d) ne ∙ y),
        ))
        (λ d l x y z. (links_theirs d 0 x (λ e. omega (arith, e))))

    same3 : jump (behind_by links) m c ≡ jump next m c
    same3 = jump_same s.owner s.rank number size links (suc c) 0 m c walked (λ d x y. links_mine d y)

    on3 : links (jump (behind_by links) m c) ≡ free + 33
    on3 = ap links same3 ∙ linked

    leads : jump (behind_by links) (suc m) c ≡ free
    leads = jump_suc (behind_by links) m c ∙ omega (arith, on3)

    theirs3 : (e : ℕ) → begin e ≡ 1 → (e ≡ c → ⊥) → IsLive owner3 rank3 links size e
    unfolding owner3 rank3
    theirs3 e is ne =
        let h = s.live e is in
        let w = walk_last s.owner s.rank number size (suc e) 0 h.more e h.walk in
        let off = λ (d : ℕ) (x : s.owner d ≡ suc e) (y : s.owner d ≡ suc c). let g : ⊥ =
        ne (omega (arith, x, y)) in g in
        let kept = λ (d : ℕ) (x : s.owner d ≡ suc e). links_theirs d (suc e) x (λ q. ne (omega (arith, q))) in
        let same : jump (behind_by links) h.more e ≡ jump next h.more e =
        jump_same s.owner s.rank number size links (suc e) 0 h.more e h.walk (λ d x y. kept d x) in
        let at : links (jump (behind_by links) h.more e) ≡ number (jump next h.more e) =
        ap links same ∙ kept (jump next h.more e) w.1 in
        record {
          more = h.more;
          walk =
              walk_map s.owner s.rank number size links owner3 rank3 size (suc e) 0 (suc e) 0 (suc h.more) e
              (omega arith) h.walk
              (λ d r l x y z. (
                (pick_no (at_or_not (s.owner d) (suc c)) 0 (s.owner d) (off d x) ∙ x),
                (pick_no (at_or_not (s.owner d) (suc c)) (s.rank d + spare) (s.rank d) (off d x) ∙ y),
              ))
              (λ d l x y z. kept d x);
          last = omega (arith, at, h.last);
          full = ap (λ n. cells_for (32 * h.more + n)) at ∙ h.full;
        }

    pub free_shape : IsShaped links begins size c (suc m + spare)
    free_shape = record {
      owner = owner3;
      rank = rank3;
      unused =
          walk_join owner3 rank3 links size 0 0 spare m (suc m + spare) c refl front3 (omega (arith, on3))
          (subst (λ x. Walk owner3 rank3 links size 0 0 spare x) (sym leads) back3);
      live = λ e is. elim (at_or_not e c) [
        | inl same ↦ (let z : 1 ≡ 0 = sym is ∙ ap begins same ∙ unmark in absurd (omega arith))
        | inr ne ↦ theirs3 e (sym (begins_kept e ne) ∙ is) ne
      ];
    }

    pub free_keeps : (octets : ℕ → List ℕ) → ((d : ℕ) → begin d ≤ 1) → (n e : ℕ) → (e ≡ c → ⊥)
        → octets_by octets links n e (begins e) ≡ octets_by octets number n e (begin e)
    free_keeps octets flags n e ne =
        by_begin octets octets links n n e (begin e) (begins e) (flags e) (begins_kept e ne)
        (λ is. live_same octets octets links n e is
        (λ d l x. links_theirs d (suc e) x (λ q. ne (omega (arith, q)))) (λ d l x. refl))

  module _ (links begins : ℕ → ℕ) (linked : links size ≡ free + 33)
      (links_kept : (d : ℕ) → d < size → links d ≡ number d)
      (begins_kept : (d : ℕ) → begins d ≡ begin d) where
    owner4 : ℕ → ℕ
    owner4 d = pick (at_or_not d size) 0 (s.owner d)

    rank4 : ℕ → ℕ
    rank4 d = pick (at_or_not d size) spare (s.rank d)

    keeps4 : (o n c : ℕ) → Walk s.owner s.rank number size o 0 n c → Walk owner4 rank4 links (size + 1) o 0 n c
    unfolding owner4 rank4
    keeps4 o n c w =
        walk_map s.owner s.rank number size links owner4 rank4 (size + 1) o 0 o 0 n c (omega arith) w
        (λ d r l x y z. let ne : d ≡ size → ⊥ = λ e. omega (arith, e, l) in (
          (pick_no (at_or_not d size) 0 (s.owner d) ne ∙ x),
          (pick_no (at_or_not d size) spare (s.rank d) ne ∙ y),
        ))
        (λ d l x y z. links_kept d l)

    unused4 : Walk owner4 rank4 links (size + 1) 0 0 (suc spare) size
    unfolding owner4 rank4
    unused4 =
        let next4 : free ≡ links size - 33 = omega (arith, linked) in (
          omega arith,
          pick_yes (at_or_not size size) 0 (s.owner size) refl,
          (pick_yes (at_or_not size size) spare (s.rank size) refl ∙ omega arith),
          λ some. omega (arith, linked),
          subst (λ x. Walk owner4 rank4 links (size + 1) 0 0 spare x) next4 (keeps4 0 spare free s.unused),
        )

    live4 : (c : ℕ) → begin c ≡ 1 → IsLive owner4 rank4 links (size + 1) c
    live4 c is =
        let h = s.live c is in
        let w = walk_last s.owner s.rank number size (suc c) 0 h.more c h.walk in
        let v = keeps4 (suc c) (suc h.more) c h.walk in
        let same : jump (behind_by links) h.more c ≡ jump next h.more c = same4 (suc c) h.more c h.walk in
        let at : links (jump (behind_by links) h.more c) ≡ number (jump next h.more c) =
        ap links same ∙ links_kept (jump next h.more c) w.0 in
        record {
          more = h.more;
          walk = v;
          last = omega (arith, at, h.last);
          full = ap (λ n. cells_for (32 * h.more + n)) at ∙ h.full;
        }
      where
        same4 : (o n c : ℕ) → Walk s.owner s.rank number size o 0 (suc n) c
            → jump (behind_by links) n c ≡ jump next n c
        same4 o zero c w = refl
        same4 o (suc n) c w =
            ap (λ x. jump (behind_by links) n (x - 33)) (links_kept c w.0) ∙ same4 o n (number c - 33) w.4

    pub more_shape : IsShaped links begins (size + 1) size (suc spare)
    more_shape = record {
      owner = owner4;
      rank = rank4;
      unused = unused4;
      live = λ c is. live4 c (sym (begins_kept c) ∙ is);
    }

    pub more_keeps : (octets changed : ℕ → List ℕ) → ((d : ℕ) → d < size → changed d ≡ octets d)
        → ((d : ℕ) → begin d ≤ 1) → (c : ℕ)
        → octets_by changed links (size + 1) c (begins c) ≡ octets_by octets number size c (begin c)
    more_keeps octets changed same flags c =
        by_begin octets changed links size (size + 1) c (begin c) (begins c) (flags c) (begins_kept c)
        (λ is. live_same octets changed links (size + 1) c is (λ d l x. links_kept d l) (λ d l x. same d l)
        ∙ gather_fuel octets number size size (size + 1) c (omega arith) (live_ends c is))
