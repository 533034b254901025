use Rattle.std.proofs.Common.{◌≡◌, ◌∙◌, ◌+◌, ◌-◌, inl, inr, ⊎_elim, None, Some, refl, sym, ap, subst, rules}
use Rattle.file_building.specs.Disk.{Only}
use Rattle.file_building.proofs.Moments.{weaker}
use Rattle.file_building.specs.Layout.{OpensTo}
use Rattle.file_building.specs.Append.{EndsAt, StandsOn as EndsOn}
use Rattle.file_building.proofs.AppendLemmas.{read_now}
use Rattle.zone_journal.specs.Pairs.{opposite}
use Rattle.zone_journal.specs.Standing.{State, StandsWith, planned_length}
use Rattle.file_building.specs.Building.{gate_opened}
use Rattle.zone_journal.specs.Compacting.{YieldsOrOpens}
use Rattle.zone_journal.proofs.Pieces.{opens_since, ends, durable, new_stands, shut_yields}
use Rattle.zone_journal.proofs.journal.ZoneJournal.open_new.Goals as goal

pub returns-in_default-clause-any_moment : goal.returns-in_default-clause-any_moment
returns-in_default-clause-any_moment g c = λ x y tx ty since is.
    let D = g.D.Disk in
    let v = c.args.self.now in
    let p = c.args.plan in
    let place_is : c.place.result ≡ p.next = search rules in
    let under = c.requires.stands.underway p refl c.requires.last.0 y ty in
    let opens =
    opens_since D.reading D.images v p c.args.active.now c.args.other.now c.requires.stands
    c.requires.last x y tx ty since is in
    weaker D.moment D.images_since _ _ _ (YieldsOrOpens v p since)
    (c.open_file.ensures.any_moment y ty under.shut under.all_shut)
    (λ f left. ⊎_elim (λ shut. inl (shut_yields v.side v.generation f shut))
    (λ same. inr (
      c.requires.last,
      subst (λ l. OpensTo l (v.generation + 1) p.snapshot since)
          (sym (same ∙ ap (gate_opened y) place_is)) opens,
    )) left)

pub returns-in_default-clause-left : goal.returns-in_default-clause-left
returns-in_default-clause-left g c = λ x y tx ty since is.
    let D = g.D.Disk in
    let v = c.args.self.now in
    let p = c.args.plan in
    let place_is : c.place.result ≡ p.next = search rules in
    let under = c.requires.stands.underway p refl c.requires.last.0 y ty in
    let opens =
    opens_since D.reading D.images v p c.args.active.now c.args.other.now c.requires.stands
    c.requires.last x y tx ty since is in
    read_now D.reading D.images D.moment D.images_since g.met.D.Disk.is_image
    g.met.D.Disk.counts_now c.args.other.now _ (YieldsOrOpens v p since)
    (weaker D.moment D.images_since _ _ _ (YieldsOrOpens v p since)
    (c.open_file.ensures.any_moment y ty under.shut under.all_shut)
    (λ f left. ⊎_elim (λ shut. inl (shut_yields v.side v.generation f shut))
    (λ same. inr (
      c.requires.last,
      subst (λ l. OpensTo l (v.generation + 1) p.snapshot since)
          (sym (same ∙ ap (gate_opened y) place_is)) opens,
    )) left))
    (c.open_file.ensures.told y ty)

pub returns-clause-any_moment : goal.returns-clause-any_moment
returns-clause-any_moment g c = λ x y tx ty since is.
    let D = g.D.Disk in
    let v = c.args.self.now in
    let p = c.args.plan in
    let place_is : c.place.result ≡ p.next = search rules in
    let under = c.requires.stands.underway p refl c.requires.last.0 y ty in
    let opens =
    opens_since D.reading D.images v p c.args.active.now c.args.other.now c.requires.stands
    c.requires.last x y tx ty since is in
    weaker D.moment D.images_since _ _ _ (YieldsOrOpens v p since)
    (c.open_file.ensures.any_moment y ty under.shut under.all_shut)
    (λ f left. ⊎_elim (λ shut. inl (shut_yields v.side v.generation f shut))
    (λ same. inr (
      c.requires.last,
      subst (λ l. OpensTo l (v.generation + 1) p.snapshot since)
          (sym (same ∙ ap (gate_opened y) place_is)) opens,
    )) left)

pub returns-clause-left : goal.returns-clause-left
returns-clause-left g c = λ x y tx ty since is.
    let D = g.D.Disk in
    let v = c.args.self.now in
    let p = c.args.plan in
    let place_is : c.place.result ≡ p.next = search rules in
    let opens =
    opens_since D.reading D.images v p c.args.active.now c.args.other.now c.requires.stands
    c.requires.last x y tx ty since is in (
      gate_opened y c.place.result,
      (c.in-Whole.ensures.opened y ty refl).0,
      subst (λ n. OpensTo (gate_opened y n) (v.generation + 1) p.snapshot since) (sym place_is)
          opens,
    )

pub built-self-inside-requires-clause-ends : goal.built-self-inside-requires-clause-ends
built-self-inside-requires-clause-ends g c = λ b told.
    let D = g.D.Disk in
    let v = c.args.self.now in
    let p = c.args.plan in
    let place_is : c.place.result ≡ p.next = search rules in
    let length_is : c.length-length.result ≡ planned_length v p = search rules in
    subst (λ n. EndsAt (n - 1) b) (sym length_is)
    (ends D.reading D.images v p c.args.active.now c.args.other.now c.requires.stands
    c.requires.last c.open_file.new.other c.open_file.ensures.untold
    (λ y t. g.met.D.Disk.alike c.open_file.new.other c.args.active.now y t)
    (λ y t. subst (λ n. (D.reading c.open_file.new.other ≡ Some (gate_opened y n))
    × Only (gate_opened y n) (D.images c.open_file.new.other)) place_is
    (c.in-Whole.ensures.opened y t refl)) b told)

pub built-self-inside-requires-clause-durable : goal.built-self-inside-requires-clause-durable
built-self-inside-requires-clause-durable g c = λ b told.
    let D = g.D.Disk in
    let v = c.args.self.now in
    let p = c.args.plan in
    let place_is : c.place.result ≡ p.next = search rules in
    durable D.reading D.images v p c.args.active.now c.args.other.now c.requires.stands
    c.requires.last c.open_file.new.other c.open_file.ensures.untold
    (λ y t. g.met.D.Disk.alike c.open_file.new.other c.args.active.now y t)
    (λ y t. subst (λ n. (D.reading c.open_file.new.other ≡ Some (gate_opened y n))
    × Only (gate_opened y n) (D.images c.open_file.new.other)) place_is
    (c.in-Whole.ensures.opened y t refl)) b told

pub returns-clause-stands : goal.returns-clause-stands
returns-clause-stands g c =
    let D = g.D.Disk in
    let v = c.args.self.now in
    let p = c.args.plan in
    let place_is : c.place.result ≡ p.next = search rules in
    let length_is : c.length-length.result ≡ planned_length v p = search rules in
    let side_is : c.opposite-self-inside.result ≡ opposite v.side = c.opposite-self-inside.ensures
    ∙ ap (λ (s : State). opposite s.side) c.self.view_is in
    let at_is : c.built-self-inside.result ≡ planned_length v p - 1 =
    c.built-self-inside.ensures.place ∙ ap (λ n. n - 1) length_is in
    let new : State =
    record {
      side = c.opposite-self-inside.result;
      generation =
          c.self.inside.generation + 1;
      at = c.built-self-inside.result;
      plan = None;
    } in
    let is : new
    ≡ record {
      side = opposite v.side;
      generation = v.generation + 1;
      at =
          planned_length v p - 1;
      plan = None;
    } =
    λ i. record {
      side = side_is i;
      generation = (c.self.view_is i).generation + 1;
      at =
          at_is i;
      plan = None;
    } in
    subst (λ s. StandsWith D.reading D.images s c.open_file.new.other c.args.active.now) (sym is)
    (new_stands D.reading D.images v p c.args.active.now c.args.other.now c.requires.stands
    c.requires.last c.open_file.new.other c.open_file.ensures.untold
    (λ y t. g.met.D.Disk.alike c.open_file.new.other c.args.active.now y t)
    (λ y t. subst (λ n. (D.reading c.open_file.new.other ≡ Some (gate_opened y n))
    × Only (gate_opened y n) (D.images c.open_file.new.other)) place_is
    (c.in-Whole.ensures.opened y t refl))
    (subst (λ n. EndsOn D.reading D.images n c.open_file.new.other) at_is
    c.built-self-inside.ensures.stands))
