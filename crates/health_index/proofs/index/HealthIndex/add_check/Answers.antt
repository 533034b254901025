use Rattle.std.proofs.Common.{◌≡◌, ◌++◌, ◌∷◌, [], Some, length, arith, refl, ap, sym, ◌∙◌}
use Rattle.std.specs.Prelude.{slice_get}
use Rattle.std.proofs.lemmas.Option.{slice_get_read}
use mathlib.Core.Path.{subst}
use Rattle.health_index.proofs.Reshaped.{followed_with, intact_with}
use Rattle.health_index.proofs.Ways.{came_at, index_with, more_way, whole_more}
use Rattle.health_planning.specs.Wired.{IsSpare}
use Rattle.health_index.specs.Following.{AreMore, IsEndpointAt}
use Rattle.health_index.specs.Index.{Index, StandsFor}
use Rattle.health_index.specs.Kin.{kin_of}
use Rattle.health_index.proofs.Laid.{as_much_by}
use Rattle.health_index.proofs.index.HealthIndex.add_check.Goals as goal

pub returns-then-not-is_endpoint-clause-ready : goal.returns-then-not-is_endpoint-clause-ready
returns-then-not-is_endpoint-clause-ready c many came =
    let ids = c.self.inside.ids.ok.0 in
    let place = c.len-place.ensures in
    let told = ap length c.as_slice-list.ensures.checks in
    let more = subst (λ (i : Index). AreMore i.ids c.args.checks.now.checks.list) (sym c.self.view_is) c.requires.more in
    let long = more.0 in
    let same : c.len-place.result ≡ length c.self.inside.ids.items = omega arith in
    let held = c.index-list-place.result in
    let at = slice_get_read c.as_slice-list.result.now _ c.len-place.result held refl (omega arith) c.index-list-place.is in
    let here = came_at c.args.checks.now.checks.list _ c.self.inside.ids.items c.len-place.result held c.as_slice-list.ensures.checks same at in
    c.if-not-is_endpoint.ensures.1
    ((subst (λ (i : Index). IsEndpointAt c.args.checks.now.checks.list (length i.ids)) (sym c.self.view_is) came) held here)

pub spare_number-valve-requires : goal.spare_number-valve-requires
spare_number-valve-requires c =
    let w = c.self.invariant in
    let more = subst (λ (i : Index). AreMore i.ids c.args.checks.now.checks.list) (sym c.self.view_is) c.requires.more in
    let long = more.0 in
    let few = c.requires.sound.few in
    let many = w.numbers.as_many in
    let numbers = ap length c.deref.ensures.value in
    omega arith

pub set_count-requires-clause-valve : goal.set_count-requires-clause-valve
set_count-requires-clause-valve c =
    let roomy = c.if-len-lt-MOST_CHECKS.false in
    let valves = c.len.ensures in
    let early = c.spare_number-valve.ensures.0 in
    omega arith

pub invariant_of-self : goal.invariant_of-self
invariant_of-self c =
    let w = c.self.invariant in
    let more = subst (λ (i : Index). AreMore i.ids c.args.checks.now.checks.list) (sym c.self.view_is) c.requires.more in
    let long = more.0 in
    let ids = c.self.inside.ids.ok.0 in
    let place = c.len-place.ensures in
    let told = ap length c.as_slice-list.ensures.checks in
    let same : c.len-place.result ≡ length c.self.inside.ids.items = omega arith in
    let held = c.index-list-place.result in
    let at = slice_get_read c.as_slice-list.result.now _ c.len-place.result held refl (omega arith) c.index-list-place.is in
    let here = came_at c.args.checks.now.checks.list _ c.self.inside.ids.items c.len-place.result held c.as_slice-list.ensures.checks same at in
    let rows = w.fits.laid.size in
    let roomy = c.if-len-lt-MOST_CHECKS.false in
    let valves = c.len.ensures in
    let checkers = c.fresh_checkers-checkers.result in
    let fits = c.set_count.ensures.fits w.net w.own w.fits in
    let spare = rw c.deref.ensures.value at c.spare_number-valve.ensures in
    let early = spare.0 in
    intact_with _ w c.set_count.new.self _ (c.self.inside.ids.items ++ held.0 ∷ []) _ (c.self.inside.numbers.items ++ c.spare_number-valve.result ∷ []) _ (c.self.inside.seen.items ++ Some checkers ∷ []) _
    c.push_reserved.ensures.items c.push_reserved-2.ensures.items c.push_reserved-3.ensures.items
    (whole_more _ w c.args.checks.now.checks c.requires.sound more held.0 held.1 here checkers c.from.result c.spare_number-valve.result spare c.set_count.new.self (omega arith)
    fits c.set_count.ensures.idle _)

pub returns-clause-followed : goal.returns-clause-followed
returns-clause-followed c zones old reports stands later done =
    let w = c.self.invariant in
    let was = subst (StandsFor zones old reports) (sym c.self.view_is) stands in
    let kin = subst (λ (i : Index). i.kin ≡ kin_of c.args.checks.now.checks.list) (sym c.self.view_is) c.requires.kin in
    let more = subst (λ (i : Index). AreMore i.ids c.args.checks.now.checks.list) (sym c.self.view_is) c.requires.more in
    let long = more.0 in
    let ids = c.self.inside.ids.ok.0 in
    let place = c.len-place.ensures in
    let told = ap length c.as_slice-list.ensures.checks in
    let same : c.len-place.result ≡ length c.self.inside.ids.items = omega arith in
    let held = c.index-list-place.result in
    let at = slice_get_read c.as_slice-list.result.now _ c.len-place.result held refl (omega arith) c.index-list-place.is in
    let here = came_at c.args.checks.now.checks.list _ c.self.inside.ids.items c.len-place.result held c.as_slice-list.ensures.checks same at in
    let checkers = c.fresh_checkers-checkers.result in
    let fits = c.set_count.ensures.fits was.net was.own was.fits in
    let meet = c.set_count.ensures.meet was.net was.own was.fits was.ends was.meet in
    let spare = rw c.deref.ensures.value at c.spare_number-valve.ensures in
    followed_with _ w c.set_count.new.self _ (c.self.inside.ids.items ++ held.0 ∷ []) _ (c.self.inside.numbers.items ++ c.spare_number-valve.result ∷ []) _ (c.self.inside.seen.items ++ Some checkers ∷ []) _
    c.push_reserved.ensures.items c.push_reserved-2.ensures.items c.push_reserved-3.ensures.items zones c.args.checks.now.checks reports
    (more_way zones old c.args.checks.now.checks reports _ was c.requires.sound kin later more.0 more.1 held.0 c.from.result c.spare_number-valve.result spare held.1 here
    checkers c.fresh_checkers-checkers.ensures (λ n results saw. c.from.ensures ∙ c.passing.ensures.exact n results saw)
    c.set_count.new.self fits meet c.set_count.ensures.idle _)

pub returns-clause-follows : goal.returns-clause-follows
returns-clause-follows c done =
    let more = subst (λ (i : Index). AreMore i.ids c.args.checks.now.checks.list) (sym c.self.view_is) c.requires.more in
    let long = more.0 in
    let ids = c.self.inside.ids.ok.0 in
    let place = c.len-place.ensures in
    let told = ap length c.as_slice-list.ensures.checks in
    let same : c.len-place.result ≡ length c.self.inside.ids.items = omega arith in
    let held = c.index-list-place.result in
    let at = slice_get_read c.as_slice-list.result.now _ c.len-place.result held refl (omega arith) c.index-list-place.is in
    let here = came_at c.args.checks.now.checks.list _ c.self.inside.ids.items c.len-place.result held c.as_slice-list.ensures.checks same at in
    let checkers = c.fresh_checkers-checkers.result in
    let ids_room = c.push_reserved.ensures.capacity in
    let numbers_room = c.push_reserved-2.ensures.capacity in
    let seen_room = c.push_reserved-3.ensures.capacity in
    let spare = rw c.deref.ensures.value at c.spare_number-valve.ensures in (
      held.0,
      (
        held.1,
        (
          checkers,
          (
            c.spare_number-valve.result,
            (
              subst (λ (i : Index). slice_get c.args.checks.now.checks.list (length i.ids) ≡ Some held) c.self.view_is here,
              (
                c.fresh_checkers-checkers.ensures,
                (
                  subst (λ (i : Index). IsSpare i.numbers c.spare_number-valve.result) c.self.view_is spare,
                  index_with _ c.args.self.now c.set_count.new.self _ _ _ _ held.0 c.spare_number-valve.result checkers c.self.view_is (cc)
                      c.push_reserved.ensures.items c.push_reserved-2.ensures.items c.push_reserved-3.ensures.items,
                ),
              ),
            ),
          ),
        ),
      ),
    )

pub returns-clause-as_much : goal.returns-clause-as_much
returns-clause-as_much c = as_much_by _ _ _ c.self.view_is refl refl c.set_count.ensures.size c.set_count.ensures.links
