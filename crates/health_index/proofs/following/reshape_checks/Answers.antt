use Rattle.std.proofs.Common.{arith, refl, ◌∙◌}
use Rattle.std.proofs.lemmas.Option.{slice_get_read}
use Rattle.health_valves.proofs.Needs.{ends_alike}
use Rattle.health_valves.specs.Valves.{with_need}
use Rattle.health_planning.proofs.Numbers.{number_there}
use Rattle.health_index.proofs.Reshaped.{none_yet, one_more_as}
use Rattle.health_index.proofs.following.reshape_checks.Goals as goal

pub loop-place-init : goal.loop-place-init
loop-place-init c = record {
  within = omega arith;
  reshaped = λ net own fits. none_yet c.args.list.now c.args.numbers.now net own c.args.valves.now fits;
  idle = c.requires.idle;
  size = refl;
  links = refl;
}

pub reshape-requires-clause-ready : goal.reshape-requires-clause-ready
reshape-requires-clause-ready c =
    let f = c.requires.ready in
    let r = c.loop-place.invariant.reshaped f.0 f.1 f.2 in
    (r.now, f.1, r.fits)

pub reshape-requires-clause-valve : goal.reshape-requires-clause-valve
reshape-requires-clause-valve c =
    let f = c.requires.ready in
    let r = c.loop-place.invariant.reshaped f.0 f.1 f.2 in
    let rows = r.fits.laid.size in
    let size = r.reshaped.size in
    let old = f.2.laid.size in
    let many = c.requires.numbers.as_many in
    let early = c.loop-place-test.true in
    let numbered = number_there c.args.numbers.now c.loop-place.place c.number_at-valve.result (omega arith) c.number_at-valve.ensures in
    let within = c.requires.within c.loop-place.place c.number_at-valve.result numbered in
    omega arith

pub number_at-valve-requires : goal.number_at-valve-requires
number_at-valve-requires c =
    let many = c.requires.numbers.as_many in
    let early = c.loop-place-test.true in
    omega arith

pub loop-place-preserved : goal.loop-place-preserved
loop-place-preserved c =
    let i = c.loop-place.invariant in
    let held = c.index-list-place.result in
    let at = slice_get_read c.args.list.now _ c.loop-place.place held refl c.loop-place-test.true c.index-list-place.is in
    let many = c.requires.numbers.as_many in
    let early = c.loop-place-test.true in
    let numbered = number_there c.args.numbers.now c.loop-place.place c.number_at-valve.result (omega arith) c.number_at-valve.ensures in
    record {
      within = omega (arith, c.loop-place-test.true);
      reshaped = λ net own fits.
          let r = i.reshaped net own fits in
          record {
            now = with_need c.number_at-valve.result c.need_of.result c.inverted_of.result r.now;
            reshaped = one_more_as c.args.list.now c.args.numbers.now c.requires.numbers.apart c.loop-place.place c.number_at-valve.result held net r.now _ _ c.need_of.ensures c.inverted_of.ensures at numbered r.reshaped;
            fits = c.reshape.ensures.fits r.now own r.fits;
            meet = λ ends met. c.reshape.ensures.meet r.now own r.fits (ends_alike net r.now r.reshaped.feeders ends) (r.meet ends met);
          };
      idle = c.reshape.ensures.idle;
      size = c.reshape.ensures.size ∙ i.size;
      links = c.reshape.ensures.links ∙ i.links;
    }
