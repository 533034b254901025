use Rattle.std.proofs.Common.{◌++◌, [], ◌∷◌, arith, refl, subst, sym, length-append, length-drop, drop}
use Rattle.dns_message.specs.Edns.{opts_of}
use Rattle.dns_message.specs.Records.{record_of}
use Rattle.dns_message.specs.Walk.{BeginsWithoutRecord, HasFound, HasPlace}
use Rattle.dns_message.proofs.Walking.{none_yet, one_more, broken_off, placed, opts_append, walked_all}
use Rattle.dns_message.proofs.records.opt_among.Goals as goal

pub loop-init : goal.loop-init
loop-init c = (omega arith, [], refl, none_yet c.args.octets.now, refl)

pub behind-rest-requires : goal.behind-rest-requires
behind-rest-requires c = c.loop.invariant.0

pub returns-in_default : goal.returns-in_default
returns-in_default c =
    let i = c.loop.invariant in
    let none = subst BeginsWithoutRecord c.behind-rest.ensures c.in_default.ensures.none in
    λ records h _. broken_off c.args.octets.now c.loop.at c.args.count i.1 none i.3 (omega (arith, i.2)) records h

pub loop-preserved : goal.loop-preserved
loop-preserved c =
    let i = c.loop.invariant in
    let octets = c.args.octets.now in
    let place = c.in-Some.place in
    let here : HasPlace (drop c.loop.at octets) place = subst (λ l. HasPlace l place) c.behind-rest.ensures c.in-Some.ensures.some in
    let r = record_of (drop c.loop.at octets) place.owner_len in
    let passed = one_more octets c.loop.at place.size r i.1 (placed (drop c.loop.at octets) place here) i.3 in
    let found : HasFound octets (opts_of i.1 ++ opts_of (r ∷ [])) c.with_record-found.result =
    subst (λ l. HasFound octets (opts_of i.1 ++ opts_of (record_of l place.owner_len ∷ [])) c.with_record-found.result)
    c.behind-rest.ensures (c.with_record-found.ensures octets (opts_of i.1) i.0 c.behind-rest.ensures i.4) in (
      omega (arith, i.0, here.whole, length-drop c.loop.at octets),
      i.1 ++ r ∷ [],
      omega (arith, i.2, length-append i.1 (r ∷ [])),
      passed,
      subst (λ l. HasFound octets l c.with_record-found.result) (sym (opts_append i.1 (r ∷ []))) found,
    )

pub returns : goal.returns
returns c =
    let i = c.loop.invariant in
    walked_all c.args.octets.now c.loop.at c.args.count i.1 c.loop.found
    (omega (arith, i.2, c.loop-test.false, c.loop.auto.counter-end)) i.3 i.4
