use Rattle.std.proofs.Common.{◌≢◌, arith}
use Rattle.policy_select.specs.Groups.{sets_in_zone}
use Rattle.zone_lookup.proofs.Nearest.{source_itself, source_missing, source_no_star, source_too_long}
use Rattle.zone_lookup.proofs.Nearest.{source_wildcard}
use Rattle.zone_lookup.proofs.source.source_from.Goals as goal

pub returns-then-is_same : goal.returns-then-is_same
returns-then-is_same c =
    source_itself c.names_exist.ensures.exist (sets_in_zone c.args.zones.now.zones c.args.zone)
    c.args.name.now c.args.nearest.now c.requires (c.is_same.ensures.0 c.if-is_same.true)

pub returns-then-not-may_have_wildcards : goal.returns-then-not-may_have_wildcards
returns-then-not-may_have_wildcards c =
    let apart : c.args.nearest.now ≢ c.args.name.now = λ same.
    (let told = c.is_same.ensures.1 same in let not_so = c.if-is_same.false in
    absurd (grind (arith, told, not_so))) in
    source_no_star c.names_exist.ensures.exist (sets_in_zone c.args.zones.now.zones c.args.zone)
    c.args.name.now c.args.nearest.now c.requires c.enclosers_are_closest.ensures apart
    (λ there. c.may_have_wildcards.ensures c.if-not-may_have_wildcards.true there.0 there.1
    there.2.0 c.args.nearest.now there.2.1)

pub returns-in_default : goal.returns-in_default
returns-in_default c =
    let apart : c.args.nearest.now ≢ c.args.name.now = λ same.
    (let told = c.is_same.ensures.1 same in let not_so = c.if-is_same.false in
    absurd (grind (arith, told, not_so))) in
    source_too_long c.names_exist.ensures.exist (sets_in_zone c.args.zones.now.zones c.args.zone)
    c.args.name.now c.args.nearest.now c.requires c.enclosers_are_closest.ensures apart
    c.in_default.ensures.none

pub returns-then-exists_near : goal.returns-then-exists_near
returns-then-exists_near c =
    let apart : c.args.nearest.now ≢ c.args.name.now = λ same.
    (let told = c.is_same.ensures.1 same in let not_so = c.if-is_same.false in
    absurd (grind (arith, told, not_so))) in
    source_wildcard c.names_exist.ensures.exist (sets_in_zone c.args.zones.now.zones c.args.zone)
    c.args.name.now c.args.nearest.now c.requires c.enclosers_are_closest.ensures apart
    c.in-Some.wildcard c.in-Some.ensures.some c.in-Some.ensures.fits c.exists_near.result
    c.exists_near.ensures c.if-exists_near.true

pub returns : goal.returns
returns c =
    let apart : c.args.nearest.now ≢ c.args.name.now = λ same.
    (let told = c.is_same.ensures.1 same in let not_so = c.if-is_same.false in
    absurd (grind (arith, told, not_so))) in
    source_missing c.names_exist.ensures.exist (sets_in_zone c.args.zones.now.zones c.args.zone)
    c.args.name.now c.args.nearest.now c.requires c.enclosers_are_closest.ensures apart
    c.in-Some.wildcard c.in-Some.ensures.some c.in-Some.ensures.fits c.exists_near.result
    c.exists_near.ensures c.if-exists_near.false
