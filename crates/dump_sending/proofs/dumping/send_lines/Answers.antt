use Rattle.std.proofs.Common.{ℕ, List, ◌++◌, ap, subst, sym, ◌∙◌}
use Rattle.std.specs.List.{AllByRecursion}
use Rattle.check_model.specs.Checks.{IsBounded}
use Rattle.check_model.specs.declared.checks.Check.{Check}
use Rattle.cidr_blocks.specs.Places.{IsCollection}
use Rattle.cidr_blocks.specs.declared.places.Collection.{Collection}
use Rattle.cidr_commands.specs.Stored.{Stored}
use Rattle.config_zones.specs.Edited.{hosted_in}
use Rattle.dump_sending.specs.Dumps.{checks_text, collections_text, zones_text}
use Rattle.set_sending.proofs.Passed.{first_next}
use Rattle.dump_sending.proofs.dumping.send_lines.Goals as goal

pub send_checks-requires-clause-bounded : goal.send_checks-requires-clause-bounded
send_checks-requires-clause-bounded g c =
    subst (λ (l : List (ℕ × Check)). AllByRecursion (λ (held : ℕ × Check). IsBounded held.1) l)
    (sym c.as_slice-held.ensures.checks) c.as_slice-held.ensures.sound.bounded

pub send_collections-requires-clause-each : goal.send_collections-requires-clause-each
send_collections-requires-clause-each g c =
    subst (λ (l : List (ℕ × Collection)).
    AllByRecursion (λ (held : ℕ × Collection). IsCollection held.1) l)
    (sym c.as_slice-collections.ensures.collections) c.as_slice-collections.ensures.sound.each

pub returns-in-Failed-clause-passes : goal.returns-in-Failed-clause-passes
returns-in-Failed-clause-passes g c = λ held rest text passed.
    let list = c.args.checks.now.checks.list in
    let later = collections_text c.args.zones.now.collections.list
    ++ zones_text (hosted_in c.args.zones.now.zones) in
    c.in-Failed.ensures.passes held (later ++ rest) text
    (first_next held _ _ (checks_text list ++ later) (checks_text c.as_slice-held.result.now) later rest
    text (ap (λ (l : List (ℕ × Check)). checks_text l ++ later) (sym c.as_slice-held.ensures.checks))
    passed)

pub returns-in-Failed-send_collections-clause-passes :
    goal.returns-in-Failed-send_collections-clause-passes
returns-in-Failed-send_collections-clause-passes g c = λ held rest text passed.
    let checks = c.args.checks.now.checks.list in
    let list = c.args.zones.now.collections.list in
    let zones = zones_text (hosted_in c.args.zones.now.zones) in
    let later = collections_text list ++ zones in
    let same = c.as_slice-collections.ensures.collections ∙ ap (λ (s : Stored). s.list) c.collections.ensures in
    c.in-Failed-send_collections.ensures.passes held (zones ++ rest) text
    (first_next held _ _ later (collections_text c.as_slice-collections.result.now) zones rest text
    (ap (λ (l : List (ℕ × Collection)). collections_text l ++ zones) (sym same))
    (c.in-Whole.ensures.passes held (later ++ rest) text
    (first_next held _ _ (checks_text checks ++ later) (checks_text c.as_slice-held.result.now) later rest
    text (ap (λ (l : List (ℕ × Check)). checks_text l ++ later) (sym c.as_slice-held.ensures.checks))
    passed)))

pub returns-in-Whole-send_collections-clause-passes :
    goal.returns-in-Whole-send_collections-clause-passes
returns-in-Whole-send_collections-clause-passes g c = λ held rest text passed.
    let checks = c.args.checks.now.checks.list in
    let list = c.args.zones.now.collections.list in
    let zones = zones_text (hosted_in c.args.zones.now.zones) in
    let later = collections_text list ++ zones in
    let same = c.as_slice-collections.ensures.collections ∙ ap (λ (s : Stored). s.list) c.collections.ensures in
    c.send_zones.ensures.passes held rest text
    (c.in-Whole-send_collections.ensures.passes held (zones ++ rest) text
    (first_next held _ _ later (collections_text c.as_slice-collections.result.now) zones rest text
    (ap (λ (l : List (ℕ × Collection)). collections_text l ++ zones) (sym same))
    (c.in-Whole.ensures.passes held (later ++ rest) text
    (first_next held _ _ (checks_text checks ++ later) (checks_text c.as_slice-held.result.now) later
    rest text
    (ap (λ (l : List (ℕ × Check)). checks_text l ++ later) (sym c.as_slice-held.ensures.checks))
    passed))))
