use Rattle.std.proofs.Common.{◌≡◌, ◌∙◌, ℕ, ap, None, Some, sym}
use Rattle.zone_finding.proofs.Looked.{not_named, told_here, told_kept}
use Rattle.zone_finding.proofs.looking.is_named.Goals as goal

pub returns-in-None : goal.returns-in-None
returns-in-None c = λ named. not_named c.args.store.now.slots c.args.list.now c.requires c.args.set.zone
    c.args.set.slot (λ e. (let none : None ≡ Some c.args.set.zone = c.in-None.ensures ∙ e in cc)) named

pub returns-then-zone-set : goal.returns-then-zone-set
returns-then-zone-set c = λ named. not_named c.args.store.now.slots c.args.list.now c.requires c.args.set.zone
    c.args.set.slot
    (λ e. (let one : Some c.in-Some.zone ≡ Some c.args.set.zone = c.in-Some.ensures ∙ e in
    c.if-zone-set.true (some_same c.in-Some.zone c.args.set.zone one))) named
  where
    some_same : (n m : ℕ) → Some n ≡ Some m → n ≡ m
    some_same n m e = cc

pub returns-else-zone-set : goal.returns-else-zone-set
returns-else-zone-set c =
    let slots = c.args.store.now.slots in
    let list = c.args.list.now in
    let zone = c.args.set.zone in
    let slot = c.args.set.slot in
    let it = told_kept slots list c.requires zone slot
    (sym c.in-Some.ensures ∙ ap (λ n. Some n) c.if-zone-set.false) in
    (it.0, told_here slots list c.requires zone slot it.0 it.1, it.1)
