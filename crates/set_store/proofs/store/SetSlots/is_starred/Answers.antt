use Rattle.std.proofs.Common.{min, length, subst, sym, ◌∙◌, arith}
use Rattle.set_store.specs.Stored.{IsKept, Slots}
use Rattle.set_store.proofs.Reading.{enough_long, enough_short, found, head_there}
use Rattle.set_store.proofs.store.SetSlots.is_starred.Goals as goal

pub size_at-requires : goal.size_at-requires
size_at-requires c =
    let kept = c.requires in
    let f = found c.self.inside.region.held c.self.inside.slots.items c.self.inside.free c.self.inside.spare
    c.self.invariant
    c.written_reads_back.ensures c.args.slot kept.0 (subst (λ
    (s : Slots). IsKept s.slots c.args.slot kept.0) (sym c.self.view_is) kept.1) in
    (f.octets, f.there)

pub head_at-requires : goal.head_at-requires
head_at-requires c =
    let kept = c.requires in
    let f = found c.self.inside.region.held c.self.inside.slots.items c.self.inside.free c.self.inside.spare
    c.self.invariant
    c.written_reads_back.ensures c.args.slot kept.0 (subst (λ
    (s : Slots). IsKept s.slots c.args.slot kept.0) (sym c.self.view_is) kept.1) in
    (f.octets, f.there)

pub head_is_starred-requires : goal.head_is_starred-requires
head_is_starred-requires c =
    let kept = c.requires in
    let f = found c.self.inside.region.held c.self.inside.slots.items c.self.inside.free c.self.inside.spare
    c.self.invariant
    c.written_reads_back.ensures c.args.slot kept.0 (subst (λ
    (s : Slots). IsKept s.slots c.args.slot kept.0) (sym c.self.view_is) kept.1) in
    let head = head_there c.keys_are_in_front.ensures kept.0.set f.octets f.spelled (min
    (length f.octets) 64) (enough_short (length f.octets) 64
    (let e = c.size_at.ensures f.octets f.there in let t = c.if-size_at-le-SHORT.true in omega
    (arith, e, t))) in
    (kept.0.set, head.0, f.spelled.is, c.head_at.ensures f.octets f.there ∙ head.1)

pub returns-then-size_at-le-SHORT : goal.returns-then-size_at-le-SHORT
returns-then-size_at-le-SHORT c kept is =
    let f = found c.self.inside.region.held c.self.inside.slots.items c.self.inside.free c.self.inside.spare
    c.self.invariant
    c.written_reads_back.ensures c.args.slot kept (subst (λ (s : Slots). IsKept s.slots c.args.slot kept)
    (sym c.self.view_is) is) in
    let head = head_there c.keys_are_in_front.ensures kept.set f.octets f.spelled (min (length f.octets) 64)
    (enough_short (length f.octets) 64
    (let e = c.size_at.ensures f.octets f.there in let t = c.if-size_at-le-SHORT.true in omega
    (arith, e, t))) in
    c.head_is_starred.ensures kept.set head.0 f.spelled.is (c.head_at.ensures f.octets f.there ∙ head.1)

pub head_at-requires-2 : goal.head_at-requires-2
head_at-requires-2 c =
    let kept = c.requires in
    let f = found c.self.inside.region.held c.self.inside.slots.items c.self.inside.free c.self.inside.spare
    c.self.invariant
    c.written_reads_back.ensures c.args.slot kept.0 (subst (λ
    (s : Slots). IsKept s.slots c.args.slot kept.0) (sym c.self.view_is) kept.1) in
    (f.octets, f.there)

pub head_is_starred-requires-2 : goal.head_is_starred-requires-2
head_is_starred-requires-2 c =
    let kept = c.requires in
    let f = found c.self.inside.region.held c.self.inside.slots.items c.self.inside.free c.self.inside.spare
    c.self.invariant
    c.written_reads_back.ensures c.args.slot kept.0 (subst (λ
    (s : Slots). IsKept s.slots c.args.slot kept.0) (sym c.self.view_is) kept.1) in
    let head = head_there c.keys_are_in_front.ensures kept.0.set f.octets f.spelled (min
    (length f.octets) 387) (enough_long (length f.octets)) in
    (kept.0.set, head.0, f.spelled.is, c.head_at-2.ensures f.octets f.there ∙ head.1)

pub returns : goal.returns
returns c kept is =
    let f = found c.self.inside.region.held c.self.inside.slots.items c.self.inside.free c.self.inside.spare
    c.self.invariant
    c.written_reads_back.ensures c.args.slot kept (subst (λ (s : Slots). IsKept s.slots c.args.slot kept)
    (sym c.self.view_is) is) in
    let head = head_there c.keys_are_in_front.ensures kept.set f.octets f.spelled (min
    (length f.octets) 387) (enough_long (length f.octets)) in
    c.head_is_starred-2.ensures kept.set head.0 f.spelled.is (c.head_at-2.ensures f.octets f.there ∙ head.1)
