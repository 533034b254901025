use Rattle.std.proofs.Common.{◌∙◌, ap, length, subst, sym, take, ◌<◌}
use Rattle.set_scratch.proofs.Held.{each_held, told, has_start, value_told}
use Rattle.set_scratch.proofs.scratch.Scratch.value.Goals as goal

pub value_at-wire-requires : goal.value_at-wire-requires
value_at-wire-requires c =
    let inside = c.self.inside in
    subst (λ xs. c.args.i < length xs) (sym c.deref-2.ensures.value)
    (has_start inside.octets.items inside.starts.items inside.places c.args.i c.args.self.now
    (told inside.octets.items inside.starts.items inside.places _ c.args.self.now c.self.view_is
    c.self.invariant.of_set) c.requires)

pub returns-clause-wire : goal.returns-clause-wire
returns-clause-wire c =
    let inside = c.self.inside in
    each_held c.args.self.now
    (value_told inside.octets.items c.front.result.now inside.starts.items inside.places c.args.i
    c.value_at-wire.result.now c.args.self.now
    (c.front.ensures ∙ ap (take inside.places.len) c.deref.ensures.value)
    (λ at values after starts. c.value_at-wire.ensures at values after (c.deref-2.ensures.value ∙ starts))
    (told inside.octets.items inside.starts.items inside.places _ c.args.self.now c.self.view_is
    c.self.invariant.of_set))
    (λ set is. is.0)

pub returns-clause-layout : goal.returns-clause-layout
returns-clause-layout c =
    let inside = c.self.inside in
    each_held c.args.self.now
    (value_told inside.octets.items c.front.result.now inside.starts.items inside.places c.args.i
    c.value_at-wire.result.now c.args.self.now
    (c.front.ensures ∙ ap (take inside.places.len) c.deref.ensures.value)
    (λ at values after starts. c.value_at-wire.ensures at values after (c.deref-2.ensures.value ∙ starts))
    (told inside.octets.items inside.starts.items inside.places _ c.args.self.now c.self.view_is
    c.self.invariant.of_set))
    (λ set is. is.1)
