use Rattle.std.proofs.Common.{arith, ap, ◌∙◌, length, false, map}
use Rattle.std.proofs.lemmas.List.{length-replicate}
use Rattle.health_valves.specs.Blueprint.{feeders_in}
use Rattle.health_valves.specs.Laying.{row_of}
use Rattle.health_valves.specs.Valves.{value_in, times}
use Rattle.health_valves.specs.declared.blueprint.Trigger.{Trigger}
use Rattle.health_valves.proofs.Planning.{laid, counted, none_in, owned}
use Rattle.health_valves.proofs.valves.Valves.set_up.Goals as goal

pub returns-clause-fits : goal.returns-clause-fits
returns-clause-fits c given same moved =
    let given_size = ap length same in
    let blueprint = c.args.blueprint.now in
    let flags = ap length c.lay_none.ensures.flags ∙ length-replicate c.len-2.result false in
    let marks = ap length c.lay_none-2.ensures.flags ∙ length-replicate c.len-3.result false in
    let n = c.len.ensures in
    let n2 = c.len-2.ensures in
    let n3 = c.len-3.ensures in
    let cone_room = c.requires.room.cone in
    let cleared = c.clear-7.ensures.capacity in
    let none = none_in c.len-2.result in
    record {
      laid = laid blueprint given c.lay_rows.new.rows.items c.lay_links.new.feeds c.requires.planned same moved
          (c.lay_rows.ensures.rows ∙ ap (map row_of) c.triggers.ensures)
          (c.lay_links.ensures.valves ∙ c.lay_valves.ensures.valves ∙ n)
          (λ x y. c.lay_links.ensures.fed x y ∙ ap (λ l. times x (feeders_in l y)) c.links.ensures);
      values = omega arith;
      counted = counted blueprint given c.lay_counts.new.counts.items (value_in c.lay_none.new.flags.items) c.requires.planned same moved (c.lay_counts.ensures.counts ∙ ap (map (λ (s : Trigger). s.own)) c.triggers-2.ensures) (λ x. rw c.lay_none.ensures.flags (none x));
      owned = owned blueprint given c.lay_counts-2.new.counts.items same (c.lay_counts-2.ensures.counts ∙ ap (map (λ (s : Trigger). s.own)) c.triggers-3.ensures);
      marks = omega arith;
      room = omega arith;
    }
