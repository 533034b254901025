use Rattle.std.proofs.Common.{◌≡◌, ◌++◌, ◌∷◌, [], ℕ, List, length, length-append, append_assoc, append-nil, take, arith, refl, ap, sym, ◌∙◌}
use Rattle.std.proofs.lemmas.List.{length-map, length-take, take_all}
use Rattle.health_planning.proofs.Groups.{member_at}
use Rattle.health_planning.proofs.Noted.{few_members}
use Rattle.health_planning.specs.Changes.{ref_in}
use Rattle.health_planning.specs.Groups.{members_of}
use Rattle.health_planning.specs.SetRefRecord.{SetRef}
use Rattle.health_standing.proofs.Moving.{of_parts}
use Rattle.health_standing.specs.Founding.{refs_of}
use Rattle.zone_model.proofs.Lists.{take_more}
use Rattle.zone_model.specs.Slotted.{Slotted}
use Rattle.health_standing.proofs.founding.note_those.Goals as goal

refs_more : (zone : ℕ) (xs : List Slotted) (p : Slotted)
    → refs_of zone (xs ++ p ∷ []) ≡ refs_of zone xs ++ ref_in zone p ∷ []
refs_more zone [] p = refl
refs_more zone (x ∷ xs) p = ap (λ (l : List SetRef). ref_in zone x ∷ l) (refs_more zone xs p)

pub loop-i-init : goal.loop-i-init
loop-i-init c = record {
  within = omega arith;
  noted = sym (append-nil c.args.members.now.items);
  room = refl;
}

pub push_reserved-requires : goal.push_reserved-requires
push_reserved-requires c =
    let members = members_of c.args.zones.now.zones c.args.group in
    let i = c.loop-i.invariant in
    let noted = ap (λ (l : List SetRef). length l) i.noted in
    let both = length-append c.args.members.now.items (refs_of c.args.group.zone (take c.loop-i.i members)) in
    let refs = length-map (take c.loop-i.i members) (ref_in c.args.group.zone) in
    let taken = length-take c.loop-i.i members in
    let below = c.loop-i-test.true in
    let room = c.requires.room in
    let same = i.room in
    omega (arith, noted, both, refs, taken, below, room, same)

pub loop-i-preserved : goal.loop-i-preserved
loop-i-preserved c =
    let members = members_of c.args.zones.now.zones c.args.group in
    let i = c.loop-i.invariant in
    let m = member_at c.args.zones.now.zones c.args.group c.loop-i.i c.member.result c.loop-i-test.true c.member.ensures in
    let front = take c.loop-i.i members in
    let zone = c.args.group.zone in
    let one : c.member.result ≡ ref_in zone m.p = of_parts c.member.result (ref_in zone m.p) c.member.ensures.zone (sym m.slot) in
    let more = take_more members c.loop-i.i m.p m.at in
    record {
      within = omega (arith, c.loop-i-test.true);
      noted = c.push_reserved.ensures.items
          ∙ ap (λ (l : List SetRef). l ++ c.member.result ∷ []) i.noted
          ∙ append_assoc c.args.members.now.items (refs_of zone front) (c.member.result ∷ [])
          ∙ ap (λ (r : SetRef). c.args.members.now.items ++ (refs_of zone front ++ r ∷ [])) one
          ∙ ap (λ (l : List SetRef). c.args.members.now.items ++ l) (sym (refs_more zone front m.p))
          ∙ ap (λ (l : List Slotted). c.args.members.now.items ++ refs_of zone l) (sym more);
      room = c.push_reserved.ensures.capacity ∙ i.room;
    }

pub returns-clause-noted : goal.returns-clause-noted
returns-clause-noted c =
    let members = members_of c.args.zones.now.zones c.args.group in
    let long = few_members c.args.zones.now.zones c.args.group in
    let end = c.loop-i-test.false in
    let all : take c.loop-i.i members ≡ members = take_all c.loop-i.i members (omega arith) in
    c.loop-i.invariant.noted ∙ ap (λ (l : List Slotted). c.args.members.now.items ++ refs_of c.args.group.zone l) all
