use Rattle.std.proofs.Common.{◌≡◌, arith, false, refl, rules, subst, sym, List, ℕ}
use Rattle.zone_lookup.specs.Sections.{Sections, is_zone, look_up}
use Rattle.zone_lookup.specs.Zones.{zone_for}
use Rattle.dns_wire.specs.Draft.{Draft}
use Rattle.dns_wire.specs.declared.reply.Section.TheVariants.{Answer}
use Rattle.reply_records.specs.Groups.{by_key}
use Rattle.rdata_layout.specs.declared.types.RType.TheVariants as rtype
use Rattle.reply_records.specs.Writing.{TakesRecords}
use Rattle.query_engine.specs.Asking.{EndsAs, asked_of, choices_of}
use Rattle.query_engine.proofs.Added.{still_open}
use Rattle.query_engine.proofs.Following.{ends_found, no_more, onward, outside}
use Rattle.query_engine.proofs.steps.+look_up.Goals as goal

pub look_up-returns-in-Ends-clause-found : goal.look_up-returns-in-Ends-clause-found
look_up-returns-in-Ends-clause-found g t c = λ healthy agrees.
    let zones = c.args.zones.now.zones in
    let asked = c.args.asked.now in
    let lookup = asked_of zones c.args.zones.now.collections.list healthy c.args.tables.now asked in
    let is = c.in-Ends.ensures.comes healthy agrees in
    subst (λ (s : Sections). EndsAs s c.args.reply.now c.step.new.reply c.in-Ends.end
    c.step.new.progress.used)
    (sym (ends_found c.args.most lookup c.args.name.now (choices_of c.args.progress.now) is.sections
    is.ends)) is.leaves

pub look_up-follow_cname-requires : goal.look_up-follow_cname-requires
look_up-follow_cname-requires g t c = λ κs lives.
    let more = c.in-Follows.ensures.most in
    let room = c.requires.room in
    let zones = c.args.zones.now.zones in
    let test = g.V.HealthView.test c.args.view.now in
    let is = c.in-Follows.ensures.comes (by_key zones test)
    (c.views_agree.ensures zones test c.well_formed-2.ensures) in (
      search (rules, arith),
      (
        first_of (search rules, search (rules, lives), assumption lives),
        (
          c.requires.served,
          (
            c.requires.there,
            (
              c.in-Follows.ensures.held,
              (
                omega (arith, more, room),
                (
                  c.in-Follows.ensures.seen,
                  subst (λ (d : Draft). TakesRecords Answer d) (sym is.1) c.requires.open,
                ),
              ),
            ),
          ),
        ),
      ),
    )

pub look_up-returns-in-Follows-clause-found : goal.look_up-returns-in-Follows-clause-found
look_up-returns-in-Follows-clause-found g t c = λ healthy agrees.
    let zones = c.args.zones.now.zones in
    let asked = c.args.asked.now in
    let lookup = asked_of zones c.args.zones.now.collections.list healthy c.args.tables.now asked in
    let choices = choices_of c.args.progress.now in
    let is = c.in-Follows.ensures.comes healthy agrees in
    subst (λ (d : Draft). EndsAs (look_up c.args.most lookup c.args.name.now choices) d
    c.follow_cname.new.reply c.follow_cname.result c.follow_cname.new.progress.used) is.1
    (c.follow_cname.ensures.found healthy choices agrees is.0)

pub follow_cname-returns-then-most-eq0-clause-found : goal.follow_cname-returns-then-most-eq0-clause-found
follow_cname-returns-then-most-eq0-clause-found g t c = λ healthy choices agrees is.
    let zones = c.args.zones.now.zones in
    let asked = c.args.asked.now in
    let lookup = asked_of zones c.args.zones.now.collections.list healthy c.args.tables.now asked in
    no_more lookup c.args.name.now choices (record {
      owner = c.args.name.now;
      rtype = rtype.Cname;
      ttl = c.args.ttl;
      rdata = is.rdata;
    }) (choices_of c.args.progress.now) is.follows c.args.most c.args.reply.now c.args.reply.now
    c.if-most-eq0.true refl

pub follow_cname-returns-then-not-is_held_by-clause-found : goal.follow_cname-returns-then-not-is_held_by-clause-found
follow_cname-returns-then-not-is_held_by-clause-found g t c = λ healthy choices agrees is.
    let zones = c.args.zones.now.zones in
    let asked = c.args.asked.now in
    let lookup = asked_of zones c.args.zones.now.collections.list healthy c.args.tables.now asked in
    let some = c.if-most-eq0.false in
    let other = subst (λ (n : List (List ℕ)).
    is_zone lookup.zone (zone_for lookup.zones n) ≡ false)
    (c.target_held-target.ensures is.set is.rdata is.is_held is.first)
    (sym (c.if-not-is_held_by.ensures.same asked.apex.now)) in
    outside lookup c.args.name.now choices (record {
      owner = c.args.name.now;
      rtype = rtype.Cname;
      ttl = c.args.ttl;
      rdata = is.rdata;
    }) (choices_of c.args.progress.now) is.follows c.args.most c.args.reply.now
    c.write_cname.new.reply (omega (arith, some)) other
    (c.write_cname.ensures is.set is.rdata is.is_held is.first)

pub follow_cname-look_up-end-requires : goal.follow_cname-look_up-end-requires
follow_cname-look_up-end-requires g t c = λ κs lives.
    let asked = c.args.asked.now in
    let some = c.if-most-eq0.false in
    let less = c.decreases in
    let room = c.requires.room in
    let held = c.requires.held in (
      omega (arith, some, less),
      (
        first_of (search rules, search (rules, lives), assumption lives),
        (
          c.requires.served,
          (
            c.requires.there,
            (
              c.if-not-is_held_by.ensures.inside asked.apex.now c.requires.there refl,
              (
                omega (arith, some, room),
                (
                  c.requires.seen,
                  still_open (record {
                    owner = c.args.name.now;
                    rtype = rtype.Cname;
                    ttl = c.args.ttl;
                    rdata = held.2.rdata;
                  }) c.args.reply.now c.write_cname.new.reply c.requires.open
                      (c.write_cname.ensures held.0 held.2.rdata held.1 held.2.first),
                ),
              ),
            ),
          ),
        ),
      ),
    )

pub follow_cname-returns-clause-found : goal.follow_cname-returns-clause-found
follow_cname-returns-clause-found g t c = λ healthy choices agrees is.
    let zones = c.args.zones.now.zones in
    let asked = c.args.asked.now in
    let lookup = asked_of zones c.args.zones.now.collections.list healthy c.args.tables.now asked in
    let some = c.if-most-eq0.false in
    onward lookup c.args.name.now choices (record {
      owner = c.args.name.now;
      rtype = rtype.Cname;
      ttl = c.args.ttl;
      rdata = is.rdata;
    }) (choices_of c.args.progress.now) is.follows c.args.most c.args.reply.now
    c.write_cname.new.reply c.look_up-end.new.reply c.target_held-target.result c.look_up-end.result
    c.look_up-end.new.progress.used (omega (arith, some))
    (sym (c.if-not-is_held_by.ensures.same asked.apex.now))
    (c.target_held-target.ensures is.set is.rdata is.is_held is.first)
    (c.write_cname.ensures is.set is.rdata is.is_held is.first)
    (c.look_up-end.ensures.found healthy agrees)
