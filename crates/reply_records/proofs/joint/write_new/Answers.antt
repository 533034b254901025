use Rattle.std.proofs.Common.{◌∙◌, sym}
use Rattle.reply_records.specs.Chosen.{all_data, sets_of_places}
use Rattle.reply_records.proofs.joint.write_new.Goals as goal

pub write_held-requires-clause-rtype : goal.write_held-requires-clause-rtype
write_held-requires-clause-rtype c = λ set held.
    c.requires.rtype c.args.place set (sym c.load_member.ensures.loaded ∙ held)

pub returns-clause-sees : goal.returns-clause-sees
returns-clause-sees c = λ set there so.
    c.note_held.ensures.sees set
    (all_data (sets_of_places c.args.zones.now.zones c.args.group c.args.earlier.now))
    (c.write_held.ensures.held ∙ (c.load_member.ensures.loaded ∙ there)) c.requires.sees
