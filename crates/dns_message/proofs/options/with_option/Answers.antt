use Rattle.std.proofs.Common.{sym, subst, ◌∙◌}
use Rattle.dns_message.specs.Edns.{first_body}
use Rattle.dns_message.specs.Walk.{HasFirst}
use Rattle.dns_message.proofs.OptionLists.{stays, another, stands_here}
use Rattle.dns_message.proofs.options.with_option.Goals as goal

pub returns-in_default : goal.returns-in_default
returns-in_default c = λ all options _ _ h. stays all options _ _ c.in_default.not-Plain h

pub returns-then-number_at-ne-CLIENT_SUBNET : goal.returns-then-number_at-ne-CLIENT_SUBNET
returns-then-number_at-ne-CLIENT_SUBNET c = λ all options _ _ h.
    another options _ (λ e. c.if-number_at-ne-CLIENT_SUBNET.true (c.number_at.ensures ∙ e))
    (subst (HasFirst all (first_body 8 options)) c.in-Plain.is h)

pub returns : goal.returns
returns c = λ all options within is h.
    stands_here all c.args.octets.now c.args.at options within is c.requires
    (sym c.number_at.ensures ∙ c.if-number_at-ne-CLIENT_SUBNET.false)
    (subst (HasFirst all (first_body 8 options)) c.in-Plain.is h)
