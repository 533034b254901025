use Rattle.std.proofs.Common.{◌∙◌, ap, subst, sym, Some}
use Rattle.std.proofs.lemmas.Bool.{false≢true}
use Rattle.dns_message.specs.Walk.{HasSubnet, SubnetRead as subnet, opt_with}
use Rattle.dns_message.proofs.Judging.{opt_is}
use Rattle.dns_message.proofs.edns.read_opt.Goals as goal

pub returns-in-Plain-clause-some : goal.returns-in-Plain-clause-some
returns-in-Plain-clause-some c =
    let told = c.in-Plain.ensures in (
      opt_with c.args.octets.now subnet.Absent,
      opt_is c.args.octets.now c.piece-data.result.now c.number_at.result told.0 subnet.Absent c.requires.root
          c.number_at.ensures c.piece-data.ensures told.1 (subst (λ b. HasSubnet b subnet.Absent) (sym told.2) tt),
      ap Some c.edns_with.ensures,
      (λ f. absurd (false≢true f), λ e. absurd cc),
    )

pub returns-in-At-clause-some : goal.returns-in-At-clause-some
returns-in-At-clause-some c =
    let told = c.in-At.ensures in
    let read = c.read_subnet.ensures in (
      opt_with c.args.octets.now read.0,
      opt_is c.args.octets.now c.piece-data.result.now c.number_at.result told.0 read.0 c.requires.root
          c.number_at.ensures c.piece-data.ensures told.1
          (subst (λ b. HasSubnet b read.0) (ap Some c.body_at.ensures ∙ sym told.2.1) read.1),
      read.2,
      read.3,
    )
