use Rattle.std.proofs.Common.{ap, sym, ◌∙◌, ◌≡◌, List, ℕ, length}
use Rattle.std.specs.Prelude.{Option, nat_le, ◌+◌}
use Rattle.dns_message.specs.declared.query.Edns.{Edns}
use Rattle.dns_wire.specs.Draft.{Draft, opt_of}
use Rattle.dns_wire.specs.Message.{opt_octets}
use Rattle.dns_wire.specs.Steps.{closed, ended, limited}
use Rattle.dns_wire.proofs.Drafts.{ends, limited_edns}
use Rattle.dns_wire.proofs.reply.Reply.finish.Goals as goal

pub returns-clause-bytes : goal.returns-clause-bytes
returns-clause-bytes c = λ m s.
    let d = c.args.self.now in
    let n = c.opt_len-more.result in
    let len : n ≡ length (opt_octets c.args.rcode (opt_of d.edns c.args.scope)) =
    c.opt_len-more.ensures.len c.args.rcode c.args.scope
    ∙ ap (λ (d : Draft). length (opt_octets c.args.rcode (opt_of d.edns c.args.scope))) c.self.view_is in
    ap (λ (d : Draft). d.bytes) c.write_header.ensures
    ∙ ap (λ (d : Draft). (ended d c.args.aa c.args.rcode).bytes) c.close.ensures
    ∙ ap (λ (d : Draft). (ended (closed (opt_octets c.args.rcode (opt_of d.edns c.args.scope)) d) c.args.aa c.args.rcode).bytes) c.limit_to.ensures
    ∙ ap (λ (e : Option Edns). (ended (closed (opt_octets c.args.rcode (opt_of e c.args.scope)) (limited c.args.limit n d)) c.args.aa c.args.rcode).bytes) (limited_edns c.args.limit n d)
    ∙ ap (λ n. (ended (closed (opt_octets c.args.rcode (opt_of d.edns c.args.scope)) (limited c.args.limit n d)) c.args.aa c.args.rcode).bytes) len
    ∙ ends m d c.args.aa c.args.rcode c.args.limit c.args.scope s c.requires.most
