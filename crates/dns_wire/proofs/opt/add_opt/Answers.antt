use Rattle.std.proofs.Common.{◌≡◌, ◌+◌, ◌++◌, List, ℕ, Option, Some, ap, length, sym, take, ◌∙◌}
use Rattle.std.specs.List.{flat_map}
use Rattle.dns_message.specs.declared.query.Edns.{Edns}
use Rattle.dns_wire.specs.Draft.{opt_of, options_of}
use Rattle.dns_wire.specs.Message.{fixed_opt_octets, opt_octets, option_octets}
use Rattle.dns_wire.proofs.Pieces.{two_pieces}
use Rattle.dns_wire.proofs.opt.add_opt.Goals as goal

pub returns-clause-written : goal.returns-clause-written
returns-clause-written c =
    let edns = c.in-Some.edns in
    let options = flat_map option_octets (options_of edns.subnet c.args.scope) in
    let fixed = c.fixed_opt_octets-fixed.result in
    let size : length fixed ≡ 11 = ap length c.fixed_opt_octets-fixed.ensures in
    let first : take (c.args.at + 11) c.put_at.new.buffer ≡ take c.args.at c.args.buffer.now ++ fixed =
    ap (λ n. take (c.args.at + n) c.put_at.new.buffer) (sym size) ∙ c.put_at.ensures.written in
    let told = c.fixed_opt_octets-fixed.ensures
    ∙ ap (fixed_opt_octets c.args.rcode 4096 edns.dnssec_ok) (c.options_len-len.ensures.len c.args.scope) in
    let whole : opt_octets c.args.rcode (opt_of c.args.edns.now c.args.scope) ≡ fixed ++ options =
    ap (λ (e : Option Edns). opt_octets c.args.rcode (opt_of e c.args.scope)) c.in-Some.is
    ∙ ap (λ t. t ++ options) (sym told) in
    two_pieces (take c.args.at c.args.buffer.now) (take (c.args.at + 11) c.put_at.new.buffer)
    (take c.add_options.result c.add_options.new.buffer) fixed options
    (opt_octets c.args.rcode (opt_of c.args.edns.now c.args.scope)) first c.add_options.ensures.written whole
