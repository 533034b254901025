-- How replies end.
use Rattle.std.proofs.Common.{◌≡◌, ℕ, List, ap, ◌∙◌, Bool, Option}
use Rattle.dns_message.specs.declared.query.Edns.{Edns}
use Rattle.dns_wire.specs.Draft.{opt_of}
use Rattle.dns_wire.specs.Message.{Message, octets_within}

-- the octets of a finished reply, by what its parts are
pub finished : (m : Message) (aa : Bool) (rcode code : ℕ) (edns other : Option Edns)
    (limit most : ℕ) (bytes : List ℕ)
    → bytes ≡ octets_within (record m { aa = aa; rcode = rcode; opt = opt_of edns 0 }) limit
    → rcode ≡ code → edns ≡ other → limit ≡ most
    → bytes ≡ octets_within (record m { aa = aa; rcode = code; opt = opt_of other 0 }) most
finished m aa rcode code edns other limit most bytes written same_code same_edns same_limit =
    written
    ∙ ap (λ n. octets_within (record m { aa = aa; rcode = n; opt = opt_of edns 0 }) limit) same_code
    ∙ ap (λ e. octets_within (record m { aa = aa; rcode = code; opt = opt_of e 0 }) limit) same_edns
    ∙ ap (octets_within (record m { aa = aa; rcode = code; opt = opt_of other 0 })) same_limit
