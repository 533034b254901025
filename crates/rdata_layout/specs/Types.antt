-- The types of records: their numbers and texts (RFC 1035, 3.2.2; RFC 3596, 2.1; RFC 2782;
-- RFC 8659, 4.1; RFC 4408, 3.1.1).
use Rattle.std.specs.Prelude.{ℕ, List, codes}
use Rattle.rdata_layout.specs.declared.types.RType.{RType}
use Rattle.rdata_layout.specs.declared.types.RType.TheVariants.{A, Ns, Cname, Soa, Ptr, Mx, Txt, Aaaa, Srv, Spf, Caa}

abbrev pub number_of : RType → ℕ
number_of A = 1
number_of Ns = 2
number_of Cname = 5
number_of Soa = 6
number_of Ptr = 12
number_of Mx = 15
number_of Txt = 16
number_of Aaaa = 28
number_of Srv = 33
number_of Spf = 99
number_of Caa = 257

abbrev pub text_of : RType → List ℕ
text_of A = codes "A"
text_of Ns = codes "NS"
text_of Cname = codes "CNAME"
text_of Soa = codes "SOA"
text_of Ptr = codes "PTR"
text_of Mx = codes "MX"
text_of Txt = codes "TXT"
text_of Aaaa = codes "AAAA"
text_of Srv = codes "SRV"
text_of Spf = codes "SPF"
text_of Caa = codes "CAA"
