-- The type of a number, and that of a text.
use Rattle.std.proofs.Common.{◌≡◌, ℕ, List, [], ◌∷◌, refl, ap, sym, ◌∙◌}
use Rattle.std.specs.Prelude.{Bool, if◌then◌else◌, nat_eq}
use Rattle.std.specs.Str.{bytes_eq}
use Rattle.rdata_layout.specs.declared.types.RType.{RType}
use Rattle.rdata_layout.specs.declared.types.RType.TheVariants.{A, Ns, Cname, Soa, Ptr, Mx, Txt, Aaaa, Srv, Spf, Caa}
use Rattle.rdata_layout.specs.Types.{number_of, text_of}

-- the first type with this property, and A where none has it
abbrev first_with : (RType → Bool) → List RType → RType
first_with has [] = A
first_with has (rtype ∷ rest) = if has rtype then rtype else first_with has rest

abbrev all : List RType
all = A ∷ Ns ∷ Cname ∷ Soa ∷ Ptr ∷ Mx ∷ Txt ∷ Aaaa ∷ Srv ∷ Spf ∷ Caa ∷ []

abbrev of_number : ℕ → RType
of_number n = first_with (λ rtype. nat_eq (number_of rtype) n) all

abbrev of_text : List ℕ → RType
of_text text = first_with (λ rtype. bytes_eq (text_of rtype) text) all

number_back : (rtype : RType) → of_number (number_of rtype) ≡ rtype
number_back A = refl
number_back Ns = refl
number_back Cname = refl
number_back Soa = refl
number_back Ptr = refl
number_back Mx = refl
number_back Txt = refl
number_back Aaaa = refl
number_back Srv = refl
number_back Spf = refl
number_back Caa = refl

text_back : (rtype : RType) → of_text (text_of rtype) ≡ rtype
text_back A = refl
text_back Ns = refl
text_back Cname = refl
text_back Soa = refl
text_back Ptr = refl
text_back Mx = refl
text_back Txt = refl
text_back Aaaa = refl
text_back Srv = refl
text_back Spf = refl
text_back Caa = refl

pub own_number : (rtype other : RType) → number_of rtype ≡ number_of other → rtype ≡ other
own_number rtype other e = sym (number_back rtype) ∙ ap of_number e ∙ number_back other

pub own_text : (rtype other : RType) → text_of rtype ≡ text_of other → rtype ≡ other
own_text rtype other e = sym (text_back rtype) ∙ ap of_text e ∙ text_back other
