-- The types of records by their texts.
use Rattle.std.proofs.Common.{◌≡◌, ℕ, false, List, [], ◌∷◌, Option, None, Some, refl, sym, ap, ◌∙◌}
use Rattle.std.specs.Prelude.{◌≢◌, IfSome, IfNone}
use Rattle.std.specs.Str.{bytes_eq}
use Rattle.std.proofs.lemmas.Bool.{false_from_ne_true}
use Rattle.std.proofs.lemmas.Slice.Eq.{bytes_eq-Decides}
use Rattle.rdata_layout.specs.declared.types.RType.{RType}
use Rattle.rdata_layout.specs.declared.types.RType.TheVariants as rtype
use Rattle.rdata_layout.specs.Types.{text_of}
use Rattle.line_reading.specs.Reading.{named}
use Rattle.line_words.specs.Words.{types, type_named}

type_again : (t : RType) → type_named (text_of t) ≡ Some t
unfolding type_named
type_again rtype.A = refl
type_again rtype.Ns = refl
type_again rtype.Cname = refl
type_again rtype.Soa = refl
type_again rtype.Ptr = refl
type_again rtype.Mx = refl
type_again rtype.Txt = refl
type_again rtype.Aaaa = refl
type_again rtype.Srv = refl
type_again rtype.Spf = refl
type_again rtype.Caa = refl

none_named : (ts : List RType) (s : List ℕ) → ((t : RType) → text_of t ≢ s)
    → named text_of ts s ≡ None
none_named [] s h = refl
none_named (t ∷ ts) s h =
    let e : bytes_eq s (text_of t)
    ≡ false = false_from_ne_true _ (λ q. h t (sym ((bytes_eq-Decides s (text_of t)).0 q))) in
    rw e (none_named ts s h)

pub type_found : (s : List ℕ) (r : Option RType) → IfSome r (λ t. text_of t ≡ s)
    → IfNone r ((t : RType) → text_of t ≢ s) → r ≡ type_named s
unfolding type_named
type_found s None some none = sym (none_named types s none)
type_found s (Some t) some none = sym (ap type_named (sym some) ∙ type_again t)
