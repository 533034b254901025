-- The forms of words.
use Rattle.std.proofs.Common.{◌≡◌, ℕ, ◌+◌, ◌*◌, ◌≤◌, List, [], ◌∷◌, length, arith, ap, ◌∙◌, sym, refl, codes, slice_index}
use Rattle.std.specs.Fmt.{decimal}
use Rattle.std.proofs.lemmas.Fmt.{decimal_injective}
use Rattle.rdata.specs.Laws.{OneReading}
use Rattle.r53_cli.specs.declared.form.Form.{Form}
use Rattle.r53_cli.specs.declared.form.Form.TheVariants as form
use Rattle.r53_cli.specs.Forms.{IsForm, HasNoForm}
use Rattle.r53_cli.specs.Once.{HasNoOnce}
use Rattle.r53_cli.proofs.OnceWords.{one_once}

-- the first letter of the first word
abbrev first_of : List (List ℕ) → ℕ
first_of [] = 0
first_of (word ∷ words) = slice_index word 0

-- how many words there are, and the first letter
abbrev key : List (List ℕ) → ℕ
key words = length words * 256 + first_of words

-- each form has a key of its own
abbrev pub key_of : Form → ℕ
key_of (form.Once once) = 1135
key_of form.Init = 361
key_of form.Run = 370
key_of form.Dump = 356
key_of (form.Drill events) = 612

pub keyed : (words : List (List ℕ)) (f : Form) → IsForm words f → key words ≡ key_of f
keyed words (form.Once once) is = ap key is.form
keyed words form.Init is = ap key is
keyed words form.Run is = ap key is
keyed words form.Dump is = ap key is
keyed words (form.Drill events) is = ap key is.0

-- words of two forms are of one key
clash : (words : List (List ℕ)) (f g : Form) → IsForm words f → IsForm words g → key_of f ≡ key_of g
clash words f g x y = sym (keyed words f x) ∙ keyed words g y

abbrev head_of : List (List ℕ) → List ℕ
head_of [] = []
head_of (word ∷ words) = word

abbrev second_of : List (List ℕ) → List ℕ
second_of [] = []
second_of (word ∷ words) = head_of words

same_events : (words : List (List ℕ)) (m n : ℕ) → IsForm words (form.Drill m)
    → IsForm words (form.Drill n) → m ≡ n
same_events words m n x y =
    let a = x.1 in
    let b = y.1 in
    let same : decimal m ≡ decimal n = sym (ap second_of x.0) ∙ ap second_of y.0 in
    decimal_injective m n (omega arith) (omega arith) same

-- words have one form, and one reading of it
pub one_form : OneReading → (words : List (List ℕ)) (f g : Form) → IsForm words f → IsForm words g
    → f ≡ g
one_form law words (form.Once once) (form.Once other) x y = ap form.Once (one_once law words once other x y)
one_form law words (form.Once once) form.Init x y =
    let same = clash words (form.Once once) form.Init x y in
    absurd (omega arith)
one_form law words (form.Once once) form.Run x y =
    let same = clash words (form.Once once) form.Run x y in
    absurd (omega arith)
one_form law words (form.Once once) form.Dump x y =
    let same = clash words (form.Once once) form.Dump x y in
    absurd (omega arith)
one_form law words (form.Once once) (form.Drill n) x y =
    let same = clash words (form.Once once) (form.Drill n) x y in
    absurd (omega arith)
one_form law words form.Init (form.Once other) x y =
    let same = clash words form.Init (form.Once other) x y in
    absurd (omega arith)
one_form law words form.Init form.Init x y = refl
one_form law words form.Init form.Run x y =
    let same = clash words form.Init form.Run x y in
    absurd (omega arith)
one_form law words form.Init form.Dump x y =
    let same = clash words form.Init form.Dump x y in
    absurd (omega arith)
one_form law words form.Init (form.Drill n) x y =
    let same = clash words form.Init (form.Drill n) x y in
    absurd (omega arith)
one_form law words form.Run (form.Once other) x y =
    let same = clash words form.Run (form.Once other) x y in
    absurd (omega arith)
one_form law words form.Run form.Init x y =
    let same = clash words form.Run form.Init x y in
    absurd (omega arith)
one_form law words form.Run form.Run x y = refl
one_form law words form.Run form.Dump x y =
    let same = clash words form.Run form.Dump x y in
    absurd (omega arith)
one_form law words form.Run (form.Drill n) x y =
    let same = clash words form.Run (form.Drill n) x y in
    absurd (omega arith)
one_form law words form.Dump (form.Once other) x y =
    let same = clash words form.Dump (form.Once other) x y in
    absurd (omega arith)
one_form law words form.Dump form.Init x y =
    let same = clash words form.Dump form.Init x y in
    absurd (omega arith)
one_form law words form.Dump form.Run x y =
    let same = clash words form.Dump form.Run x y in
    absurd (omega arith)
one_form law words form.Dump form.Dump x y = refl
one_form law words form.Dump (form.Drill n) x y =
    let same = clash words form.Dump (form.Drill n) x y in
    absurd (omega arith)
one_form law words (form.Drill m) (form.Once other) x y =
    let same = clash words (form.Drill m) (form.Once other) x y in
    absurd (omega arith)
one_form law words (form.Drill m) form.Init x y =
    let same = clash words (form.Drill m) form.Init x y in
    absurd (omega arith)
one_form law words (form.Drill m) form.Run x y =
    let same = clash words (form.Drill m) form.Run x y in
    absurd (omega arith)
one_form law words (form.Drill m) form.Dump x y =
    let same = clash words (form.Drill m) form.Dump x y in
    absurd (omega arith)
one_form law words (form.Drill m) (form.Drill n) x y = ap form.Drill (same_events words m n x y)

-- two words are those of a form where they are `drill` and a number of events
pub two_have_none : (word events : List ℕ)
    → ((n : ℕ) → word ≡ codes "drill" → events ≡ decimal n → n ≤ 100000 → ⊥)
    → HasNoForm (word ∷ events ∷ [])
two_have_none word events never (form.Once once) is =
    let same = ap length is.form in
    absurd (omega arith)
two_have_none word events never form.Init is =
    let same = ap length is in
    absurd (omega arith)
two_have_none word events never form.Run is =
    let same = ap length is in
    absurd (omega arith)
two_have_none word events never form.Dump is =
    let same = ap length is in
    absurd (omega arith)
two_have_none word events never (form.Drill n) is =
    never n (ap head_of is.0) (ap second_of is.0) is.1

-- words of no form are not those of `once`
pub none_is_not_once : (words : List (List ℕ)) → HasNoForm words → HasNoOnce words
none_is_not_once words never once asked = never (form.Once once) asked
