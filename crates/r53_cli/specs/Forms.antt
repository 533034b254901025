-- The forms of words: what a run is asked for.
use Rattle.std.specs.Prelude.{◌≡◌, ℕ, ◌≤◌, List, [], ◌∷◌, codes, ⊤}
use Rattle.std.specs.Fmt.{decimal}
use Rattle.r53_cli.specs.declared.form.Form.{Form}
use Rattle.r53_cli.specs.declared.form.Form.TheVariants as form
use Rattle.r53_cli.specs.Once.{IsOnce}

-- The words of a form. The number of events is written in decimal digits without leading zeros.
abbrev pub IsForm : List (List ℕ) → Form → Type 0
IsForm words (form.Once once) = IsOnce words once
IsForm words form.Init = words ≡ codes "init" ∷ []
IsForm words form.Run = words ≡ codes "run" ∷ []
IsForm words form.Dump = words ≡ codes "dump" ∷ []
IsForm words (form.Drill events) = (words ≡ codes "drill" ∷ decimal events ∷ []) × (events ≤ 100000)

-- the events of a drill are at most as many as its words may ask for
abbrev pub IsFew : Form → Type 0
IsFew (form.Once once) = ⊤
IsFew form.Init = ⊤
IsFew form.Run = ⊤
IsFew form.Dump = ⊤
IsFew (form.Drill events) = events ≤ 100000

-- the words of some form
abbrev pub HasForm : List (List ℕ) → Type 0
HasForm words = (form : Form) × IsForm words form

-- the words of no form
abbrev pub HasNoForm : List (List ℕ) → Type 0
HasNoForm words = (form : Form) → IsForm words form → ⊥

-- Four words, the first of which is `once`: the only ones for which an address is read.
pub record MayBeOnce (words : List (List ℕ)) : Type 0 where
  pub name : List ℕ
  pub ttl : List ℕ
  pub address : List ℕ
  pub words_are : words ≡ codes "once" ∷ name ∷ ttl ∷ address ∷ []
