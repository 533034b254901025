-- Laws over the definitions of this crate.
use Rattle.std.specs.Prelude.{◌≡◌, ℕ, List}
use Rattle.r53_cli.specs.declared.form.Form.{Form}
use Rattle.r53_cli.specs.declared.once.Once.{Once}
use Rattle.r53_cli.specs.declared.status.Status.{Status}
use Rattle.r53_cli.specs.Forms.{IsForm}
use Rattle.r53_cli.specs.Once.{Answers}
use Rattle.r53_cli.specs.Status.{IsNumbered, text_of}

-- Words have one form, and one reading of it.
abbrev pub OneForm : Type 0
OneForm = (words : List (List ℕ)) (form other : Form) → IsForm words form → IsForm words other → form ≡ other

-- A packet has one reply.
abbrev pub OneReply : Type 0
OneReply = (once : Once) (packet output other : List ℕ) → Answers once packet output → Answers once packet other → output ≡ other

-- A line is that of one status.
abbrev pub OneStatus : Type 0
OneStatus = (status other : Status) → IsNumbered status → IsNumbered other → text_of status ≡ text_of other → status ≡ other
