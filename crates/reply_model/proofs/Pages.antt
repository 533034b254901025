-- Pages of a small zone: from its front, from a name, from a type, and from a key.
use Rattle.std.proofs.Common.{◌≡◌, ℕ, List, [], ◌∷◌, Option, None, Some, refl}
use Rattle.std.specs.Prelude.{codes}
use Rattle.config_model.specs.RTypeRecord.{RType}
use Rattle.config_model.specs.RTypeRecord.TheVariants.{A, Aaaa}
use Rattle.config_model.specs.BodyRecord.TheVariants.{Values}
use Rattle.config_model.specs.RecordSetRecord.{RecordSet}
use Rattle.routing.specs.declared.policies.Routing.{Routing}
use Rattle.routing.specs.declared.policies.Routing.TheVariants as routing
use Rattle.reply_model.specs.Paging.{Start, next_of, page}

abbrev set_of : (label : List ℕ) → RType → Routing → RecordSet
set_of label rtype policy = record {
  name = label ∷ codes "com" ∷ [];
  rtype = rtype;
  routing = policy;
  body = Values 300 [];
  check = None;
}

abbrev first : RecordSet
first = set_of (codes "a") A routing.Simple

abbrev second : RecordSet
second = set_of (codes "a") Aaaa routing.Simple

abbrev third : RecordSet
third = set_of (codes "b") A (routing.Weighted (codes "x") 1)

abbrev fourth : RecordSet
fourth = set_of (codes "b") A (routing.Weighted (codes "y") 1)

abbrev zone : List RecordSet
zone = first ∷ second ∷ third ∷ fourth ∷ []

abbrev from : (label : Option (List ℕ)) → Option RType → Option (List ℕ) → Start
from None rtype ident = record { name = None; rtype = rtype; ident = ident }
from (Some label) rtype ident =
    record { name = Some (label ∷ codes "com" ∷ []); rtype = rtype; ident = ident }

pub front : page (from None None None) 3 zone ≡ first ∷ second ∷ third ∷ []
front = refl

pub behind_front : next_of (from None None None) 3 zone ≡ Some fourth
behind_front = refl

pub all_of_it : next_of (from None None None) 4 zone ≡ None
all_of_it = refl

pub of_a_name : page (from (Some (codes "b")) None None) 1 zone ≡ third ∷ []
of_a_name = refl

-- a name that is not there: what would stand behind it
pub between : page (from (Some (codes "ab")) None None) 300 zone ≡ third ∷ fourth ∷ []
between = refl

pub of_a_type : page (from (Some (codes "a")) (Some Aaaa) None) 1 zone ≡ second ∷ []
of_a_type = refl

pub of_a_key : page (from (Some (codes "b")) (Some A) (Some (codes "y"))) 300 zone ≡ fourth ∷ []
of_a_key = refl

-- an identifier that is not there
pub behind_key : page (from (Some (codes "b")) (Some A) (Some (codes "z"))) 300 zone ≡ []
behind_key = refl
