-- Reading the objects of control lines, with the first fault that is met.
use Rattle.std.specs.Prelude.{◌≡◌, ℕ, suc, ◌<◌, ◌^◌, List, [], ◌∷◌, Bool, true, false, ◌&&◌, ◌||◌}
use Rattle.std.specs.Prelude.{is_some, if◌then◌else◌, Option, None, Some, Result, Ok, Err, ⊤}
use Rattle.std.specs.Str.{bytes_eq}
use Rattle.serde_json.specs.Data.{Data, Members, no_members, member, Items, no_items, item}
use Rattle.serde_json.specs.Find.{get, as_object}
use Rattle.serde_json.specs.declared.value.Value.{Value}
use Rattle.serde_json.specs.View.{view}
use Rattle.std.specs.Borrow.{Bor}
use Rattle.line_faults.specs.Texts.{text_of}
use Rattle.line_faults.specs.Faults.{told_in}
use Rattle.line_faults.specs.declared.member.Member.{Member}
use Rattle.line_faults.specs.declared.fault.LineReason.{LineReason}
use Rattle.line_faults.specs.declared.fault.LineReason.TheVariants.{Missing, WrongKind, UnknownMember}
use Rattle.line_faults.specs.declared.fault.LineFault.{LineFault}
use Rattle.line_faults.specs.declared.fault.LineFault.TheVariants.{BadLine, Unsupported, OutOfMemory}

-- What a function that takes memory returned is what reading gives, unless memory ran out.
abbrev pub Faults : {A : Type 0} → LineFault → Result A LineFault → Type 0
Faults (BadLine reason m change) read = read ≡ Err (BadLine reason m change)
Faults (Unsupported m change) read = read ≡ Err (Unsupported m change)
Faults OutOfMemory read = ⊤

abbrev pub Gives : {A : Type 0} → Result A LineFault → Result A LineFault → Type 0
Gives (Ok x) read = read ≡ Ok x
Gives (Err fault) read = Faults fault read

-- the same of what it returned as it is seen by view
abbrev pub ReadsAs : {A B : Type 0} → (A → B) → Result A LineFault → Result B LineFault → Type 0
ReadsAs view (Ok x) read = read ≡ Ok (view x)
ReadsAs view (Err fault) read = Faults fault read

-- What a function that takes no memory returned, as it is seen by view, is what reading gives.
abbrev pub TellsAs : {A B : Type 0} → (A → B) → Result A LineFault → Result B LineFault → Type 0
TellsAs view (Ok x) read = read ≡ Ok (view x)
TellsAs view (Err fault) read = read ≡ Err fault

-- One thing after another: the first fault is the answer.
infixl 10 ◌>>=◌
abbrev pub ◌>>=◌ : {A B : Type 0} → Result A LineFault → (A → Result B LineFault)
    → Result B LineFault
(Ok x) >>= f = f x
(Err fault) >>= f = Err fault

-- a fault in a member, outside of changes
abbrev pub bad : {A : Type 0} → LineReason → Member → Result A LineFault
bad reason m = Err (BadLine reason m None)

abbrev pub unsupported : {A : Type 0} → Member → Result A LineFault
unsupported m = Err (Unsupported m None)

-- what is there, or a fault
abbrev pub or_bad : {A : Type 0} → Option A → LineReason → Member → Result A LineFault
or_bad None reason m = bad reason m
or_bad (Some x) reason m = Ok x

-- a rule that holds, or a fault
abbrev pub holds_or_bad : Bool → LineReason → Member → Result ⊤ LineFault
holds_or_bad true reason m = Ok tt
holds_or_bad false reason m = bad reason m

-- the first of these members that the object has
abbrev pub first_of : List Member → Data → Option Member
first_of [] o = None
first_of (m ∷ ms) o = if is_some (get (text_of m) o) then Some m else first_of ms o

-- the names of all members are among these
abbrev pub is_among : List Member → List ℕ → Bool
is_among [] key = false
is_among (m ∷ ms) key = bytes_eq key (text_of m) || is_among ms key

abbrev pub are_among : List Member → Members → Bool
are_among ms no_members = true
are_among ms (member key d more) = is_among ms key && are_among ms more

abbrev pub has_none : Option Member → Result ⊤ LineFault
has_none None = Ok tt
has_none (Some m) = unsupported m

abbrev pub has_only : Member → List Member → Option Members → Result ⊤ LineFault
has_only holder ms None = bad WrongKind holder
has_only holder ms (Some members) = holds_or_bad (are_among ms members) UnknownMember holder

-- The value of the member `holder` is an object. It has none of the unsupported members, of which
-- the first in the order given is told (byte order, in each line), and then no others than these.
unfoldable pub object : (holder : Member) (unsupported members : List Member) → Data
    → Result ⊤ LineFault
object holder unsupported members o = do
  _ ← or_bad (as_object o) WrongKind holder
  _ ← has_none (first_of unsupported o)
  has_only holder members (as_object o)

-- A member that has to be there, and one that may be absent, each read in its turn.
abbrev pub found : {A : Type 0} → Member → (Member → Data → Result A LineFault) → Option Data
    → Result A LineFault
found m read None = bad Missing m
found m read (Some d) = read m d

abbrev pub if_found : {A : Type 0} → Member → (Member → Data → Result A LineFault) → Option Data
    → Result (Option A) LineFault
if_found m read None = Ok None
if_found m read (Some d) = read m d >>= λ x. Ok (Some x)

abbrev pub required : {A : Type 0} → Member → (Member → Data → Result A LineFault) → Data
    → Result A LineFault
required m read o = found m read (get (text_of m) o)

abbrev pub optional : {A : Type 0} → Member → (Member → Data → Result A LineFault) → Data
    → Result (Option A) LineFault
optional m read o = if_found m read (get (text_of m) o)

-- The value of a member that has to be there.
abbrev pub IsRequired : Member → Option Data → Result (Bor Value) LineFault → Type 0
IsRequired m found (Ok v) = found ≡ Some (view v.now)
IsRequired m found (Err fault) = (found ≡ None) × (fault ≡ BadLine Missing m None)

-- each item of a list with its index, one after another, from an index on
abbrev pub each : {A : Type 0} → (ℕ → Data → Result A LineFault) → ℕ → Items
    → Result (List A) LineFault
each read k no_items = Ok []
each read k (item d ds) = read k d >>= λ x. each read (suc k) ds >>= λ xs. Ok (x ∷ xs)

-- What a function that reads a member returns is what reading it gives; and where it takes
-- memory, unless that ran out.
abbrev pub TellsMember : {A : Type 0} → (Bor Value → Result A LineFault → Type 0)
    → (Data → Result A LineFault) → Type 0
TellsMember {A} gives read =
    (v : Bor Value) (r : Result A LineFault) → gives v r → r ≡ read (view v.now)

abbrev pub ReadsMember : {A : Type 0} → (Bor Value → Result A LineFault → Type 0)
    → (Data → Result A LineFault) → Type 0
ReadsMember {A} gives read =
    (v : Bor Value) (r : Result A LineFault) → gives v r → Gives r (read (view v.now))

-- the same of an item of a list
abbrev pub ReadsItem : {A : Type 0} → (ℕ → Bor Value → Result A LineFault → Type 0)
    → (ℕ → Data → Result A LineFault) → Type 0
ReadsItem {A} gives read = (k : ℕ) (v : Bor Value) (r : Result A LineFault)
    → k < 2 ^ 16 → gives k v r → Gives r (read k (view v.now))

-- a fault inside the change of this index
abbrev pub in_change : {A : Type 0} → ℕ → Result A LineFault → Result A LineFault
in_change k (Ok x) = Ok x
in_change k (Err fault) = Err (told_in k fault)

-- the first of these whose text it is
abbrev pub named : {A : Type 0} → (A → List ℕ) → List A → List ℕ → Option A
named text_of [] s = None
named text_of (x ∷ xs) s = if bytes_eq s (text_of x) then Some x else named text_of xs s
