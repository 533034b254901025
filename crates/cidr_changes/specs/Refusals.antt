-- Refusals in their order, and what a call answers.
use Rattle.std.specs.Prelude.{◌≡◌, Bool, if◌then◌else◌, ◌⊎◌, List, [], ◌∷◌, Option, None, Some, Result, Err}
use Rattle.cidr_changes.specs.declared.faults.CidrFault.{CidrFault}
use Rattle.cidr_changes.specs.declared.faults.CidrFault.TheVariants.{OutOfMemory}

-- a refusal, where a rule holds
abbrev pub refuse_if : Bool → CidrFault → Option CidrFault
refuse_if holds fault = if holds then Some fault else None

-- the first of several
abbrev pub first_of : List (Option CidrFault) → Option CidrFault
first_of [] = None
first_of (None ∷ rules) = first_of rules
first_of (Some fault ∷ rules) = Some fault

-- an answer, unless something is refused
abbrev pub unless : {X : Type 0} → Option CidrFault → Result X CidrFault → Result X CidrFault
unless None answer = answer
unless (Some fault) answer = Err fault

-- A call answers what is defined, or that memory was wanted.
abbrev pub Gives : {X : Type 0} → (result defined : Result X CidrFault) → Type 0
Gives result defined = (result ≡ Err OutOfMemory) ⊎ (result ≡ defined)

-- A fault is the one that is defined, or tells that memory was wanted.
abbrev pub IsFaultOf : {X : Type 0} → (defined : Result X CidrFault) → CidrFault → Type 0
IsFaultOf defined fault = (fault ≡ OutOfMemory) ⊎ (defined ≡ Err fault)
