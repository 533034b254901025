-- What a run of `once` leaves of its input and its sink, by its status, and why each status comes.
use Rattle.std.specs.Prelude.{◌≡◌, ℕ, ◌<◌, ◌⊎◌, List, [], ◌++◌, length, take, Option, Some, ⊤}
use Rattle.octets.specs.Counts.{Rose}
use Rattle.r53_cli.specs.declared.once.Once.{Once}
use Rattle.r53_cli.specs.declared.status.Status.{Status}
use Rattle.r53_cli.specs.declared.status.Status.TheVariants as status
use Rattle.r53_cli.specs.Forms.{MayBeOnce}
use Rattle.r53_cli.specs.Once.{Answers}
use Rattle.r53_cli.specs.Streams.{input_limit, packet_limit, IsTooLong}

-- What the input has left, and what the sink holds, where these tell it.
pub record Outside : Type 0 where
  pub left : Option (List ℕ)
  pub held : Option (List ℕ)

-- the input was read to its end, within the limit
abbrev pub ReadsToEnd : (before after : Outside) → Type 0
ReadsToEnd before after =
    (input : List ℕ) → before.left ≡ Some input → (length input < input_limit) × (after.left ≡ Some [])

-- as many bytes as the limit were read, without an end
abbrev pub ReadsTooMuch : (before after : Outside) → Type 0
ReadsTooMuch before after = (input : List ℕ) → before.left ≡ Some input → IsTooLong input after.left

-- nothing was written
abbrev pub WritesNothing : (before after : Outside) → Type 0
WritesNothing before after = after.held ≡ before.held

-- the reply to the packet was appended
pub record Appends (once : Once) (packet held : List ℕ) (after : Option (List ℕ)) : Type 0 where
  pub output : List ℕ
  pub answers : Answers once packet output
  pub written : after ≡ Some (held ++ output)

-- a first part of the reply was appended, which isn't the whole
pub record AppendsPart (once : Once) (packet held : List ℕ) (after : Option (List ℕ)) : Type 0 where
  pub output : List ℕ
  pub answers : Answers once packet output
  pub n : ℕ
  pub part : n < length output
  pub written : after ≡ Some (held ++ take n output)

-- the packet is the input's first bytes
abbrev pub WritesReply : Once → (before after : Outside) → Type 0
WritesReply once before after =
    (input held : List ℕ) → before.left ≡ Some input → before.held ≡ Some held
    → Appends once (take packet_limit input) held after.held

abbrev pub WritesPart : Once → (before after : Outside) → Type 0
WritesPart once before after =
    (input held : List ℕ) → before.left ≡ Some input → before.held ≡ Some held
    → AppendsPart once (take packet_limit input) held after.held

-- what writing the reply to a packet leaves in the sink, by the status
abbrev pub Responds : Status → Once → (packet : List ℕ) → (before after : Option (List ℕ)) → Type 0
Responds status.Done once packet before after = (held : List ℕ) → before ≡ Some held → Appends once packet held after
Responds status.WriteFault once packet before after = (held : List ℕ) → before ≡ Some held → AppendsPart once packet held after
Responds status.ReadFault once packet before after = ⊥
Responds status.InputTooLong once packet before after = ⊥
Responds status.OutOfMemory once packet before after = ⊥
Responds status.Usage once packet before after = ⊥
Responds (status.NotAStore disk place) once packet before after = ⊥
Responds (status.AlreadyAStore disk) once packet before after = ⊥
Responds (status.BadTables line) once packet before after = ⊥
Responds status.DiskFault once packet before after = ⊥
Responds status.LinkFault once packet before after = ⊥

-- what a run with this record leaves, by its status
abbrev pub Ran : Status → Once → (before after : Outside) → Type 0
Ran status.Done once before after = ReadsToEnd before after × WritesReply once before after
Ran status.WriteFault once before after = ReadsToEnd before after × WritesPart once before after
Ran status.ReadFault once before after = WritesNothing before after
Ran status.InputTooLong once before after = ReadsTooMuch before after × WritesNothing before after
Ran status.OutOfMemory once before after = after ≡ before
Ran status.Usage once before after = ⊥
Ran (status.NotAStore disk place) once before after = ⊥
Ran (status.AlreadyAStore disk) once before after = ⊥
Ran (status.BadTables line) once before after = ⊥
Ran status.DiskFault once before after = ⊥
Ran status.LinkFault once before after = ⊥

-- A fault is told only where its count rose. The causes of the other statuses stand in what they leave, and those of other forms don't
-- come.
abbrev pub HasCause : Status → (input_before input_now output_before output_now : ℕ) → Type 0
HasCause status.ReadFault input_before input_now output_before output_now = Rose input_before input_now
HasCause status.WriteFault input_before input_now output_before output_now = Rose output_before output_now
HasCause status.Done input_before input_now output_before output_now = ⊤
HasCause status.Usage input_before input_now output_before output_now = ⊤
HasCause status.OutOfMemory input_before input_now output_before output_now = ⊤
HasCause status.InputTooLong input_before input_now output_before output_now = ⊤
HasCause (status.NotAStore disk place) input_before input_now output_before output_now = ⊥
HasCause (status.AlreadyAStore disk) input_before input_now output_before output_now = ⊥
HasCause (status.BadTables line) input_before input_now output_before output_now = ⊥
HasCause status.DiskFault input_before input_now output_before output_now = ⊥
HasCause status.LinkFault input_before input_now output_before output_now = ⊥

-- the run did what it was asked, or found no memory
abbrev pub IsCarriedOut : Status → Type 0
IsCarriedOut result = (result ≡ status.Done) ⊎ (result ≡ status.OutOfMemory)

-- words of no form: the run says so, or finds no memory to read an address among them
abbrev pub IsRefused : (words : List (List ℕ)) → Status → Type 0
IsRefused words result =
    (result ≡ status.Usage) ⊎ ((result ≡ status.OutOfMemory) × MayBeOnce words)
