-- A batch has one answer.
use Rattle.std.proofs.Common.{◌≡◌, ◌≢◌, ℕ, zero, suc, ◌<◌, List, [], ◌∷◌, length, take, ap, ◌∙◌, sym, refl, Some, None, subst, arith, inl, inr}
use Rattle.std.specs.Prelude.{◌⊎◌, slice_get, Option, Result, Ok, Err}
use Rattle.std.proofs.lemmas.Option.{slice_get_within}
use Rattle.zone_model.specs.ReasonRecord.{Reason}
use Rattle.zone_model.specs.RecordSetRecord.{RecordSet}
use Rattle.zone_model.specs.Reasons.{IsFirst}
use Rattle.zone_model.specs.Sets.{key_of}
use Rattle.zone_model.proofs.Firsts.{one_first}
use Rattle.batch_model.specs.declared.batches.Action.{Action}
use Rattle.batch_model.specs.declared.batches.Action.TheVariants as action
use Rattle.batch_model.specs.declared.batches.Change.{Change}
use Rattle.batch_model.specs.declared.refusals.BatchRefusal.{BatchRefusal}
use Rattle.batch_model.specs.declared.refusals.BatchRefusal.TheVariants as batch
use Rattle.batch_model.specs.declared.refusals.ChangeRefusal.{ChangeRefusal}
use Rattle.batch_model.specs.declared.refusals.ChangeRefusal.TheVariants as refusal
use Rattle.batch_model.specs.Batches.{IsFirstInvalid, IsValid, IsWithinLimits, Leaves, IsRefusedAt, BreaksAfter, Prepares}
use Rattle.zone_model.specs.Placing.{IsThere}
use Rattle.batch_model.specs.Changing.{IsThereAsGiven, Makes, Applies}
use Rattle.batch_model.specs.Limits.{HasTooManyValues, HasTooManyCharacters, HasLongSet}
use Rattle.batch_model.specs.Rules.{Rule, OnePolicy, CnameAlone, OwnPlace, GroupSize, NoneBreaksBefore, MeetsAll, IsFirstBreak, rules}

-- of two numbers one is below the other, or they are equal
pub data Order (j k : ℕ) : Type 0 where
  Below : j < k → Order j k
  Above : k < j → Order j k
  Even : j ≡ k → Order j k

pub order : (j k : ℕ) → Order j k
order zero zero = Even refl
order zero (suc k) = Below (omega arith)
order (suc j) zero = Above (omega arith)
order (suc j) (suc k) =
    elim (order j k) [
      | Below lt ↦ Below (omega (arith, lt))
      | Above lt ↦ Above (omega (arith, lt))
      | Even e ↦ Even (ap suc e)
    ]

there_so : (sets : List RecordSet) (given : RecordSet) → IsThereAsGiven sets given
    → IsThere sets (key_of given)
there_so sets given h = (h.0, h.1)

not_both : action.Create ≡ action.Delete → ⊥
not_both e = subst (λ a. is_create a) e tt
  where
    is_create : Action → Type 0
    is_create action.Create = Unit {0}
    is_create action.Delete = ⊥
    is_create action.Upsert = ⊥

-- a change that is made isn't refused
gives_clash : (sets : List RecordSet) (apex : List (List ℕ)) (change : Change)
    (after : List RecordSet) (why : ChangeRefusal)
    → why ≢ refusal.OutOfMemory → Applies sets apex change (Ok after)
    → Applies sets apex change (Err why) → ⊥
gives_clash sets apex change after refusal.NotInZone memory g f = f g.0
gives_clash sets apex change after refusal.AlreadyExists memory g f =
    let made = subst (λ a. Makes a change.set sets apex after) f.1 g.1 in made.0 f.2
gives_clash sets apex change after refusal.NotFound memory g f =
    let made = subst (λ a. Makes a change.set sets apex after) f.1 g.1 in
    f.2 (there_so sets change.set made.0)
gives_clash sets apex change after refusal.ValuesDiffer memory g f =
    let made = subst (λ a. Makes a change.set sets apex after) f.1 g.1 in f.3 made.0
gives_clash sets apex change after refusal.ApexProtected memory g f =
    let made = subst (λ a. Makes a change.set sets apex after) f.1 g.1 in made.1 f.3
gives_clash sets apex change after refusal.OutOfMemory memory g f = memory refl

-- a change makes one list
makes_one : (which : Action) (given : RecordSet) (sets : List RecordSet) (apex : List (List ℕ))
    (after other : List RecordSet)
    → Makes which given sets apex after → Makes which given sets apex other → after ≡ other
makes_one action.Create given sets apex after other g h = g.1 ∙ sym h.1
makes_one action.Delete given sets apex after other g h = g.2 ∙ sym h.2
makes_one action.Upsert given sets apex after other g h = g ∙ sym h

gives_one : (sets : List RecordSet) (apex : List (List ℕ)) (change : Change)
    (after other : List RecordSet)
    → Applies sets apex change (Ok after) → Applies sets apex change (Ok other) → after ≡ other
gives_one sets apex change after other g h =
    makes_one change.action change.set sets apex after other g.1 h.1

-- a change is refused for one reason
one_refusal : (sets : List RecordSet) (apex : List (List ℕ)) (change : Change)
    (why other : ChangeRefusal)
    → why ≢ refusal.OutOfMemory → other ≢ refusal.OutOfMemory → Applies sets apex change (Err why)
    → Applies sets apex change (Err other) → why ≡ other
one_refusal sets apex change refusal.NotInZone refusal.NotInZone memory enough f g = refl
one_refusal sets apex change refusal.NotInZone refusal.AlreadyExists memory enough f g =
    absurd (f g.0)
one_refusal sets apex change refusal.NotInZone refusal.NotFound memory enough f g = absurd (f g.0)
one_refusal sets apex change refusal.NotInZone refusal.ValuesDiffer memory enough f g =
    absurd (f g.0)
one_refusal sets apex change refusal.NotInZone refusal.ApexProtected memory enough f g =
    absurd (f g.0)
one_refusal sets apex change refusal.NotInZone refusal.OutOfMemory memory enough f g =
    absurd (enough refl)
one_refusal sets apex change refusal.AlreadyExists refusal.NotInZone memory enough f g =
    absurd (g f.0)
one_refusal sets apex change refusal.AlreadyExists refusal.AlreadyExists memory enough f g = refl
one_refusal sets apex change refusal.AlreadyExists refusal.NotFound memory enough f g =
    absurd (not_both (sym f.1 ∙ g.1))
one_refusal sets apex change refusal.AlreadyExists refusal.ValuesDiffer memory enough f g =
    absurd (not_both (sym f.1 ∙ g.1))
one_refusal sets apex change refusal.AlreadyExists refusal.ApexProtected memory enough f g =
    absurd (not_both (sym f.1 ∙ g.1))
one_refusal sets apex change refusal.AlreadyExists refusal.OutOfMemory memory enough f g =
    absurd (enough refl)
one_refusal sets apex change refusal.NotFound refusal.NotInZone memory enough f g = absurd (g f.0)
one_refusal sets apex change refusal.NotFound refusal.AlreadyExists memory enough f g =
    absurd (not_both (sym g.1 ∙ f.1))
one_refusal sets apex change refusal.NotFound refusal.NotFound memory enough f g = refl
one_refusal sets apex change refusal.NotFound refusal.ValuesDiffer memory enough f g =
    absurd (f.2 g.2)
one_refusal sets apex change refusal.NotFound refusal.ApexProtected memory enough f g =
    absurd (f.2 (there_so sets change.set g.2))
one_refusal sets apex change refusal.NotFound refusal.OutOfMemory memory enough f g =
    absurd (enough refl)
one_refusal sets apex change refusal.ValuesDiffer refusal.NotInZone memory enough f g =
    absurd (g f.0)
one_refusal sets apex change refusal.ValuesDiffer refusal.AlreadyExists memory enough f g =
    absurd (not_both (sym g.1 ∙ f.1))
one_refusal sets apex change refusal.ValuesDiffer refusal.NotFound memory enough f g =
    absurd (g.2 f.2)
one_refusal sets apex change refusal.ValuesDiffer refusal.ValuesDiffer memory enough f g = refl
one_refusal sets apex change refusal.ValuesDiffer refusal.ApexProtected memory enough f g =
    absurd (f.3 g.2)
one_refusal sets apex change refusal.ValuesDiffer refusal.OutOfMemory memory enough f g =
    absurd (enough refl)
one_refusal sets apex change refusal.ApexProtected refusal.NotInZone memory enough f g =
    absurd (g f.0)
one_refusal sets apex change refusal.ApexProtected refusal.AlreadyExists memory enough f g =
    absurd (not_both (sym g.1 ∙ f.1))
one_refusal sets apex change refusal.ApexProtected refusal.NotFound memory enough f g =
    absurd (g.2 (there_so sets change.set f.2))
one_refusal sets apex change refusal.ApexProtected refusal.ValuesDiffer memory enough f g =
    absurd (g.3 f.2)
one_refusal sets apex change refusal.ApexProtected refusal.ApexProtected memory enough f g = refl
one_refusal sets apex change refusal.ApexProtected refusal.OutOfMemory memory enough f g =
    absurd (enough refl)
one_refusal sets apex change refusal.OutOfMemory other memory enough f g = absurd (memory refl)

leaves_one : (sets : List RecordSet) (apex : List (List ℕ)) (changes : List Change)
    (after other : List RecordSet)
    → Leaves sets apex changes after → Leaves sets apex changes other → after ≡ other
leaves_one sets apex [] after other l m = l ∙ sym m
leaves_one sets apex (change ∷ changes) after other l m =
    let same = gives_one sets apex change l.0 m.0 l.1 m.1 in
    leaves_one m.0 apex changes after other (subst (λ s. Leaves s apex changes after) same l.2) m.2

-- the first change that is refused, after the others
pub record FirstRefused (sets : List RecordSet) (apex : List (List ℕ)) (changes : List Change)
    (i : ℕ) (why : ChangeRefusal) : Type 0 where
  pub change : Change
  pub there : slice_get changes i ≡ Some change
  pub before : List RecordSet
  pub applied : Leaves sets apex (take i changes) before
  pub refused : Applies before apex change (Err why)
  pub memory : why ≢ refusal.OutOfMemory

-- it is refused at the first place
at_first : (sets : List RecordSet) (apex : List (List ℕ)) (change : Change) (changes : List Change)
    (why : ChangeRefusal)
    → FirstRefused sets apex (change ∷ changes) 0 why → Applies sets apex change (Err why)
at_first sets apex change changes why f =
    let same : f.change ≡ change = (let e = f.there in grind (arith, e)) in
    subst (λ (c : Change). Applies sets apex c (Err why)) same
    (subst (λ s. Applies s apex f.change (Err why)) f.applied f.refused)

-- the first change is made
past_first : (sets : List RecordSet) (apex : List (List ℕ)) (change : Change)
    (changes : List Change) (i : ℕ) (why : ChangeRefusal)
    → FirstRefused sets apex (change ∷ changes) (suc i) why
    → (middle : List RecordSet) × Applies sets apex change (Ok middle)
    × FirstRefused middle apex changes i why
past_first sets apex change changes i why f = (
  f.applied.0,
  f.applied.1,
  record {
    change = f.change;
    there = f.there;
    before = f.before;
    applied =
        f.applied.2;
    refused = f.refused;
    memory = f.memory;
  },
)

-- there is one first refusal
one_refused : (changes : List Change) (sets : List RecordSet) (apex : List (List ℕ)) (i j : ℕ)
    (why other : ChangeRefusal)
    → FirstRefused sets apex changes i why → FirstRefused sets apex changes j other
    → (i ≡ j) × (why ≡ other)
one_refused [] sets apex i j why other f g = absurd (let e = f.there in grind (arith, e))
one_refused (change ∷ changes) sets apex zero zero why other f g = (
  refl,
  one_refusal sets apex change why other f.memory g.memory
      (at_first sets apex change changes why f) (at_first sets apex change changes other g),
)
one_refused (change ∷ changes) sets apex zero (suc j) why other f g =
    let p = past_first sets apex change changes j other g in
    absurd (gives_clash sets apex change p.0 why f.memory p.1
    (at_first sets apex change changes why f))
one_refused (change ∷ changes) sets apex (suc i) zero why other f g =
    let p = past_first sets apex change changes i why f in
    absurd (gives_clash sets apex change p.0 other g.memory p.1
    (at_first sets apex change changes other g))
one_refused (change ∷ changes) sets apex (suc i) (suc j) why other f g =
    let p = past_first sets apex change changes i why f in
    let q = past_first sets apex change changes j other g in
    let same = gives_one sets apex change p.0 q.0 p.1 q.1 in
    let r = one_refused changes q.0 apex i j why other
    (subst (λ s. FirstRefused s apex changes i why) same p.2) q.2 in
    (ap suc r.0, r.1)

-- where a change is refused, not all are made
refused_or_made : (changes : List Change) (sets : List RecordSet) (apex : List (List ℕ)) (i : ℕ)
    (why : ChangeRefusal) (after : List RecordSet)
    → FirstRefused sets apex changes i why → Leaves sets apex changes after → ⊥
refused_or_made [] sets apex i why after f l = let e = f.there in grind (arith, e)
refused_or_made (change ∷ changes) sets apex zero why after f l =
    gives_clash sets apex change l.0 why f.memory l.1 (at_first sets apex change changes why f)
refused_or_made (change ∷ changes) sets apex (suc i) why after f l =
    let p = past_first sets apex change changes i why f in
    let same = gives_one sets apex change p.0 l.0 p.1 l.1 in
    refused_or_made changes l.0 apex i why after
    (subst (λ s. FirstRefused s apex changes i why) same p.2) l.2

-- of one rule there is one first set that breaks it
one_place : (rule : Rule) (sets : List RecordSet) (apex : List (List ℕ)) (set other : RecordSet)
    → IsFirstBreak rule sets apex set → IsFirstBreak rule sets apex other → set ≡ other
one_place rule sets apex set other f g = by (order f.at g.at)
  where
    by : Order f.at g.at → set ≡ other
    by (Below lt) = absurd (g.first f.at lt (set, f.there, f.breaks))
    by (Above lt) = absurd (f.first g.at lt (other, g.there, g.breaks))
    by (Even e) = let here : slice_get sets g.at ≡ Some set =
        subst (λ n. slice_get sets n ≡ Some set) e f.there in let there = g.there in
        grind (arith, here, there)

-- a rule that is met isn't broken
met : (rule : Rule) (sets : List RecordSet) (apex : List (List ℕ)) (set : RecordSet)
    → IsFirstBreak rule sets apex set → NoneBreaksBefore rule sets apex (length sets) → ⊥
met rule sets apex set f none =
    none f.at (slice_get_within sets f.at set f.there) (set, f.there, f.breaks)

-- what is told of a set that breaks a rule
abbrev told : Rule → RecordSet → BatchRefusal
told OnePolicy set = batch.MixedPolicies (key_of set)
told CnameAlone set = batch.CnameConflict set.name
told OwnPlace set = batch.SamePlace (key_of set)
told GroupSize set = batch.GroupFull set.name set.rtype

one_told : (rule other_rule : Rule) (sets : List RecordSet) (apex : List (List ℕ))
    (set other : RecordSet)
    → IsFirstBreak rule sets apex set → IsFirstBreak other_rule sets apex other
    → told rule set ≡ told other_rule other
one_told OnePolicy OnePolicy sets apex set other f g =
    ap (told OnePolicy) (one_place OnePolicy sets apex set other f g)
one_told OnePolicy CnameAlone sets apex set other f g =
    absurd (met OnePolicy sets apex set f g.earlier_rules.0)
one_told OnePolicy OwnPlace sets apex set other f g =
    absurd (met OnePolicy sets apex set f g.earlier_rules.0)
one_told OnePolicy GroupSize sets apex set other f g =
    absurd (met OnePolicy sets apex set f g.earlier_rules.0)
one_told CnameAlone OnePolicy sets apex set other f g =
    absurd (met OnePolicy sets apex other g f.earlier_rules.0)
one_told CnameAlone CnameAlone sets apex set other f g =
    ap (told CnameAlone) (one_place CnameAlone sets apex set other f g)
one_told CnameAlone OwnPlace sets apex set other f g =
    absurd (met CnameAlone sets apex set f g.earlier_rules.1.0)
one_told CnameAlone GroupSize sets apex set other f g =
    absurd (met CnameAlone sets apex set f g.earlier_rules.1.0)
one_told OwnPlace OnePolicy sets apex set other f g =
    absurd (met OnePolicy sets apex other g f.earlier_rules.0)
one_told OwnPlace CnameAlone sets apex set other f g =
    absurd (met CnameAlone sets apex other g f.earlier_rules.1.0)
one_told OwnPlace OwnPlace sets apex set other f g =
    ap (told OwnPlace) (one_place OwnPlace sets apex set other f g)
one_told OwnPlace GroupSize sets apex set other f g =
    absurd (met OwnPlace sets apex set f g.earlier_rules.1.1.0)
one_told GroupSize OnePolicy sets apex set other f g =
    absurd (met OnePolicy sets apex other g f.earlier_rules.0)
one_told GroupSize CnameAlone sets apex set other f g =
    absurd (met CnameAlone sets apex other g f.earlier_rules.1.0)
one_told GroupSize OwnPlace sets apex set other f g =
    absurd (met OwnPlace sets apex other g f.earlier_rules.1.1.0)
one_told GroupSize GroupSize sets apex set other f g =
    ap (told GroupSize) (one_place GroupSize sets apex set other f g)

broken_or_met : (rule : Rule) (sets : List RecordSet) (apex : List (List ℕ)) (set : RecordSet)
    → IsFirstBreak rule sets apex set → MeetsAll rules sets apex → ⊥
broken_or_met OnePolicy sets apex set f all = met OnePolicy sets apex set f all.0
broken_or_met CnameAlone sets apex set f all = met CnameAlone sets apex set f all.1.0
broken_or_met OwnPlace sets apex set f all = met OwnPlace sets apex set f all.1.1.0
broken_or_met GroupSize sets apex set f all = met GroupSize sets apex set f all.1.1.1.0

-- the answer once all changes are made
data Ending (after : List RecordSet) (apex : List (List ℕ))
    (answer : Result (List RecordSet) BatchRefusal) : Type 0 where
  Broken : (rule : Rule) (set : RecordSet) → IsFirstBreak rule after apex set
      → answer ≡ Err (told rule set) → Ending after apex answer
  Whole : MeetsAll rules after apex → answer ≡ Ok after → Ending after apex answer

one_ending : (after : List RecordSet) (apex : List (List ℕ))
    (answer other : Result (List RecordSet) BatchRefusal) → Ending after apex answer
    → Ending after apex other → answer ≡ other
one_ending after apex answer other (Broken rule set f e) (Broken other_rule other_set g d) = e
    ∙ ap Err (one_told rule other_rule after apex set other_set f g) ∙ sym d
one_ending after apex answer other (Broken rule set f e) (Whole all d) =
    absurd (broken_or_met rule after apex set f all)
one_ending after apex answer other (Whole all e) (Broken rule set f d) =
    absurd (broken_or_met rule after apex set f all)
one_ending after apex answer other (Whole all e) (Whole all_too d) = e ∙ sym d

-- a refusal of a change, with its place
abbrev placed_refusal : ℕ → ChangeRefusal → BatchRefusal
placed_refusal i refusal.NotInZone = batch.NotInZone i
placed_refusal i refusal.AlreadyExists = batch.AlreadyExists i
placed_refusal i refusal.NotFound = batch.NotFound i
placed_refusal i refusal.ValuesDiffer = batch.ValuesDiffer i
placed_refusal i refusal.ApexProtected = batch.ApexProtected i
placed_refusal i refusal.OutOfMemory = batch.OutOfMemory

-- the answer of a batch that is within the limits
data Course (sets : List RecordSet) (apex : List (List ℕ)) (changes : List Change)
    (answer : Result (List RecordSet) BatchRefusal) : Type 0 where
  Stopped : (i : ℕ) (why : ChangeRefusal) → FirstRefused sets apex changes i why
      → answer ≡ Err (placed_refusal i why) → Course sets apex changes answer
  Ended : (after : List RecordSet) → Leaves sets apex changes after → Ending after apex answer
      → Course sets apex changes answer

one_course : (sets : List RecordSet) (apex : List (List ℕ)) (changes : List Change)
    (answer other : Result (List RecordSet) BatchRefusal)
    → Course sets apex changes answer → Course sets apex changes other → answer ≡ other
one_course sets apex changes answer other (Stopped i why f e) (Stopped j because g d) =
    let r = one_refused changes sets apex i j why because f g in
    e ∙ ap (λ n. Err (placed_refusal n why)) r.0 ∙ ap (λ w. Err (placed_refusal j w)) r.1 ∙ sym d
one_course sets apex changes answer other (Stopped i why f e) (Ended after l d) =
    absurd (refused_or_made changes sets apex i why after f l)
one_course sets apex changes answer other (Ended after l e) (Stopped i why f d) =
    absurd (refused_or_made changes sets apex i why after f l)
one_course sets apex changes answer other (Ended after l e) (Ended other_after m d) =
    let same = leaves_one sets apex changes after other_after l m in
    one_ending other_after apex answer other (subst (λ s. Ending s apex answer) same e) d

-- the answer of a batch
data Verdict (sets : List RecordSet) (apex : List (List ℕ)) (changes : List Change)
    (answer : Result (List RecordSet) BatchRefusal) : Type 0 where
  Empty : changes ≡ [] → answer ≡ Err batch.EmptyBatch → Verdict sets apex changes answer
  Invalid : (i : ℕ) (reason : Reason) → IsFirstInvalid changes apex i reason
      → answer ≡ Err (batch.InvalidInput i reason) → Verdict sets apex changes answer
  Values : IsValid changes apex → HasTooManyValues changes → answer ≡ Err batch.TooManyValues
      → Verdict sets apex changes answer
  Characters : IsValid changes apex → (HasTooManyValues changes → ⊥)
      → HasTooManyCharacters changes ⊎ HasLongSet changes → answer ≡ Err batch.TooManyCharacters
      → Verdict sets apex changes answer
  Within : IsWithinLimits changes apex → Course sets apex changes answer
      → Verdict sets apex changes answer

one_invalid : (changes : List Change) (apex : List (List ℕ)) (i j : ℕ) (reason other : Reason)
    → IsFirstInvalid changes apex i reason → IsFirstInvalid changes apex j other
    → (i ≡ j) × (reason ≡ other)
one_invalid changes apex i j reason other f g = by (order i j)
  where
    is_some : Reason → Option Reason → Reason
    is_some default (Some r) = r
    is_some default None = default

    clash : (c : Change) (r : Reason) → IsFirst None c.set apex → IsFirst (Some r) c.set apex → ⊥
    clash c r h k = none_some (one_first c.set apex None (Some r) h k)
      where
        none_some : None ≡ Some r → ⊥
        none_some e = grind (arith, e)

    by : Order i j → (i ≡ j) × (reason ≡ other)
    by (Below lt) = absurd (clash f.change reason (g.first i f.change lt f.there) f.refused)
    by (Above lt) = absurd (clash g.change other (f.first j g.change lt g.there) g.refused)
    by (Even e) =
        let here : slice_get changes j ≡ Some f.change =
        subst (λ n. slice_get changes n ≡ Some f.change) e f.there in
        let there = g.there in
        let same : f.change ≡ g.change = grind (arith, here, there) in
        let one : Some reason ≡ Some other =
        one_first g.change.set apex (Some reason) (Some other)
        (subst (λ (c : Change). IsFirst (Some reason) c.set apex) same f.refused) g.refused in
        (e, ap (is_some reason) one)

invalid_or_valid : (changes : List Change) (apex : List (List ℕ)) (i : ℕ) (reason : Reason)
    → IsFirstInvalid changes apex i reason → IsValid changes apex → ⊥
invalid_or_valid changes apex i reason f v =
    none_some (one_first f.change.set apex None (Some reason) (v.each i f.change f.there) f.refused)
  where
    none_some : None ≡ Some reason → ⊥
    none_some e = grind (arith, e)

empty_or_invalid : (changes : List Change) (apex : List (List ℕ)) (i : ℕ) (reason : Reason)
    → changes ≡ [] → IsFirstInvalid changes apex i reason → ⊥
empty_or_invalid changes apex i reason e f =
    let here : slice_get [] i ≡ Some f.change =
    subst (λ cs. slice_get cs i ≡ Some f.change) e f.there in
    none i here
  where
    none : (i : ℕ) → slice_get [] i ≡ Some f.change → ⊥
    none zero h = grind (arith, h)
    none (suc i) h = grind (arith, h)

limits_or_characters : (changes : List Change) (apex : List (List ℕ)) → IsWithinLimits changes apex
    → HasTooManyCharacters changes ⊎ HasLongSet changes → ⊥
limits_or_characters changes apex l (inl many) = l.characters many
limits_or_characters changes apex l (inr long) = l.octets long

one_verdict : (sets : List RecordSet) (apex : List (List ℕ)) (changes : List Change)
    (answer other : Result (List RecordSet) BatchRefusal)
    → Verdict sets apex changes answer → Verdict sets apex changes other → answer ≡ other
one_verdict sets apex changes answer other (Empty z1 e1) (Empty z2 e2) = e1 ∙ sym e2
one_verdict sets apex changes answer other (Empty z1 e1) (Invalid i2 r2 f2 e2) =
    absurd (empty_or_invalid changes apex i2 r2 z1 f2)
one_verdict sets apex changes answer other (Empty z1 e1) (Values v2 m2 e2) = absurd (v2.filled z1)
one_verdict sets apex changes answer other (Empty z1 e1) (Characters v2 few2 t2 e2) =
    absurd (v2.filled z1)
one_verdict sets apex changes answer other (Empty z1 e1) (Within l2 c2) =
    absurd (l2.valid.filled z1)
one_verdict sets apex changes answer other (Invalid i1 r1 f1 e1) (Empty z2 e2) =
    absurd (empty_or_invalid changes apex i1 r1 z2 f1)
one_verdict sets apex changes answer other (Invalid i1 r1 f1 e1) (Invalid i2 r2 f2 e2) =
    (let o = one_invalid changes apex i1 i2 r1 r2 f1 f2 in e1
    ∙ ap (λ n. Err (batch.InvalidInput n r1)) o.0 ∙ ap (λ r. Err (batch.InvalidInput i2 r)) o.1
    ∙ sym e2)
one_verdict sets apex changes answer other (Invalid i1 r1 f1 e1) (Values v2 m2 e2) =
    absurd (invalid_or_valid changes apex i1 r1 f1 v2)
one_verdict sets apex changes answer other (Invalid i1 r1 f1 e1) (Characters v2 few2 t2 e2) =
    absurd (invalid_or_valid changes apex i1 r1 f1 v2)
one_verdict sets apex changes answer other (Invalid i1 r1 f1 e1) (Within l2 c2) =
    absurd (invalid_or_valid changes apex i1 r1 f1 l2.valid)
one_verdict sets apex changes answer other (Values v1 m1 e1) (Empty z2 e2) = absurd (v1.filled z2)
one_verdict sets apex changes answer other (Values v1 m1 e1) (Invalid i2 r2 f2 e2) =
    absurd (invalid_or_valid changes apex i2 r2 f2 v1)
one_verdict sets apex changes answer other (Values v1 m1 e1) (Values v2 m2 e2) = e1 ∙ sym e2
one_verdict sets apex changes answer other (Values v1 m1 e1) (Characters v2 few2 t2 e2) =
    absurd (few2 m1)
one_verdict sets apex changes answer other (Values v1 m1 e1) (Within l2 c2) = absurd (l2.values m1)
one_verdict sets apex changes answer other (Characters v1 few1 t1 e1) (Empty z2 e2) =
    absurd (v1.filled z2)
one_verdict sets apex changes answer other (Characters v1 few1 t1 e1) (Invalid i2 r2 f2 e2) =
    absurd (invalid_or_valid changes apex i2 r2 f2 v1)
one_verdict sets apex changes answer other (Characters v1 few1 t1 e1) (Values v2 m2 e2) =
    absurd (few1 m2)
one_verdict sets apex changes answer other (Characters v1 few1 t1 e1) (Characters v2 few2 t2 e2) =
    e1 ∙ sym e2
one_verdict sets apex changes answer other (Characters v1 few1 t1 e1) (Within l2 c2) =
    absurd (limits_or_characters changes apex l2 t1)
one_verdict sets apex changes answer other (Within l1 c1) (Empty z2 e2) =
    absurd (l1.valid.filled z2)
one_verdict sets apex changes answer other (Within l1 c1) (Invalid i2 r2 f2 e2) =
    absurd (invalid_or_valid changes apex i2 r2 f2 l1.valid)
one_verdict sets apex changes answer other (Within l1 c1) (Values v2 m2 e2) = absurd (l1.values m2)
one_verdict sets apex changes answer other (Within l1 c1) (Characters v2 few2 t2 e2) =
    absurd (limits_or_characters changes apex l1 t2)
one_verdict sets apex changes answer other (Within l1 c1) (Within l2 c2) =
    one_course sets apex changes answer other c1 c2

stopped : (sets : List RecordSet) (apex : List (List ℕ)) (changes : List Change) (i : ℕ)
    (why : ChangeRefusal) → why ≢ refusal.OutOfMemory
    → IsRefusedAt sets apex changes i why → Verdict sets apex changes (Err (placed_refusal i why))
stopped sets apex changes i why memory r =
    Within r.limits
    (Stopped i why (record {
      change = r.change;
      there = r.there;
      before = r.before;
      applied =
          r.applied;
      refused = r.refused;
      memory = memory;
    }) refl)

broken : (sets : List RecordSet) (apex : List (List ℕ)) (changes : List Change) (rule : Rule)
    (set : RecordSet) (why : BatchRefusal) → BreaksAfter sets apex changes rule set
    → why ≡ told rule set → Verdict sets apex changes (Err why)
broken sets apex changes rule set why b e =
    Within b.limits (Ended b.after b.applied (Broken rule set b.first (ap Err e)))

abbrev is_memory : ChangeRefusal → Type 0
is_memory refusal.OutOfMemory = Unit {0}
is_memory refusal.NotInZone = ⊥
is_memory refusal.AlreadyExists = ⊥
is_memory refusal.NotFound = ⊥
is_memory refusal.ValuesDiffer = ⊥
is_memory refusal.ApexProtected = ⊥

verdict : (sets : List RecordSet) (apex : List (List ℕ)) (changes : List Change)
    (answer : Result (List RecordSet) BatchRefusal)
    → Prepares sets apex changes answer → answer ≢ Err batch.OutOfMemory
    → Verdict sets apex changes answer
verdict sets apex changes (Ok after) p memory = Within p.0 (Ended after p.1 (Whole p.2 refl))
verdict sets apex changes (Err batch.EmptyBatch) p memory = Empty p refl
verdict sets apex changes (Err (batch.InvalidInput i reason)) p memory = Invalid i reason p refl
verdict sets apex changes (Err batch.TooManyValues) p memory = Values p.0 p.1 refl
verdict sets apex changes (Err batch.TooManyCharacters) p memory = Characters p.0 p.1 p.2 refl
verdict sets apex changes (Err (batch.NotInZone i)) p memory =
    stopped sets apex changes i refusal.NotInZone (λ e. subst (λ w. is_memory w) (sym e) tt) p
verdict sets apex changes (Err (batch.AlreadyExists i)) p memory =
    stopped sets apex changes i refusal.AlreadyExists (λ e. subst (λ w. is_memory w) (sym e) tt) p
verdict sets apex changes (Err (batch.NotFound i)) p memory =
    stopped sets apex changes i refusal.NotFound (λ e. subst (λ w. is_memory w) (sym e) tt) p
verdict sets apex changes (Err (batch.ValuesDiffer i)) p memory =
    stopped sets apex changes i refusal.ValuesDiffer (λ e. subst (λ w. is_memory w) (sym e) tt) p
verdict sets apex changes (Err (batch.ApexProtected i)) p memory =
    stopped sets apex changes i refusal.ApexProtected (λ e. subst (λ w. is_memory w) (sym e) tt) p
verdict sets apex changes (Err (batch.MixedPolicies key)) p memory =
    broken sets apex changes OnePolicy p.0 (batch.MixedPolicies key) p.1
    (ap batch.MixedPolicies p.2)
verdict sets apex changes (Err (batch.CnameConflict name)) p memory =
    broken sets apex changes CnameAlone p.0 (batch.CnameConflict name) p.1
    (ap batch.CnameConflict p.2)
verdict sets apex changes (Err (batch.SamePlace key)) p memory =
    broken sets apex changes OwnPlace p.0 (batch.SamePlace key) p.1 (ap batch.SamePlace p.2)
verdict sets apex changes (Err (batch.GroupFull name rtype)) p memory =
    broken sets apex changes GroupSize p.0 (batch.GroupFull name rtype) p.1
    (ap (λ n. batch.GroupFull n rtype) p.2 ∙ ap (λ t. batch.GroupFull p.0.name t) p.3)
verdict sets apex changes (Err batch.OutOfMemory) p memory = absurd (memory refl)

pub one_answer : (sets : List RecordSet) (apex : List (List ℕ)) (changes : List Change)
    (answer other : Result (List RecordSet) BatchRefusal)
    → Prepares sets apex changes answer → Prepares sets apex changes other
    → answer ≢ Err batch.OutOfMemory → other ≢ Err batch.OutOfMemory → answer ≡ other
one_answer sets apex changes answer other p q memory enough =
    one_verdict sets apex changes answer other (verdict sets apex changes answer p memory)
    (verdict sets apex changes other q enough)
