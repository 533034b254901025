-- A batch is decided by the sets of its names.
use Rattle.std.proofs.Common.{◌≡◌, ℕ, List, [], ◌∷◌, ap, ◌∙◌, sym, refl, subst, Bool, true, false}
use Rattle.std.proofs.Common.{not, take, zero, suc}
use Rattle.std.specs.Prelude.{Ok, Err, ◌||◌}
use Rattle.std.specs.List.{filter}
use Rattle.dns_name.specs.Order.{same_labels}
use Rattle.dns_name.specs.OrderLaws.{same_labels-Decides}
use Rattle.batch_model.specs.RecordSetRecord.{RecordSet}
use Rattle.zone_table.specs.Sets.{IsAmong, IsRising, IsZone}
use Rattle.zone_table.proofs.Places.{all_at}
use Rattle.zone_table.proofs.Members.{same_sets}
use Rattle.batch_model.specs.declared.batches.Change.{Change}
use Rattle.batch_model.specs.declared.refusals.BatchRefusal.{BatchRefusal}
use Rattle.batch_model.specs.declared.refusals.BatchRefusal.TheVariants as batch
use Rattle.batch_model.specs.declared.refusals.ChangeRefusal.{ChangeRefusal}
use Rattle.batch_model.specs.declared.refusals.ChangeRefusal.TheVariants as refusal
use Rattle.batch_model.specs.Batches.{BreaksAfter, IsRefusedAt, Leaves, Prepares}
use Rattle.batch_model.specs.Changing.{Applies}
use Rattle.batch_model.specs.Rules.{IsFirstBreak, Rule, OnePolicy, CnameAlone, OwnPlace, GroupSize}
use Rattle.batch_model.specs.Rules.{MeetsAll, rules}
use Rattle.batch_names.specs.Laws.{NamesDecide}
use Rattle.batch_names.specs.Named.{named_in, names, unnamed_in}
use Rattle.batch_names.proofs.Applied.{AreKept, leaves_all, leaves_few, leaves_spared, leaves_zone}
use Rattle.batch_names.proofs.Applied.{refused_all, refused_few}
use Rattle.batch_names.proofs.Filtered.{in_filter, of_filter}
use Rattle.batch_names.proofs.Ruled.{first_all, first_few, meets_both, meets_few, spared}

-- ---- lists in zone order

-- a set of one list is of another where both leave the same to two tests that share all sets
among_other : (f : RecordSet → Bool) (sets others : List RecordSet) → filter f sets
    ≡ filter f others
    → filter (λ (x : RecordSet). not (f x)) sets ≡ filter (λ (x : RecordSet). not (f x)) others
    → (set : RecordSet) → IsAmong sets set → IsAmong others set
among_other f sets others same rest set there = by (f set) refl
  where
    by : (b : Bool) → f set ≡ b → IsAmong others set
    by true e =
        (of_filter f others set (subst (λ s. IsAmong s set) same (in_filter f sets set there e))).0
    by false e =
        (of_filter (λ (x : RecordSet). not (f x)) others set
        (subst (λ s. IsAmong s set) rest
        (in_filter (λ (x : RecordSet). not (f x)) sets set there (ap not e)))).0

pub same_by_parts : (f : RecordSet → Bool) (sets others : List RecordSet) → IsRising sets
    → IsRising others → filter f sets ≡ filter f others
    → filter (λ (x : RecordSet). not (f x)) sets ≡ filter (λ (x : RecordSet). not (f x)) others
    → sets ≡ others
same_by_parts f sets others rising rising_too same rest =
    same_sets sets others rising rising_too (among_other f sets others same rest)
    (among_other f others sets (sym same) (sym rest))

-- ---- the names of the changes

named_later : (change : Change) (changes : List Change) (name : List (List ℕ))
    → names changes name ≡ true → names (change ∷ changes) name ≡ true
named_later change changes name good =
    ap (λ b. same_labels change.set.name name || b) good ∙ or_true
    (same_labels change.set.name name)
  where
    or_true : (b : Bool) → (b || true) ≡ true
    or_true true = refl
    or_true false = refl

its_own : (change : Change) (changes : List Change) → names (change ∷ changes) change.set.name
    ≡ true
its_own change changes =
    ap (λ b. b || names changes change.set.name)
    ((same_labels-Decides change.set.name change.set.name).1 refl)

more_kept : (change : Change) (all changes : List Change) → AreKept (names all) changes
    → AreKept (names (change ∷ all)) changes
more_kept change all [] kept = tt
more_kept change all (next ∷ changes) kept =
    (named_later change all next.set.name kept.0, more_kept change all changes kept.1)

pub all_named : (changes : List Change) → AreKept (names changes) changes
all_named [] = tt
all_named (change ∷ changes) =
    (its_own change changes, more_kept change changes changes (all_named changes))

first_kept : (kept : List (List ℕ) → Bool) (n : ℕ) (changes : List Change) → AreKept kept changes
    → AreKept kept (take n changes)
first_kept kept zero changes all = tt
first_kept kept (suc n) [] all = tt
first_kept kept (suc n) (change ∷ changes) all = (all.0, first_kept kept n changes all.1)

-- ---- a batch

module _ (sets : List RecordSet) (apex : List (List ℕ)) (changes : List Change)
    (zone : IsZone sets apex) (meets : MeetsAll rules sets apex) where
  abbrev its_names : List (List ℕ) → Bool
  its_names = names changes

  abbrev few : List RecordSet
  few = named_in changes sets

  -- the other sets meet the rules, before the batch and after it
  spared_meet : (after : List RecordSet) → Leaves sets apex changes after
      → MeetsAll rules (unnamed_in changes after) apex
  spared_meet after left =
      subst (λ s. MeetsAll rules s apex)
      (sym (leaves_spared its_names apex changes sets after zone (all_named changes) left))
      (meets_few (spared its_names sets apex) sets apex rules meets)

  refused_at_few : (i : ℕ) (why : ChangeRefusal) → IsRefusedAt sets apex changes i why
      → IsRefusedAt few apex changes i why
  refused_at_few i why r = record {
    limits = r.limits;
    change = r.change;
    there = r.there;
    before = named_in changes r.before;
    applied = leaves_few its_names apex (take i changes) sets r.before
        (first_kept its_names i changes (all_named changes)) r.applied;
    refused = refused_few its_names apex r.change r.before why
        (all_at (λ (change : Change). its_names change.set.name ≡ true) changes i r.change
        (all_named changes) r.there) r.refused;
  }

  refused_at_all : (i : ℕ) (why : ChangeRefusal) → IsRefusedAt few apex changes i why
      → IsRefusedAt sets apex changes i why
  refused_at_all i why r =
      let left =
      leaves_all its_names apex (take i changes) sets r.before
      (first_kept its_names i changes (all_named changes)) r.applied
      in
      record {
        limits = r.limits;
        change = r.change;
        there = r.there;
        before = left.0;
        applied = left.1;
        refused = refused_all its_names apex r.change left.0 why
            (all_at (λ (change : Change). its_names change.set.name ≡ true) changes i r.change
            (all_named changes) r.there)
            (subst (λ s. Applies s apex r.change (Err why)) left.2 r.refused);
      }

  breaks_few : (rule : Rule) (set : RecordSet) → BreaksAfter sets apex changes rule set
      → BreaksAfter few apex changes rule set
  breaks_few rule set b = record {
    limits = b.limits;
    after = named_in changes b.after;
    applied = leaves_few its_names apex changes sets b.after (all_named changes) b.applied;
    first = first_few its_names b.after apex (spared_meet b.after b.applied) rule set b.first;
  }

  breaks_all : (rule : Rule) (set : RecordSet) → BreaksAfter few apex changes rule set
      → BreaksAfter sets apex changes rule set
  breaks_all rule set b =
      let left = leaves_all its_names apex changes sets b.after (all_named changes) b.applied in
      record {
        limits = b.limits;
        after = left.0;
        applied = left.1;
        first = first_all its_names left.0 apex (spared_meet left.0 left.1) rule set
            (subst (λ s. IsFirstBreak rule s apex set) left.2 b.first);
      }

  to_few : (why : BatchRefusal) → Prepares sets apex changes (Err why)
      → Prepares few apex changes (Err why)
  to_few batch.EmptyBatch p = p
  to_few (batch.InvalidInput i reason) p = p
  to_few batch.TooManyValues p = p
  to_few batch.TooManyCharacters p = p
  to_few (batch.NotInZone i) p = refused_at_few i refusal.NotInZone p
  to_few (batch.AlreadyExists i) p = refused_at_few i refusal.AlreadyExists p
  to_few (batch.NotFound i) p = refused_at_few i refusal.NotFound p
  to_few (batch.ValuesDiffer i) p = refused_at_few i refusal.ValuesDiffer p
  to_few (batch.ApexProtected i) p = refused_at_few i refusal.ApexProtected p
  to_few (batch.MixedPolicies key) p = (p.0, breaks_few OnePolicy p.0 p.1, p.2)
  to_few (batch.CnameConflict name) p = (p.0, breaks_few CnameAlone p.0 p.1, p.2)
  to_few (batch.SamePlace key) p = (p.0, breaks_few OwnPlace p.0 p.1, p.2)
  to_few (batch.GroupFull name rtype) p = (p.0, breaks_few GroupSize p.0 p.1, p.2, p.3)
  to_few batch.OutOfMemory p = p

  of_few : (why : BatchRefusal) → Prepares few apex changes (Err why)
      → Prepares sets apex changes (Err why)
  of_few batch.EmptyBatch p = p
  of_few (batch.InvalidInput i reason) p = p
  of_few batch.TooManyValues p = p
  of_few batch.TooManyCharacters p = p
  of_few (batch.NotInZone i) p = refused_at_all i refusal.NotInZone p
  of_few (batch.AlreadyExists i) p = refused_at_all i refusal.AlreadyExists p
  of_few (batch.NotFound i) p = refused_at_all i refusal.NotFound p
  of_few (batch.ValuesDiffer i) p = refused_at_all i refusal.ValuesDiffer p
  of_few (batch.ApexProtected i) p = refused_at_all i refusal.ApexProtected p
  of_few (batch.MixedPolicies key) p = (p.0, breaks_all OnePolicy p.0 p.1, p.2)
  of_few (batch.CnameConflict name) p = (p.0, breaks_all CnameAlone p.0 p.1, p.2)
  of_few (batch.SamePlace key) p = (p.0, breaks_all OwnPlace p.0 p.1, p.2)
  of_few (batch.GroupFull name rtype) p = (p.0, breaks_all GroupSize p.0 p.1, p.2, p.3)
  of_few batch.OutOfMemory p = p

  made_few : (after : List RecordSet) → Prepares sets apex changes (Ok after)
      → Prepares few apex changes (Ok (named_in changes after))
      × (unnamed_in changes after ≡ unnamed_in changes sets) × IsZone after apex
  made_few after p = (
    (
      p.0,
      leaves_few its_names apex changes sets after (all_named changes) p.1,
      meets_few its_names after apex rules p.2,
    ),
    leaves_spared its_names apex changes sets after zone (all_named changes) p.1,
    leaves_zone apex changes sets after zone p.1,
  )

  made_all : (after : List RecordSet) → Prepares few apex changes (Ok (named_in changes after))
      → unnamed_in changes after ≡ unnamed_in changes sets → IsZone after apex
      → Prepares sets apex changes (Ok after)
  made_all after p others stays =
      let left =
      leaves_all its_names apex changes sets (named_in changes after) (all_named changes) p.1
      in
      let spare = leaves_spared its_names apex changes sets left.0 zone
      (all_named changes) left.1 in
      let same : left.0 ≡ after =
      same_by_parts (λ (set : RecordSet). its_names set.name) left.0 after
      (leaves_zone apex changes sets left.0 zone left.1).rising stays.rising (sym left.2)
      (spare ∙ sym others)
      in (
        p.0,
        subst (λ s. Leaves sets apex changes s) same left.1,
        meets_both its_names after apex rules p.2
            (subst (λ s. MeetsAll rules (unnamed_in changes s) apex) same
            (spared_meet left.0 left.1)),
      )

pub names_decide : NamesDecide
names_decide = record {
  refused = λ sets apex changes why zone meets. (
    to_few sets apex changes zone meets why,
    of_few sets apex changes zone meets why,
  );
  made = λ sets apex changes after zone meets. (
    made_few sets apex changes zone meets after,
    λ p. made_all sets apex changes zone meets after p.0 p.1 p.2,
  );
}
