-- Commands as they are written, and snapshots to begin with.
use Rattle.std.proofs.Common.{◌≡◌, inr, ℕ, List, [], ◌∷◌, ◌++◌, refl, sym, ◌∙◌, ap, subst}
use Rattle.std.proofs.Common.{append-nil, append_assoc, Result, Ok, Err}
use Rattle.check_model.proofs.Members.{all_mapped}
use Rattle.command_codec.specs.Commands.{HasSet, IsCommand}
use Rattle.command_octets.specs.declared.commands.Command.{Command}
use Rattle.command_octets.specs.declared.commands.Command.TheVariants as command
use Rattle.config_model.specs.Configs.{Config, empty}
use Rattle.config_model.specs.Laws.{HasBoundedSet, IsBounded}
use Rattle.config_model.specs.Sound.{Sound}
use Rattle.snapshot_octets.specs.Laws.{OneConfiguration, SnapshotsReadBack, SoundHaveSnapshots}
use Rattle.snapshot_octets.specs.Reading.{read}
use Rattle.store_model.proofs.Taken.{last_is_taken}
use Rattle.store_model.specs.Laws.{AcceptedAreTaken, CompactedOpens, EmptyOpens, PlanBegins}
use Rattle.store_model.specs.Laws.{PlanGoesOn, PlanMakes, SoundAreBases, UnreadAreBaseless}
use Rattle.store_model.specs.Laws.{UnsoundAreBaseless}
use Rattle.store_model.specs.Opening.{IsBase}

-- ---- commands

is_command : (given : Command) → IsBounded given → IsCommand given
is_command (command.CreateZone name servers) bounded =
    (bounded.0, record { four = bounded.2; names = bounded.1 })
is_command (command.DeleteZone id) bounded = tt
is_command (command.Change batch) bounded =
    all_mapped HasBoundedSet HasSet (λ change is. is.parts) batch.changes bounded
is_command (command.Health health) bounded = tt
is_command (command.Cidr cidr) bounded = tt

pub accepted_are_taken : AcceptedAreTaken
accepted_are_taken config after given what bounded has decides = record {
  given = given;
  spelled = record {
    version = 2;
    is_version = inr refl;
    is = is_command given bounded;
    has_spelling = has;
    spelled = refl;
  };
  what = what;
  decides = decides;
}

-- ---- snapshots

-- octets that are read as no snapshot
pub unread_are_baseless : SnapshotsReadBack → UnreadAreBaseless
unread_are_baseless read_back octets place unread config base =
    not_read config place
    (sym unread ∙ ap read base.is.spelled ∙ read_back base.is.version config base.is.has)
  where
    not_read : (config : Config) (place : ℕ) → ◌≡◌ {A = Result Config ℕ} (Err place) (Ok config) → ⊥
    not_read config place e = absurd (Prim.cc)

-- the snapshot of a configuration that isn't sound
pub unsound_are_baseless : OneConfiguration → UnsoundAreBaseless
unsound_are_baseless one octets config is unsound other base =
    unsound (subst Sound (one octets other config base.is is) base.sound)

pub sound_are_bases : SoundHaveSnapshots → SoundAreBases
sound_are_bases have config sound = record { is = have config sound; sound = sound }

module _ (bases : SoundAreBases) where
  pub compacted_opens : CompactedOpens
  compacted_opens x y generation begun config since sound taken opens = record {
    opens = opens;
    makes = record { base = begun; is_base = bases begun sound; taken = taken };
  }

  pub plan_makes : PlanMakes
  plan_makes planned from generation octets entries config plan = record {
    base = plan.begun;
    is_base = subst (λ (l : List ℕ). IsBase l plan.begun) (sym plan.spelled)
        (bases plan.begun plan.sound);
    taken = plan.taken;
  }

  pub empty_opens : Sound empty → EmptyOpens
  empty_opens sound x y generation opens = record {
    opens = opens;
    makes = record { base = empty; is_base = bases empty sound; taken = refl };
  }

pub plan_begins : PlanBegins
plan_begins config from generation octets entries sound place = record {
  until = entries;
  since = [];
  parts = sym (append-nil entries);
  place = place;
  begun = config;
  sound = sound;
  spelled = refl;
  taken = refl;
}

pub plan_goes_on : PlanGoesOn
plan_goes_on planned from generation octets entries before after entry plan taken = record {
  until = plan.until;
  since = plan.since ++ entry ∷ [];
  parts = ap (λ (l : List (List ℕ)). l ++ entry ∷ []) plan.parts
      ∙ append_assoc plan.until plan.since (entry ∷ []);
  place = plan.place;
  begun = plan.begun;
  sound = plan.sound;
  spelled = plan.spelled;
  taken = last_is_taken plan.since plan.begun before after entry plan.taken taken;
}
