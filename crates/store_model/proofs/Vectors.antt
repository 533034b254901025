-- Files octet by octet: a new store; files that are none, each told at its place; a store that a
-- server of the first version left, with one check; and two files that are open.
use Rattle.std.proofs.Common.{◌≡◌, ◌≢◌, inl, inr, ℕ, false, List, [], ◌∷◌, ◌++◌}
use Rattle.std.proofs.Common.{length, Ok, refl, arith}
use Rattle.check_model.specs.Checks.{IsWalk}
use Rattle.check_model.specs.Commands.{is_too_deep}
use Rattle.check_model.specs.declared.checks.Check.TheVariants.{Endpoint}
use Rattle.check_model.specs.declared.checks.CheckCommand.TheVariants.{Create}
use Rattle.command_codec.specs.Laws as codec
use Rattle.command_octets.specs.declared.commands.Command.TheVariants.{DeleteZone, Health}
use Rattle.config_model.specs.Applying.{Decides}
use Rattle.config_model.specs.Configs.{Config, empty}
use Rattle.config_model.specs.Laws.{OneOutcome}
use Rattle.config_model.specs.Sound.{Sound}
use Rattle.config_model.specs.declared.refusals.Made.TheVariants.{Check}
use Rattle.config_model.specs.declared.refusals.Refusal.TheVariants.{NoSuchHostedZone}
use Rattle.gate_journal.specs.Layout.{IsOpen}
use Rattle.snapshot_octets.specs.Laws.{OneConfiguration}
use Rattle.snapshot_octets.specs.Octets.{IsSnapshot}
use Rattle.store_model.proofs.Made.{unsound_are_baseless}
use Rattle.store_model.proofs.Taken.{refused_are_refused}
use Rattle.store_model.specs.Opening.{IsBase, IsNoEntry, IsNoStore, IsRefused, MakesConfig}
use Rattle.store_model.specs.Opening.{OpensConfig, AcceptsEntry, snapshot_of}
use Rattle.zone_journal.specs.declared.answers.Side.TheVariants.{A}

-- ---- the configuration of a new server

no_walk : (walk : List ℕ) → IsWalk [] walk → length walk ≢ 5
no_walk [] walks five = omega (arith, five)
no_walk (id ∷ []) walks five = omega (arith, five)
no_walk (id ∷ next ∷ walk) walks five = absurd (grind (arith, walks.0.1))

sound_empty : Sound empty
sound_empty = record {
  checks = record {
    few = omega arith;
    from = omega arith;
    to = omega arith;
    ids = tt;
    rising = tt;
    children = tt;
    shallow = no_walk;
    bounded = tt;
  };
  collections = record {
    few = omega arith;
    from = omega arith;
    to = omega arith;
    ids = tt;
    rising = tt;
    names = tt;
    each = tt;
  };
  from = omega arith;
  to = omega arith;
  numbers = tt;
  listed = tt;
  few = omega arith;
  each = tt;
  not_full = refl;
}

-- ---- a new store

-- 02 00000001 00000001 0000 0000: version 2, the next zone and the next check are 1
abbrev nothing : List ℕ
nothing = 2 ∷ 0 ∷ 0 ∷ 0 ∷ 1 ∷ 0 ∷ 0 ∷ 0 ∷ 1 ∷ 0 ∷ 0 ∷ 0 ∷ 0 ∷ []

-- 01 5235335a4a3031 0000000000000001 0000000d, and that snapshot
abbrev begun : List ℕ
begun =
    0x01 ∷ 0x52 ∷ 0x35 ∷ 0x33 ∷ 0x5a ∷ 0x4a ∷ 0x30 ∷ 0x31
    ∷ 0 ∷ 0 ∷ 0 ∷ 0 ∷ 0 ∷ 0 ∷ 0 ∷ 1 ∷ 0 ∷ 0 ∷ 0 ∷ 13
    ∷ 2 ∷ 0 ∷ 0 ∷ 0 ∷ 1 ∷ 0 ∷ 0 ∷ 0 ∷ 1 ∷ 0 ∷ 0 ∷ 0 ∷ 0 ∷ []

-- with a closed gate it is a new store
pub snapshot_of_new : snapshot_of (begun ++ 0 ∷ []) ≡ nothing
snapshot_of_new = refl

is_nothing : IsBase nothing empty
is_nothing = record {
  is = record {
    version = 2;
    has = record {
      known = inr (inl refl);
      next = refl;
      checks = record { count = omega arith; each = tt };
      collections = refl;
      zones = record { count = omega arith; each = tt };
    };
    spelled = refl;
  };
  sound = sound_empty;
}

makes_nothing : MakesConfig nothing [] empty
makes_nothing = record { base = empty; is_base = is_nothing; taken = refl }

pub opens_new : (y : List ℕ) → (IsOpen y → ⊥) → OpensConfig (begun ++ 0 ∷ []) y empty
opens_new y closed = record {
  generation = 1;
  snapshot = nothing;
  entries = [];
  opens = record {
    opens = inl (
      record {
        gate = 0;
        rest = [];
        is = refl;
        closed = omega arith;
        generation_fits = omega arith;
        snapshot_fits = omega arith;
        entries_fit = tt;
      },
      λ is_open. absurd (closed is_open),
    );
    makes = makes_nothing;
  };
}

-- ---- no store

-- two empty files: the byte 0 of `a`
pub nothing_there : IsNoStore [] [] A 0
nothing_there = inl (refl, refl, λ o. omega (arith, o.long), λ o. omega (arith, o.long))

-- A snapshot whose last octet is missing: at the snapshot.
abbrev cut_short : List ℕ
cut_short =
    0x01 ∷ 0x52 ∷ 0x35 ∷ 0x33 ∷ 0x5a ∷ 0x4a ∷ 0x30 ∷ 0x31
    ∷ 0 ∷ 0 ∷ 0 ∷ 0 ∷ 0 ∷ 0 ∷ 0 ∷ 1 ∷ 0 ∷ 0 ∷ 0 ∷ 13
    ∷ 2 ∷ 0 ∷ 0 ∷ 0 ∷ 1 ∷ 0 ∷ 0 ∷ 0 ∷ 1 ∷ 0 ∷ 0 ∷ 0 ∷ []

pub no_whole_snapshot : (y : List ℕ) → (IsOpen y → ⊥) → IsNoStore cut_short y A 20
no_whole_snapshot y closed = inr (
  (
    record { long = omega arith; gate = refl; named = refl },
    λ is_open. absurd (closed is_open),
  ),
  inl (refl, inl (omega arith)),
)

-- 02 00000000 00000001 0000 0000: the next zone would be 0
abbrev zone_zero : List ℕ
zone_zero = 2 ∷ 0 ∷ 0 ∷ 0 ∷ 0 ∷ 0 ∷ 0 ∷ 0 ∷ 1 ∷ 0 ∷ 0 ∷ 0 ∷ 0 ∷ []

abbrev unsound : Config
unsound = record empty { next_zone = 0 }

is_unsound : IsSnapshot zone_zero unsound
is_unsound = record {
  version = 2;
  has = record {
    known = inr (inl refl);
    next = refl;
    checks = record { count = omega arith; each = tt };
    collections = refl;
    zones = record { count = omega arith; each = tt };
  };
  spelled = refl;
}

abbrev no_sound_snapshot : List ℕ
no_sound_snapshot =
    0x01 ∷ 0x52 ∷ 0x35 ∷ 0x33 ∷ 0x5a ∷ 0x4a ∷ 0x30 ∷ 0x31
    ∷ 0 ∷ 0 ∷ 0 ∷ 0 ∷ 0 ∷ 0 ∷ 0 ∷ 1 ∷ 0 ∷ 0 ∷ 0 ∷ 13
    ∷ 2 ∷ 0 ∷ 0 ∷ 0 ∷ 0 ∷ 0 ∷ 0 ∷ 0 ∷ 1 ∷ 0 ∷ 0 ∷ 0 ∷ 0 ∷ 0 ∷ []

pub no_base : OneConfiguration → (y : List ℕ) → (IsOpen y → ⊥) → IsNoStore no_sound_snapshot y A 20
no_base one y closed = inr (
  (
    record { long = omega arith; gate = refl; named = refl },
    λ is_open. absurd (closed is_open),
  ),
  inl (
    refl,
    inr (unsound_are_baseless one zone_zero unsound is_unsound
        (λ sound. omega (arith, sound.from))),
  ),
)

-- Behind the snapshot 01 00000001 07 00 00: an open gate, and the entry 07, which is no command.
abbrev no_command : List ℕ
no_command = begun ++ 1 ∷ 0 ∷ 0 ∷ 0 ∷ 1 ∷ 7 ∷ 0 ∷ 0 ∷ []

seven_is_refused : (config : Config) → IsRefused config (7 ∷ [])
seven_is_refused config after taken =
    let spelled = taken.spelled.spelled in absurd (Prim.cc)

pub no_entry : IsNoEntry 33 no_command
no_entry = record {
  generation = 1;
  snapshot = nothing;
  entries = [];
  read = record {
    is = refl;
    place = refl;
    generation_fits = omega arith;
    snapshot_fits = omega arith;
    entries_fit = tt;
  };
  before = empty;
  makes = makes_nothing;
  faulty = inr (
    7 ∷ [],
    record {
      is = refl;
      place = refl;
      generation_fits = omega arith;
      snapshot_fits = omega arith;
      entries_fit = (omega arith, tt);
    },
    seven_is_refused empty,
  );
}

pub no_store : (y : List ℕ) → (IsOpen y → ⊥) → IsNoStore no_command y A 33
no_store y closed = inr (
  (
    record { long = omega arith; gate = refl; named = refl },
    λ is_open. absurd (closed is_open),
  ),
  inr no_entry,
)

-- Behind the snapshot 01 00000006 02 02 00000007 00: zone 7 is to be deleted, and there is none.
abbrev delete_zone : List ℕ
delete_zone = 2 ∷ 2 ∷ 0 ∷ 0 ∷ 0 ∷ 7 ∷ []

abbrev no_zone : List ℕ
no_zone = begun ++ 1 ∷ 0 ∷ 0 ∷ 0 ∷ 6 ∷ 2 ∷ 2 ∷ 0 ∷ 0 ∷ 0 ∷ 7 ∷ 0 ∷ []

pub refused_entry : codec.ReadAsNothingElse → OneOutcome → IsNoEntry 33 no_zone
refused_entry one_command one_outcome = record {
  generation = 1;
  snapshot = nothing;
  entries = [];
  read = record {
    is = refl;
    place = refl;
    generation_fits = omega arith;
    snapshot_fits = omega arith;
    entries_fit = tt;
  };
  before = empty;
  makes = makes_nothing;
  faulty = inr (
    delete_zone,
    record {
      is = refl;
      place = refl;
      generation_fits = omega arith;
      snapshot_fits = omega arith;
      entries_fit = (omega arith, tt);
    },
    refused_are_refused one_command one_outcome empty delete_zone (DeleteZone 7) NoSuchHostedZone
        (record {
          version = 2;
          is_version = inr refl;
          is = tt;
          has_spelling = tt;
          spelled = refl;
        }) refl (λ e. absurd (Prim.cc)),
  );
}

-- ---- a store of the first version

-- 01 00000001 00000001 0000 0000: the same in version 1
abbrev first_nothing : List ℕ
first_nothing = 1 ∷ 0 ∷ 0 ∷ 0 ∷ 1 ∷ 0 ∷ 0 ∷ 0 ∷ 1 ∷ 0 ∷ 0 ∷ 0 ∷ 0 ∷ []

-- 01 04 01 03 00: version 1, a new check, of an endpoint, with threshold 3, not inverted
abbrev new_check : List ℕ
new_check = 1 ∷ 4 ∷ 1 ∷ 3 ∷ 0 ∷ []

-- 015235335a4a3031 0000000000000001 0000000d, that snapshot, 01 00000005, that entry, and 00
abbrev first_version : List ℕ
first_version =
    0x01 ∷ 0x52 ∷ 0x35 ∷ 0x33 ∷ 0x5a ∷ 0x4a ∷ 0x30 ∷ 0x31
    ∷ 0 ∷ 0 ∷ 0 ∷ 0 ∷ 0 ∷ 0 ∷ 0 ∷ 1 ∷ 0 ∷ 0 ∷ 0 ∷ 13
    ∷ 1 ∷ 0 ∷ 0 ∷ 0 ∷ 1 ∷ 0 ∷ 0 ∷ 0 ∷ 1 ∷ 0 ∷ 0 ∷ 0 ∷ 0
    ∷ 1 ∷ 0 ∷ 0 ∷ 0 ∷ 5 ∷ 1 ∷ 4 ∷ 1 ∷ 3 ∷ 0 ∷ 0 ∷ []

-- h1, with threshold 3, neither inverted nor disabled
abbrev with_check : Config
with_check = record empty {
  checks = record { next = 2; list = (1, Endpoint 3 false false) ∷ [] };
}

is_first : IsBase first_nothing empty
is_first = record {
  is = record {
    version = 1;
    has = record {
      known = inl refl;
      next = refl;
      checks = record { count = omega arith; each = tt };
      collections = refl;
      zones = record { count = omega arith; each = tt };
    };
    spelled = refl;
  };
  sound = sound_empty;
}

accepts_check : Decides empty (Health (Create (Endpoint 3 false false))) (Ok (with_check, Check 1))
unfolding is_too_deep
accepts_check = refl

takes_check : AcceptsEntry empty new_check with_check
takes_check = record {
  given = Health (Create (Endpoint 3 false false));
  spelled = record {
    version = 1;
    is_version = inl refl;
    is = tt;
    has_spelling = record { bounded = (omega arith, omega arith); told = λ old. refl };
    spelled = refl;
  };
  what = Check 1;
  decides = accepts_check;
}

pub opens_first_version : (y : List ℕ) → (IsOpen y → ⊥) → OpensConfig first_version y with_check
opens_first_version y closed = record {
  generation = 1;
  snapshot = first_nothing;
  entries = new_check ∷ [];
  opens = record {
    opens = inl (
      record {
        gate = 0;
        rest = [];
        is = refl;
        closed = omega arith;
        generation_fits = omega arith;
        snapshot_fits = omega arith;
        entries_fit = (omega arith, tt);
      },
      λ is_open. absurd (closed is_open),
    );
    makes = record {
      base = empty;
      is_base = is_first;
      taken = (with_check, takes_check, refl);
    };
  };
}

-- ---- two files that are open

-- 02 04 01 03 00 00: the same check in version 2, which isn't disabled
abbrev new_check_now : List ℕ
new_check_now = 2 ∷ 4 ∷ 1 ∷ 3 ∷ 0 ∷ 0 ∷ []

takes_check_now : AcceptsEntry empty new_check_now with_check
takes_check_now = record {
  given = Health (Create (Endpoint 3 false false));
  spelled = record {
    version = 2;
    is_version = inr refl;
    is = tt;
    has_spelling = record { bounded = (omega arith, omega arith); told = λ old. refl };
    spelled = refl;
  };
  what = Check 1;
  decides = accepts_check;
}

-- what a compaction that began with nothing there has built, with that entry since
abbrev compacted : List ℕ
compacted =
    0x01 ∷ 0x52 ∷ 0x35 ∷ 0x33 ∷ 0x5a ∷ 0x4a ∷ 0x30 ∷ 0x31
    ∷ 0 ∷ 0 ∷ 0 ∷ 0 ∷ 0 ∷ 0 ∷ 0 ∷ 2 ∷ 0 ∷ 0 ∷ 0 ∷ 13
    ∷ 2 ∷ 0 ∷ 0 ∷ 0 ∷ 1 ∷ 0 ∷ 0 ∷ 0 ∷ 1 ∷ 0 ∷ 0 ∷ 0 ∷ 0
    ∷ 1 ∷ 0 ∷ 0 ∷ 0 ∷ 6 ∷ 2 ∷ 4 ∷ 1 ∷ 3 ∷ 0 ∷ 0 ∷ 0 ∷ []

-- the file of `b` decides by its generation, whatever stands behind the snapshot of the other one
pub opens_compacted : (rest : List ℕ) → OpensConfig (begun ++ rest) compacted with_check
opens_compacted rest = record {
  generation = 2;
  snapshot = nothing;
  entries = new_check_now ∷ [];
  opens = record {
    opens = inr (
      record {
        gate = 0;
        rest = [];
        is = refl;
        closed = omega arith;
        generation_fits = omega arith;
        snapshot_fits = omega arith;
        entries_fit = (omega arith, tt);
      },
      λ is_open. omega arith,
    );
    makes = record {
      base = empty;
      is_base = is_nothing;
      taken = (with_check, takes_check_now, refl);
    };
  };
}

-- where the generations are equal, the file of `a` decides
pub opens_a : OpensConfig (begun ++ 0 ∷ []) first_version empty
opens_a = record {
  generation = 1;
  snapshot = nothing;
  entries = [];
  opens = record {
    opens = inl (
      record {
        gate = 0;
        rest = [];
        is = refl;
        closed = omega arith;
        generation_fits = omega arith;
        snapshot_fits = omega arith;
        entries_fit = tt;
      },
      λ is_open. omega arith,
    );
    makes = makes_nothing;
  };
}
