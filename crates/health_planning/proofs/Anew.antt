-- What seats tell that are cleared, and then given anew by the checks that alone decide sets.
use Rattle.std.proofs.Common.{◌≡◌, ◌≢◌, ◌<◌, ◌⊎◌, ℕ, Bool, false, List, length, arith, refl, ap, sym, ◌∙◌, inl, inr}
use Rattle.std.proofs.lemmas.Bool.{cases_lt, false≢true}
use mathlib.Core.Path.{subst}
use Rattle.policy_select.specs.Changes.{ref_in}
use Rattle.policy_select.specs.SetRefRecord.{SetRef}
use Rattle.policy_select.specs.Tables.{HaveSlotsBelow}
use Rattle.policy_select.specs.Zones.{Zone, placed_in}
use Rattle.zone_model.specs.Slotted.{IsHere, Slotted}
use Rattle.health_planning.specs.Building.{AreFree, AreSeatedAnew, AreSeatedBeside, IsFree, IsListed, HoldsSet, KeepsCheck, SeatsCheck, TellSlot, TellsAll, TellsCheck, TellsOn}
use Rattle.health_planning.specs.Wired.{group_seat, own_part, seat_of, set_seat}
use Rattle.health_planning.specs.declared.seats.Seat.{Seat}
use Rattle.health_planning.proofs.ListedOnce.{slot_below}
use Rattle.health_planning.proofs.Told.{bare_past, keeps_trans, on_trans, seats_free, seats_trans, tells_on}

-- some sets are seated
abbrev Tells : List Zone → (ids numbers : List ℕ) → List SetRef → List Seat → Type 0
Tells zones ids numbers those after = (set : SetRef) (p : Slotted) → IsListed those set
    → IsHere (placed_in zones set.zone) p → p.slot ≡ set.slot → TellsCheck ids numbers after p

abbrev Stay : List Zone → (ids numbers : List ℕ) → (before after : List Seat) → Type 0
Stay zones ids numbers before after = (p : Slotted) (zone : ℕ) → IsHere (placed_in zones zone) p
    → TellsCheck ids numbers before p → TellsCheck ids numbers after p

module _ (zones : List Zone) (slots : ℕ) (below : HaveSlotsBelow zones slots) (ids numbers : List ℕ)
    (refs gone came : List SetRef) (before cleared emptied first second third : List Seat)
    (checks : (slot : ℕ) → slot < slots → KeepsCheck before cleared slot)
    (size : length cleared ≡ slots)
    (went : (slot : ℕ) → TellSlot gone slot → set_seat emptied slot ≡ 0)
    (others : (slot : ℕ) → TellSlot gone slot ⊎ TellsOn cleared emptied slot)
    (told : Tells zones ids numbers refs first) (stays : Stay zones ids numbers emptied first)
    (each : (slot : ℕ) → SeatsCheck zones emptied first slot)
    (told_gone : Tells zones ids numbers gone second) (stays_gone : Stay zones ids numbers first second)
    (each_gone : (slot : ℕ) → SeatsCheck zones first second slot)
    (told_came : Tells zones ids numbers came third) (stays_came : Stay zones ids numbers second third)
    (each_came : (slot : ℕ) → SeatsCheck zones second third slot) where
  -- a seat that no set was seated at
  seated : (slot : ℕ) → SeatsCheck zones emptied third slot
  seated slot =
      seats_trans emptied second third slot zones
      (seats_trans emptied first second slot zones (each slot) (each_gone slot)) (each_came slot)

  here_of : (slot : ℕ) → SeatsCheck zones emptied third slot
      → TellSlot gone slot ⊎ TellsOn cleared emptied slot → set_seat third slot ≢ 0
      → HoldsSet zones slot ⊎ ((false ≡ false) × ((TellSlot gone slot → ⊥) × TellsOn before third slot))
  here_of slot (inr taken) was some = inl taken.0
  here_of slot (inl on) (inl told_here) some = absurd (some (on.0 ∙ went slot told_here))
  here_of slot (inl on) (inr kept) some = elim (cases_lt slot slots) [
    | inl early ↦ elim (keeps_trans before cleared emptied slot (checks slot early) (inl kept)) [
      | inl all ↦
          inr (refl, (λ told_here. some (on.0 ∙ went slot told_here), on_trans before emptied third slot all on))
      | inr none ↦ absurd (some (on.0 ∙ none.1))
    ]
    | inr past ↦ absurd (some (on.0 ∙ kept.0 ∙ (bare_past cleared slot (omega arith)).0))
  ]

  stays_all : (zone : ℕ) (p : Slotted) → IsHere (placed_in zones zone) p → seat_of before p.slot ≡ 0
      → (TellSlot gone p.slot → ⊥) → TellsCheck ids numbers before p → TellsCheck ids numbers third p
  stays_all zone p here none apart its =
      let early = slot_below zones slots (ref_in zone p) p.set below here in
      let on : TellsOn before emptied p.slot = elim (others p.slot) [
        | inl told_here ↦ absurd (apart told_here)
        | inr kept ↦ elim (keeps_trans before cleared emptied p.slot (checks p.slot early) (inl kept)) [
          | inl all ↦ all
          | inr some ↦ absurd (some.0 none)
        ]
      ] in
      stays_came p zone here (stays_gone p zone here (stays p zone here (tells_on ids numbers before emptied p on its)))

  told_all : (ref : SetRef) (p : Slotted)
      → IsListed refs ref ⊎ (IsListed gone ref ⊎ IsListed came ref)
      → IsHere (placed_in zones ref.zone) p → p.slot ≡ ref.slot → TellsCheck ids numbers third p
  told_all ref p (inl known) here same =
      stays_came p ref.zone here (stays_gone p ref.zone here (told ref p known here same))
  told_all ref p (inr (inl left)) here same = stays_came p ref.zone here (told_gone ref p left here same)
  told_all ref p (inr (inr new)) here same = told_came ref p new here same

  pub seated_anew : (whole : Bool) → whole ≡ false
      → AreSeatedAnew zones ids numbers whole refs gone came before third
  seated_anew whole off = subst (λ (b : Bool). AreSeatedAnew zones ids numbers b refs gone came before third) (sym off) (record {
    all = λ no. absurd (false≢true no);
    told = told_all;
    stays = λ e. stays_all;
    here = λ slot. here_of slot (seated slot) (others slot);
  })

pub free_anew : (zones : List Zone) (slots : ℕ) (gone : List SetRef) (cleared emptied first second third : List Seat)
    → AreFree slots cleared → ((slot : ℕ) → TellSlot gone slot → set_seat emptied slot ≡ 0)
    → ((slot : ℕ) → TellSlot gone slot ⊎ TellsOn cleared emptied slot)
    → ((slot : ℕ) → group_seat emptied slot ≡ group_seat cleared slot)
    → length emptied ≡ length cleared
    → ((slot : ℕ) → SeatsCheck zones emptied first slot)
    → ((slot : ℕ) → group_seat first slot ≡ group_seat emptied slot) → length first ≡ length emptied
    → ((slot : ℕ) → SeatsCheck zones first second slot)
    → ((slot : ℕ) → group_seat second slot ≡ group_seat first slot) → length second ≡ length first
    → ((slot : ℕ) → SeatsCheck zones second third slot)
    → ((slot : ℕ) → group_seat third slot ≡ group_seat second slot) → length third ≡ length second
    → AreFree slots third
free_anew zones slots gone cleared emptied first second third free went others groups size each one size_one each_two two size_two each_three three size_three = record {
  size = size_three ∙ size_two ∙ size_one ∙ size ∙ free.size;
  each = λ slot.
      seats_free zones second third slot
      (seats_free zones first second slot
      (seats_free zones emptied first slot (empty slot (others slot)) (each slot) (one slot)) (each_two slot) (two slot))
      (each_three slot) (three slot);
}
  where
    empty : (slot : ℕ) → TellSlot gone slot ⊎ TellsOn cleared emptied slot → IsFree emptied slot
    empty slot (inl told) = (ap own_part (went slot told), groups slot ∙ (free.each slot).1)
    empty slot (inr on) = (ap own_part on.0 ∙ (free.each slot).0, groups slot ∙ (free.each slot).1)

-- ---- beside seats that stay

module _ (zones : List Zone) (ids numbers : List ℕ) (gone came : List SetRef)
    (before grown emptied first second : List Seat)
    (all : (slot : ℕ) → TellsAll before grown slot)
    (went : (slot : ℕ) → TellSlot gone slot → set_seat emptied slot ≡ 0)
    (others : (slot : ℕ) → TellSlot gone slot ⊎ TellsOn grown emptied slot)
    (groups : (slot : ℕ) → group_seat emptied slot ≡ group_seat grown slot)
    (told : Tells zones ids numbers gone first) (stays : Stay zones ids numbers emptied first)
    (others_first : (slot : ℕ) → TellSlot gone slot ⊎ TellsOn emptied first slot)
    (each : (slot : ℕ) → SeatsCheck zones emptied first slot)
    (groups_first : (slot : ℕ) → group_seat first slot ≡ group_seat emptied slot)
    (told_came : Tells zones ids numbers came second) (stays_came : Stay zones ids numbers first second)
    (others_second : (slot : ℕ) → TellSlot came slot ⊎ TellsOn first second slot)
    (each_came : (slot : ℕ) → SeatsCheck zones first second slot)
    (groups_second : (slot : ℕ) → group_seat second slot ≡ group_seat first slot) where
  emptied_on : (slot : ℕ) → (TellSlot gone slot → ⊥) → TellsOn before emptied slot
  emptied_on slot apart = elim (others slot) [
    | inl told_here ↦ absurd (apart told_here)
    | inr on ↦ on_trans before grown emptied slot (all slot).0 on
  ]

  beside_here : (slot : ℕ) → SeatsCheck zones emptied second slot → set_seat second slot ≢ 0
      → HoldsSet zones slot ⊎ ((TellSlot gone slot → ⊥) × TellsOn before second slot)
  beside_here slot (inr taken) some = inl taken.0
  beside_here slot (inl on) some =
      let apart : TellSlot gone slot → ⊥ = λ told_here. some (on.0 ∙ went slot told_here) in
      inr (apart, on_trans before emptied second slot (emptied_on slot apart) on)

  beside_others : (slot : ℕ) → (TellSlot gone slot ⊎ TellSlot came slot) ⊎ TellsOn before second slot
  beside_others slot = elim (others slot) [
    | inl told_here ↦ inl (inl told_here)
    | inr on ↦ elim (others_first slot) [
      | inl told_here ↦ inl (inl told_here)
      | inr on_first ↦ elim (others_second slot) [
        | inl told_here ↦ inl (inr told_here)
        | inr on_second ↦
            inr (on_trans before first second slot
            (on_trans before emptied first slot (on_trans before grown emptied slot (all slot).0 on) on_first) on_second)
      ]
    ]
  ]

  beside_free : (slot : ℕ) → seat_of before slot ≡ 0 → SeatsCheck zones emptied second slot
      → seat_of second slot ≡ 0
  beside_free slot none (inr taken) = taken.1
  beside_free slot none (inl on) = elim (others slot) [
    | inl told_here ↦ ap own_part (on.0 ∙ went slot told_here)
    | inr kept ↦ ap own_part (on.0 ∙ kept.0 ∙ (all slot).0.0) ∙ none
  ]

  pub seated_beside : AreSeatedBeside zones ids numbers gone came before second
  seated_beside = record {
    told = λ ref p listed here same. elim listed [
      | inl left ↦ stays_came p ref.zone here (told ref p left here same)
      | inr new ↦ told_came ref p new here same
    ];
    stays = λ zone p here apart its.
        stays_came p zone here (stays p zone here (tells_on ids numbers before emptied p (emptied_on p.slot apart) its));
    here = λ slot. beside_here slot (seats_trans emptied first second slot zones (each slot) (each_came slot));
    others = beside_others;
    free = λ slot none. beside_free slot none (seats_trans emptied first second slot zones (each slot) (each_came slot));
    groups = λ slot. groups_second slot ∙ groups_first slot ∙ groups slot ∙ (all slot).1;
  }
