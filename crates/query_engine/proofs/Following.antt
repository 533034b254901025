-- Along CNAME records.
use Rattle.std.proofs.Common.{◌≡◌, ◌-◌, ◌<◌, ℕ, zero, suc, true, false, List, ◌∷◌, [], refl, sym}
use Rattle.std.proofs.Common.{ap, ◌∙◌}
use Rattle.std.proofs.Common.{subst, arith}
use Rattle.std.specs.Prelude.{cond}
use Rattle.dns_name.specs.Stored.{labels_of}
use Rattle.dns_wire.specs.Draft.{Draft}
use Rattle.dns_wire.specs.Message.{Record}
use Rattle.dns_wire.specs.declared.reply.Section.TheVariants.{Answer}
use Rattle.zone_lookup.specs.UsedRecord.{Used}
use Rattle.zone_lookup.specs.Descent.{Choices}
use Rattle.zone_lookup.specs.Sections.{Lookup, Sections, ended, ends, followed, is_zone}
use Rattle.zone_lookup.specs.Sections.{look_up, step, with_cname}
use Rattle.zone_lookup.specs.Sections.NameOutcome.{Ends, Follows}
use Rattle.zone_lookup.specs.Zones.{zone_for}
use Rattle.reply_records.specs.Writing.{Writes}
use Rattle.query_engine.specs.Adding.{WritesAll}
use Rattle.query_engine.specs.Asking.{EndsAs}
use Rattle.query_engine.specs.declared.asking.End.{End}
use Rattle.query_engine.proofs.Added.{cname_before, nothing_more}

pub ends_found : (most : ℕ) (lookup : Lookup) (name : List (List ℕ)) (choices : Choices)
    (s : Sections) → step lookup name choices ≡ Ends s → look_up most lookup name choices ≡ s
ends_found zero lookup name choices s e = ap ended e
ends_found (suc n) lookup name choices s e = ap (followed lookup (look_up n lookup)) e

module _ (lookup : Lookup) (name : List (List ℕ)) (choices : Choices) (cname : Record)
    (made : Choices) (is : step lookup name choices ≡ Follows cname made) where
  left_zone : (n : ℕ) → is_zone lookup.zone (zone_for lookup.zones (labels_of cname.rdata)) ≡ false
      → look_up (suc n) lookup name choices ≡ with_cname cname (ends made.used)
  left_zone n e =
      ap (followed lookup (look_up n lookup)) is
      ∙ ap (λ b. with_cname cname
      (cond b (look_up n lookup (labels_of cname.rdata) made) (ends made.used))) e

  in_zone : (n : ℕ) → is_zone lookup.zone (zone_for lookup.zones (labels_of cname.rdata)) ≡ true
      → look_up (suc n) lookup name choices
      ≡ with_cname cname (look_up n lookup (labels_of cname.rdata) made)
  in_zone n e =
      ap (followed lookup (look_up n lookup)) is
      ∙ ap (λ b. with_cname cname
      (cond b (look_up n lookup (labels_of cname.rdata) made) (ends made.used))) e

  -- no CNAME record more is added
  pub no_more : (most : ℕ) (old new : Draft) → most ≡ 0 → new ≡ old
      → EndsAs (look_up most lookup name choices) old new (record { aa = true; rcode = 0 })
      made.used
  no_more most old new none same =
      subst (λ (m : ℕ). EndsAs (look_up m lookup name choices) old new
      (record { aa = true; rcode = 0 }) made.used) (sym none)
      (subst (λ (s : Sections). EndsAs s old new (record { aa = true; rcode = 0 }) made.used)
      (sym (ap ended is)) (record {
        adds = subst (λ (d : Draft). WritesAll (ends made.used) old d) (sym same)
            (nothing_more made.used old);
        aa = refl;
        rcode = refl;
        uses = refl;
      }))

  pub outside : (most : ℕ) (old new : Draft) → 0 < most
      → is_zone lookup.zone (zone_for lookup.zones (labels_of cname.rdata)) ≡ false
      → Writes Answer (cname ∷ []) old new
      → EndsAs (look_up most lookup name choices) old new (record { aa = true; rcode = 0 })
      made.used
  outside most old new some other wrote =
      let one : suc (most - 1) ≡ most = omega (arith, some) in
      subst (λ (m : ℕ). EndsAs (look_up m lookup name choices) old new
      (record { aa = true; rcode = 0 }) made.used) one
      (subst (λ (s : Sections). EndsAs s old new (record { aa = true; rcode = 0 }) made.used)
      (sym (left_zone (most - 1) other)) (record {
        adds = cname_before cname (ends made.used) old new new wrote
            (nothing_more made.used new);
        aa = refl;
        rcode = refl;
        uses = refl;
      }))

  pub onward : (most : ℕ) (old middle new : Draft) (target : List (List ℕ)) (end : End)
      (used : Used) → 0 < most
      → is_zone lookup.zone (zone_for lookup.zones target) ≡ true
      → target ≡ labels_of cname.rdata → Writes Answer (cname ∷ []) old middle
      → EndsAs (look_up (most - 1) lookup target made) middle new end used
      → EndsAs (look_up most lookup name choices) old new (record { aa = true; rcode = end.rcode })
      used
  onward most old middle new target end used some same named wrote rest =
      let one : suc (most - 1) ≡ most = omega (arith, some) in
      let there = subst (λ (n : List (List ℕ)).
      is_zone lookup.zone (zone_for lookup.zones n) ≡ true) named same in
      let after = subst (λ (n : List (List ℕ)). EndsAs (look_up (most - 1) lookup n made) middle
      new end used) named rest in
      subst (λ (m : ℕ). EndsAs (look_up m lookup name choices) old new
      (record { aa = true; rcode = end.rcode }) used) one
      (subst (λ (s : Sections). EndsAs s old new (record { aa = true; rcode = end.rcode }) used)
      (sym (in_zone (most - 1) there)) (record {
        adds = cname_before cname (look_up (most - 1) lookup (labels_of cname.rdata) made) old
            middle new wrote after.adds;
        aa = refl;
        rcode = after.rcode;
        uses = after.uses;
      }))
