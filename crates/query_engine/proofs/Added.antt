-- Sections that are written into a reply.
use Rattle.std.proofs.Common.{◌≡◌, List, [], ◌∷◌, ◌++◌, refl, sym, ap, ◌∙◌, subst}
use Rattle.std.proofs.Common.{append_assoc}
use Rattle.std.proofs.lemmas.List.{append-nil}
use Rattle.dns_wire.specs.Draft.{Draft, StandsFor, with_records}
use Rattle.dns_wire.specs.Message.{Message, Record}
use Rattle.dns_wire.specs.declared.reply.Section.TheVariants.{Additional, Answer, Authority}
use Rattle.reply_records.specs.Writing.{TakesRecords, Writes}
use Rattle.zone_lookup.specs.Sections.{Sections, ends, with_cname}
use Rattle.zone_lookup.specs.UsedRecord.{Used}
use Rattle.query_engine.specs.Adding.{WritesAll}

pub open_authority : (d : Draft) → TakesRecords Answer d → TakesRecords Authority d
open_authority d (m, is, follows) = (m, is, follows.1)

-- a message with its sections, one by one
sections_are : (m : Message) (a a2 b b2 c c2 : List Record) → a ≡ a2 → b ≡ b2 → c ≡ c2
    → record m { answers = a; authorities = b; additionals = c }
    ≡ record m { answers = a2; authorities = b2; additionals = c2 }
sections_are m a a2 b b2 c c2 ea eb ec =
    ap (λ (x : List Record). record m { answers = x; authorities = b; additionals = c }) ea
    ∙ (ap (λ (x : List Record). record m { answers = a2; authorities = x; additionals = c }) eb
    ∙ ap (λ (x : List Record). record m { answers = a2; authorities = b2; additionals = x }) ec)

pub nothing_more : (used : Used) (d : Draft) → WritesAll (ends used) d d
nothing_more used d = record {
  stands = λ m is follows. subst (λ (x : Message). StandsFor x d)
      (sections_are m m.answers (m.answers ++ []) m.authorities (m.authorities ++ [])
      m.additionals (m.additionals ++ []) (sym (append-nil m.answers))
      (sym (append-nil m.authorities)) (sym (append-nil m.additionals))) is;
  edns = refl;
  room = refl;
}

-- answers alone
pub answers_alone : (s : Sections) (a b : Draft) → s.authorities ≡ [] → s.additionals ≡ []
    → Writes Answer s.answers a b → WritesAll s a b
answers_alone s a b none none_too wrote = record {
  stands = λ m is follows. subst (λ (x : Message). StandsFor x b)
      (sections_are m (m.answers ++ s.answers) (m.answers ++ s.answers)
      m.authorities (m.authorities ++ s.authorities) m.additionals (m.additionals ++ s.additionals)
      refl (sym (ap (λ (xs : List Record). m.authorities ++ xs) none ∙ append-nil m.authorities))
      (sym (ap (λ (xs : List Record). m.additionals ++ xs) none_too
      ∙ append-nil m.additionals)))
      (wrote.stands m is follows);
  edns = wrote.edns;
  room = wrote.room;
}

-- authorities, and additionals behind them
pub authorities_and_more : (s : Sections) (a b c : Draft) → s.answers ≡ []
    → Writes Authority s.authorities a b → Writes Additional s.additionals b c → WritesAll s a c
authorities_and_more s a b c none wrote wrote_more = record {
  stands = λ m is follows. subst (λ (x : Message). StandsFor x c)
      (sections_are m m.answers (m.answers ++ s.answers)
      (m.authorities ++ s.authorities) (m.authorities ++ s.authorities)
      (m.additionals ++ s.additionals) (m.additionals ++ s.additionals)
      (sym (ap (λ (xs : List Record). m.answers ++ xs) none ∙ append-nil m.answers)) refl refl)
      (wrote_more.stands (with_records Authority s.authorities m)
      (wrote.stands m is follows.1) tt);
  edns = wrote_more.edns ∙ wrote.edns;
  room = wrote_more.room ∙ wrote.room;
}

pub authorities_alone : (s : Sections) (a b : Draft) → s.answers ≡ [] → s.additionals ≡ []
    → Writes Authority s.authorities a b → WritesAll s a b
authorities_alone s a b none none_too wrote = record {
  stands = λ m is follows. subst (λ (x : Message). StandsFor x b)
      (sections_are m m.answers (m.answers ++ s.answers)
      (m.authorities ++ s.authorities) (m.authorities ++ s.authorities)
      m.additionals (m.additionals ++ s.additionals)
      (sym (ap (λ (xs : List Record). m.answers ++ xs) none ∙ append-nil m.answers)) refl
      (sym (ap (λ (xs : List Record). m.additionals ++ xs) none_too
      ∙ append-nil m.additionals)))
      (wrote.stands m is follows.1);
  edns = wrote.edns;
  room = wrote.room;
}

-- a CNAME record before the rest
pub cname_before : (r : Record) (s : Sections) (a b c : Draft) → Writes Answer (r ∷ []) a b
    → WritesAll s b c → WritesAll (with_cname r s) a c
cname_before r s a b c wrote rest = record {
  stands = λ m is follows. subst (λ (x : Message). StandsFor x c)
      (sections_are m ((m.answers ++ r ∷ []) ++ s.answers) (m.answers ++ (r ∷ s.answers))
      (m.authorities ++ s.authorities) (m.authorities ++ s.authorities)
      (m.additionals ++ s.additionals) (m.additionals ++ s.additionals)
      (append_assoc m.answers (r ∷ []) s.answers) refl refl)
      (rest.stands (with_records Answer (r ∷ []) m) (wrote.stands m is follows) follows);
  edns = rest.edns ∙ wrote.edns;
  room = rest.room ∙ wrote.room;
}

pub still_open : (r : Record) (a b : Draft) → TakesRecords Answer a → Writes Answer (r ∷ []) a b
    → TakesRecords Answer b
still_open r a b (m, is, follows) wrote =
    (with_records Answer (r ∷ []) m, wrote.stands m is follows, follows)
