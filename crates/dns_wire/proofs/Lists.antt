-- Records that are added as a list.
use Rattle.std.proofs.Common.{◌≡◌, List, [], ◌∷◌, ◌++◌, ap, refl, append_assoc, append-nil}
use Rattle.dns_wire.specs.declared.reply.Section.{Section}
use Rattle.dns_wire.specs.declared.reply.Section.TheVariants.{Answer, Authority, Additional}
use Rattle.dns_wire.specs.Draft.{Follows, with_record, with_records}
use Rattle.dns_wire.specs.Message.{Message, Record}

pub none : (section : Section) (m : Message) → with_records section [] m ≡ m
none Answer m = ap (λ l. record m { answers = l }) (append-nil m.answers)
none Authority m = ap (λ l. record m { authorities = l }) (append-nil m.authorities)
none Additional m = ap (λ l. record m { additionals = l }) (append-nil m.additionals)

pub one_more : (section : Section) (records : List Record) (r : Record) (m : Message)
    → with_record section r (with_records section records m)
    ≡ with_records section (records ++ r ∷ []) m
one_more Answer records r m =
    ap (λ l. record m { answers = l }) (append_assoc m.answers records (r ∷ []))
one_more Authority records r m =
    ap (λ l. record m { authorities = l }) (append_assoc m.authorities records (r ∷ []))
one_more Additional records r m =
    ap (λ l. record m { additionals = l }) (append_assoc m.additionals records (r ∷ []))

pub more : (section : Section) (records others : List Record) (m : Message)
    → with_records section others (with_records section records m)
    ≡ with_records section (records ++ others) m
more Answer records others m =
    ap (λ l. record m { answers = l }) (append_assoc m.answers records others)
more Authority records others m =
    ap (λ l. record m { authorities = l }) (append_assoc m.authorities records others)
more Additional records others m =
    ap (λ l. record m { additionals = l }) (append_assoc m.additionals records others)

pub follows : (section : Section) (records : List Record) (m : Message) → Follows section m
    → Follows section (with_records section records m)
follows Answer records m f = f
follows Authority records m f = f
follows Additional records m f = f
