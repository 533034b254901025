-- What reading a name tells, and what the test of layouts does.
use Rattle.std.proofs.Common.{◌≡◌, ℕ, zero, suc, ◌+◌, ◌-◌, ◌<◌, inl, inr, Bool, true, false, List, [], ◌∷◌, ◌++◌, length, arith, ap, ◌∙◌, sym, refl, cond}
use Rattle.std.specs.Prelude.{◌&&◌, nat_le, nat_lt}
use Rattle.std.proofs.lemmas.List.{nil_from_length}
use Rattle.rdata_layout.specs.Labels.{wire}
use Rattle.rdata_layout.specs.Names.{AreOctets}
use Rattle.octet_reading.specs.declared.names.NameRead.{NameRead}
use Rattle.octet_reading.specs.declared.names.NameRead.TheVariants.{Whole, Short, Broken}
use Rattle.octet_reading.specs.Laws.{CanGoOn, CanBeNoName, TellsName, NamesAreTold, LayoutsAreTold}
use Rattle.octet_reading.specs.Names.{is_lower, name_read_from, name_read, named, name_at}
use Rattle.octet_reading.proofs.Again.{front_again}
use Rattle.octet_reading.proofs.Found.{IsBytes, later_bytes}
use Rattle.octet_reading.proofs.Layouts.{layout_is, layout_again}
use Rattle.octet_reading.proofs.Naming.{whole_begins, name_stands}

pub are_bytes : (octets : List ℕ) → AreOctets octets → IsBytes octets
are_bytes [] are i = omega arith
are_bytes (b ∷ octets) are zero = are.0
are_bytes (b ∷ octets) are (suc i) = are_bytes octets are.1 i

-- octets behind which a name could go on, and with which it does
record GoesOn (room need : ℕ) (octets : List ℕ) : Type 0 where
  pub more : List ℕ
  pub bytes : IsBytes (octets ++ more)
  pub whole : name_read_from room need (octets ++ more) ≡ Whole 0

one_byte : (b : ℕ) (octets : List ℕ) → b < 256 → IsBytes octets → IsBytes (b ∷ octets)
one_byte b octets below bytes zero = below
one_byte b octets below bytes (suc i) = bytes i

no_bytes : IsBytes []
no_bytes i = omega arith

taken_or : (b : Bool) (x : NameRead) → cond b x Broken ≡ Short → (b ≡ true) × (x ≡ Short)
taken_or true x e = (refl, e)
taken_or false x e = absurd cc

passed : (b : Bool) (x y : NameRead) → b ≡ true → x ≡ y → cond b x Broken ≡ y
passed true x y t e = e
passed false x y t e = absurd cc

goes_on : (room need : ℕ) (octets : List ℕ) → IsBytes octets → name_read_from room need octets ≡ Short
    → GoesOn room need octets
goes_on room zero [] bytes e =
    record { more = 0 ∷ []; bytes = one_byte 0 [] (omega arith) no_bytes; whole = refl }
goes_on room (suc need) [] bytes e =
    let r = goes_on room need [] no_bytes refl in
    record {
      more = 0x61 ∷ r.more;
      bytes = one_byte 0x61 r.more (omega arith) r.bytes;
      whole =
          r.whole;
    }
goes_on room zero (zero ∷ octets) bytes e = absurd cc
goes_on room zero (suc n ∷ octets) bytes e =
    let t = taken_or (nat_lt n 63
    && nat_le (n + 3) room) (name_read_from (room - (n + 2)) (suc n) octets) e in
    let r = goes_on (room - (n + 2)) (suc n) octets (later_bytes (suc n) octets bytes) t.1 in
    record {
      more = r.more;
      bytes = one_byte (suc n) (octets ++ r.more)
          (bytes 0) r.bytes;
      whole = passed (nat_lt n 63 && nat_le (n + 3) room)
          (name_read_from (room - (n + 2)) (suc n) (octets ++ r.more)) (Whole 0) t.0 r.whole;
    }
goes_on room (suc need) (b ∷ octets) bytes e =
    let t = taken_or (is_lower b) (name_read_from room need octets) e in
    let r = goes_on room need octets (later_bytes b octets bytes) t.1 in
    record {
      more = r.more;
      bytes = one_byte b (octets ++ r.more) (bytes 0) r.bytes;
      whole = passed (is_lower b)
          (name_read_from room need (octets ++ r.more)) (Whole 0) t.0 r.whole;
    }

-- what is broken stays so, whatever follows
stopped : (b : Bool) (x y : NameRead) → (x ≡ Broken → y ≡ Broken) → cond b x Broken ≡ Broken
    → cond b y Broken ≡ Broken
stopped true x y h e = h e
stopped false x y h e = refl

stays_broken : (room need : ℕ) (octets more : List ℕ) → name_read_from room need octets ≡ Broken
    → name_read_from room need (octets ++ more) ≡ Broken
stays_broken room need [] more e = absurd cc
stays_broken room zero (zero ∷ octets) more e = absurd cc
stays_broken room zero (suc n ∷ octets) more e =
    stopped (nat_lt n 63 && nat_le (n + 3) room) (name_read_from (room - (n + 2)) (suc n) octets)
    (name_read_from (room - (n + 2)) (suc n) (octets ++ more))
    (stays_broken (room - (n + 2)) (suc n) octets more) e
stays_broken room (suc need) (b ∷ octets) more e =
    stopped (is_lower b) (name_read_from room need octets) (name_read_from room need (octets ++ more))
    (stays_broken room need octets more) e

can_go_on : (octets : List ℕ) → IsBytes octets → name_read octets ≡ Short → CanGoOn octets
can_go_on octets bytes e =
    let r = goes_on 255 0 octets bytes e in
    let w = whole_begins (octets ++ r.more) 0 r.bytes r.whole in
    record {
      labels = w.labels;
      more = r.more;
      begins = record {
        name = w.name;
        spelled = w.spelled
            ∙ ap (λ t. wire w.labels ++ t) (nil_from_length w.rest w.left_is);
      };
      not_yet = λ others rest b. let k : Whole (length rest) ≡ Short =
          sym (ap name_read b.spelled ∙ front_again others rest b.name) ∙ e in absurd cc;
    }

can_be_none : (octets : List ℕ) → name_read octets ≡ Broken → CanBeNoName octets
can_be_none octets e more labels rest b =
    let k : Whole (length rest) ≡ Broken =
    sym (ap name_read b.spelled ∙ front_again labels rest b.name)
    ∙ stays_broken 255 0 octets more e in
    absurd cc

told : (octets : List ℕ) (front : NameRead) → IsBytes octets → name_read octets ≡ front
    → name_at octets ≡ named octets front
    → TellsName octets (named octets front)
told octets (Whole left) bytes f e = let s = name_stands octets _ bytes e in
    record { name = s.1; spelled = s.0 }
told octets Short bytes f e = inl (refl, can_go_on octets bytes f)
told octets Broken bytes f e = inr (refl, can_be_none octets f)

pub names_are_told : NamesAreTold
unfolding name_at
names_are_told octets are = told octets (name_read octets) (are_bytes octets are) refl refl

pub layouts_are_told : LayoutsAreTold
layouts_are_told type octets are =
    (layout_is type octets (are_bytes octets are), layout_again type octets)
