-- Options, walked one after another.
use Rattle.std.proofs.Common.{◌≡◌, ◌≢◌, ℕ, ◌+◌, ◌-◌, ◌<◌, ◌≤◌, ◌==◌, List, [], ◌∷◌, ◌++◌, length, take, drop, ap, ◌∙◌, sym, refl, subst, arith, append_assoc, length-drop, Bool, true, false, inl, inr}
use Rattle.std.specs.Prelude.{None, Some, if◌then◌else◌}
use Rattle.std.specs.Prelude.{◌⊎◌}
use Rattle.std.proofs.lemmas.List.{drop-drop, drop_all}
use Rattle.std.proofs.lemmas.Option.{none-some}
use Rattle.std.proofs.lemmas.Bool.{eq-eqb, ne_eqb}
use Rattle.octets.specs.Numbers.{number_at}
use Rattle.dns_message.specs.Edns.{AreOptions, EdnsOption, first_body, option_at, option_size}
use Rattle.dns_message.specs.Walk.{HasFirst, HasOptions}
use Rattle.dns_message.specs.declared.walked.Walked.{Walked}
use Rattle.dns_message.specs.declared.walked.Walked.TheVariants as walked

-- Octets are one list of options at most.
pub one_list : (octets : List ℕ) (options others : List EdnsOption)
    → AreOptions octets options → AreOptions octets others → options ≡ others
one_list octets [] [] h k = refl
one_list octets [] (o ∷ others) h k = absurd (let none : length octets ≡ 0 = ap length h in omega (arith, none, k.0))
one_list octets (o ∷ options) [] h k = absurd (let none : length octets ≡ 0 = ap length k in omega (arith, none, h.0))
one_list octets (o ∷ options) (p ∷ others) h k =
    let first : o ≡ p = h.1 ∙ sym k.1 in
    let rest : options ≡ others = one_list (drop (option_size octets) octets) options others h.2 k.2 in
    ap (λ x. x ∷ options) first ∙ ap (λ l. p ∷ l) rest

-- what was walked up to a place
pub record Stepped (octets : List ℕ) (at : ℕ) (done : List EdnsOption) : Type 0 where
  pub joins : (rest : List EdnsOption) → AreOptions (drop at octets) rest → AreOptions octets (done ++ rest)
  pub only : (options : List EdnsOption) → AreOptions octets options
      → (rest : List EdnsOption) × (options ≡ done ++ rest) × AreOptions (drop at octets) rest

pub none_yet : (octets : List ℕ) → Stepped octets 0 []
none_yet octets = record { joins = λ rest h. h; only = λ options h. (options, refl, h) }

-- one option more
pub one_option : (octets : List ℕ) (at : ℕ) (done : List EdnsOption) → at < length octets
    → option_size (drop at octets) ≤ length (drop at octets)
    → Stepped octets at done
    → Stepped octets (at + option_size (drop at octets)) (done ++ option_at (drop at octets) ∷ [])
one_option octets at done inside whole walked = record {
  joins = λ rest h.
      subst (AreOptions octets) (sym (append_assoc done (option_at (drop at octets) ∷ []) rest))
      (walked.joins (option_at (drop at octets) ∷ rest)
      (whole, refl, subst (λ l. AreOptions l rest) (sym (drop-drop (option_size (drop at octets)) at octets)) h));
  only = λ options h.
      let r = walked.only options h in
      elim r.0 as (λ l. options ≡ done ++ l → AreOptions (drop at octets) l
      → (rest : List EdnsOption) × (options ≡ (done ++ option_at (drop at octets) ∷ []) ++ rest)
      × AreOptions (drop (at + option_size (drop at octets)) octets) rest) [
        | [] ↦ λ e there. absurd (let none : length (drop at octets) ≡ 0 = ap length there in
            omega (arith, none, inside, length-drop at octets))
        | o ∷ rest ↦ λ e there. (
          rest,
          e ∙ ap (λ x. done ++ x ∷ rest) there.1
              ∙ sym (append_assoc done (option_at (drop at octets) ∷ []) rest),
          subst (λ l. AreOptions l rest) (drop-drop (option_size (drop at octets)) at octets) there.2,
        )
      ] r.1 r.2;
}

-- where no whole option stands, the octets aren't options
pub broken_off : (octets : List ℕ) (at : ℕ) (done : List EdnsOption) → at < length octets
    → length (drop at octets) < option_size (drop at octets)
    → Stepped octets at done
    → (options : List EdnsOption) → AreOptions octets options → ⊥
broken_off octets at done inside short walked options h =
    let r = walked.only options h in
    elim r.0 as (λ l. AreOptions (drop at octets) l → ⊥) [
      | [] ↦ λ there. (let none : length (drop at octets) ≡ 0 = ap length there in
          omega (arith, none, inside, length-drop at octets))
      | o ∷ rest ↦ λ there. omega (arith, there.0, short)
    ] r.2

-- the octets behind the last option are none
pub at_the_end : (octets : List ℕ) (at : ℕ) (done : List EdnsOption) → length octets ≤ at
    → Stepped octets at done → AreOptions octets (done ++ [])
at_the_end octets at done end walked = walked.joins [] (drop_all at octets end)

-- ---- the client subnet

-- the first body of a list with one option in front, by its code
first_is : (code : ℕ) (o : EdnsOption) (options : List EdnsOption) → (o.code == code) ≡ true
    → first_body code (o ∷ options) ≡ Some o.body
first_is code o options y = ap (λ b. if b then Some o.body else first_body code options) y

first_isnt : (code : ℕ) (o : EdnsOption) (options : List EdnsOption) → (o.code == code) ≡ false
    → first_body code (o ∷ options) ≡ first_body code options
first_isnt code o options n = ap (λ b. if b then Some o.body else first_body code options) n

either : (b : Bool) → (b ≡ true) ⊎ (b ≡ false)
either true = inl refl
either false = inr refl

-- Where the options have none, it is that of the others.
first_of_others : (code : ℕ) (options others : List EdnsOption) → first_body code options ≡ None
    → first_body code (options ++ others) ≡ first_body code others
first_of_others code [] others e = refl
first_of_others code (o ∷ options) others e =
    elim (either (o.code == code)) [
      | inl y ↦ absurd (none-some o.body (sym e ∙ first_is code o options y))
      | inr n ↦
          first_isnt code o (options ++ others) n
          ∙ first_of_others code options others (sym (first_isnt code o options n) ∙ e)
    ]

first_stays : (code : ℕ) (body : List ℕ) (options others : List EdnsOption)
    → first_body code options ≡ Some body → first_body code (options ++ others) ≡ Some body
first_stays code body [] others e = absurd (none-some body e)
first_stays code body (o ∷ options) others e =
    elim (either (o.code == code)) [
      | inl y ↦ first_is code o (options ++ others) y ∙ sym (first_is code o options y) ∙ e
      | inr n ↦
          first_isnt code o (options ++ others) n
          ∙ first_stays code body options others (sym (first_isnt code o options n) ∙ e)
    ]

-- what is found stays so behind more options
pub stays : (octets : List ℕ) (options others : List EdnsOption) (found : Walked) → found ≢ walked.Plain
    → HasFirst octets (first_body 8 options) found → HasFirst octets (first_body 8 (options ++ others)) found
stays octets options others walked.Broken some h = absurd h
stays octets options others walked.Plain some h = absurd (some refl)
stays octets options others (walked.At at) some h = (h.0, first_stays 8 _ options others h.1)

-- another option than the client subnet, behind some that have none
pub another : (options : List EdnsOption) (o : EdnsOption) → o.code ≢ 8
    → first_body 8 options ≡ None → first_body 8 (options ++ o ∷ []) ≡ None
another options o other e =
    first_of_others 8 options (o ∷ []) e ∙ first_isnt 8 o [] (ne_eqb o.code 8 other)

-- the client subnet, behind some that have none
pub stands_here : (octets rest : List ℕ) (at : ℕ) (options : List EdnsOption) → at ≤ length octets
    → rest ≡ drop at octets → option_size rest ≤ length rest → number_at rest 0 ≡ 8
    → first_body 8 options ≡ None
    → HasFirst octets (first_body 8 (options ++ option_at rest ∷ [])) (walked.At at)
stands_here octets rest at options within is whole code none = (
  record { within = within; whole = subst (λ l. option_size l ≤ length l) is whole },
  first_of_others 8 options (option_at rest ∷ []) none
      ∙ first_is 8 (option_at rest) [] (eq-eqb (number_at rest 0) 8 code)
      ∙ ap (λ l. Some (option_at l).body) is,
)

-- the body of the option at the front, by its size
pub body_of : (octets piece : List ℕ) (size : ℕ) → size ≡ option_size octets
    → piece ≡ take (size - 4) (drop 4 octets) → piece ≡ (option_at octets).body
body_of octets piece size e p = p ∙ ap (λ n. take n (drop 4 octets)) (omega (arith, e))

-- what walking all options comes to
pub walked_all : (octets : List ℕ) (options : List EdnsOption) (found : Walked) → AreOptions octets options
    → HasFirst octets (first_body 8 options) found → HasOptions octets found
walked_all octets options walked.Broken are h = absurd h
walked_all octets options walked.Plain are h = (options, are, h)
walked_all octets options (walked.At at) are h = (options, are, h)
