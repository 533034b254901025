-- The OPT record that is written is read as it was meant.
use Rattle.std.proofs.Common.{◌≡◌, ℕ, ◌+◌, ◌*◌, ◌/◌, ◌%◌, ◌<◌, ◌≤◌, ◌==◌, List, [], ◌∷◌, ◌++◌, length, take, drop, ap, ◌∙◌, sym, refl, subst, arith, length-append, append_assoc, Bool, true, false, Option, Some, None}
use Rattle.std.specs.List.{flat_map}
use Rattle.std.proofs.lemmas.List.{take_at, drop_at, drop-drop}
use Rattle.octets.specs.Numbers.{number_at, long_at}
use Rattle.dns_message.specs.Edns.{AreOptions, EdnsOption, dnssec_ok_of, option_at, option_size, version_of}
use Rattle.dns_message.specs.Records.{AnyRecord, BeginsWithRecord, record_of}
use Rattle.dns_message.specs.Records.IsOwner.{ends}
use Rattle.dns_wire.specs.Header.{bit_of}
use Rattle.dns_wire.specs.Message.{Opt, opt_octets, option_octets}
use Rattle.dns_wire.specs.Reading.{OptAt, StandsAt}

back : (n : ℕ) → n / 256 * 256 + n % 256 ≡ n
back n = omega arith

-- ---- options

-- the octets of an option and what stands behind them
abbrev before : EdnsOption → List ℕ → List ℕ
before o rest = option_octets o ++ rest

body_len : (o : EdnsOption) (rest : List ℕ) → number_at (before o rest) 2 ≡ length o.body
body_len o rest = back (length o.body)

first_is : (o : EdnsOption) (rest : List ℕ) → o ≡ option_at (before o rest)
first_is o rest =
    let code : o.code ≡ number_at (before o rest) 0 = sym (back o.code) in
    let body : o.body ≡ take (number_at (before o rest) 2) (o.body ++ rest) =
    sym (take_at o.body rest (number_at (before o rest) 2) (sym (body_len o rest))) in
    ap (λ c. record { code = c; body = o.body }) code
    ∙ ap (λ b. record { code = number_at (before o rest) 0; body = b }) body

rest_is : (o : EdnsOption) (rest : List ℕ) → drop (option_size (before o rest)) (before o rest) ≡ rest
rest_is o rest =
    sym (drop-drop (number_at (before o rest) 2) 4 (before o rest))
    ∙ drop_at o.body rest (number_at (before o rest) 2) (sym (body_len o rest))

whole_first : (o : EdnsOption) (rest : List ℕ) → option_size (before o rest) ≤ length (before o rest)
whole_first o rest = omega (arith, body_len o rest, length-append o.body rest)

pub options_are : (options : List EdnsOption) → AreOptions (flat_map option_octets options) options
options_are [] = refl
options_are (o ∷ options) =
    let rest = flat_map option_octets options in
    (whole_first o rest, first_is o rest, subst (λ l. AreOptions l options) (sym (rest_is o rest)) (options_are options))

-- ---- the record

module _ (rcode : ℕ) (opt : Opt) (rest : List ℕ) where
  abbrev body : List ℕ
  body = flat_map option_octets opt.options

  -- what stands from the record on
  abbrev there : List ℕ
  there = opt_octets rcode (Some opt) ++ rest

  abbrev r : AnyRecord
  r = record_of there 1

  rdlength : number_at there 9 ≡ length body
  rdlength = back (length body)

  begins : BeginsWithRecord there r (11 + length body)
  begins = record {
    owner_len = 1;
    owner = ends;
    sized = omega (arith, rdlength);
    whole = omega (arith, length-append body rest);
    fields = refl;
  }

  ttl_is : r.ttl ≡ rcode / 16 * 16777216 + 0 * 65536 + 128 * bit_of opt.dnssec_ok * 256 + 0
  ttl_is = refl

  rdata_is : r.rdata ≡ body
  rdata_is = take_at body rest (number_at there 9) (sym rdlength)

bit_small : (b : Bool) → bit_of b ≤ 1
bit_small true = omega arith
bit_small false = omega arith

do_back : (upper : ℕ) (b : Bool)
    → ((upper * 16777216 + 0 * 65536 + 128 * bit_of b * 256 + 0) / 32768 % 2 == 1) ≡ b
do_back upper true =
    let n : (upper * 16777216 + 0 * 65536 + 128 * 1 * 256 + 0) / 32768 % 2 ≡ 1 = omega arith in
    ap (λ k. k == 1) n
do_back upper false =
    let n : (upper * 16777216 + 0 * 65536 + 128 * 0 * 256 + 0) / 32768 % 2 ≡ 0 = omega arith in
    ap (λ k. k == 1) n

pub opt_at : (message : List ℕ) (place rcode : ℕ) (opt : Opt)
    → StandsAt message place (opt_octets rcode (Some opt))
    → place + length (opt_octets rcode (Some opt)) ≡ length message
    → OptAt message place opt (rcode / 16)
opt_at message place rcode opt s end =
    let from : drop place message ≡ opt_octets rcode (Some opt) ++ s.rest =
    ap (drop place) s.there ∙ drop_at s.front (opt_octets rcode (Some opt) ++ s.rest) place s.size in
    let small = bit_small opt.dnssec_ok in
    record {
      as_record = r rcode opt s.rest;
      size = 11 + length (flat_map option_octets opt.options);
      there = subst (λ d. BeginsWithRecord d (r rcode opt s.rest) (11 + length (flat_map option_octets opt.options)))
          (sym from) (begins rcode opt s.rest);
      last = omega (arith, end);
      owner = refl;
      rtype = refl;
      payload = back opt.size;
      upper_is = omega (arith, small);
      version = omega (arith, small);
      dnssec_ok = do_back (rcode / 16) opt.dnssec_ok;
      options = subst (λ l. AreOptions l opt.options) (sym (rdata_is rcode opt s.rest)) (options_are opt.options);
    }
