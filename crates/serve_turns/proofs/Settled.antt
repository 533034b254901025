-- Replies that are kept.
use Rattle.std.proofs.Common.{◌≡◌, ◌≤◌, ◌⊎◌, ◌++◌, ℕ, suc, zero, List, [], ◌∷◌, Option, None, Some, length, take, drop, sym, ap, ◌∙◌, subst, refl, inl, inr, arith}
use Rattle.std.specs.Prelude.{IfSome}
use Rattle.dns_wire.specs.Draft.{Draft}
use Rattle.geo_latency.specs.declared.tables.Tables.{Tables}
use Rattle.packet_cache.specs.Kept.{Keeps, KeepsNoMoreBut, Kept, kept_of}
use Rattle.session_model.specs.Engine.{Engine, QueryGives, is_healthy}
use Rattle.r53_core.specs.Asking.{answer_of}
use Rattle.r53_core.specs.Stores.{StandsFor, State as Store}
use Rattle.settled_replies.specs.Names.{AreOctets}
use Rattle.settled_replies.specs.Reply.{Asker}
use Rattle.settled_replies.specs.Settled.{AnswersAll, IsSettled}
use Rattle.serve_turns.specs.Settled.{AreSettled, Serves}

-- What answers whoever asks answers the one who does.
pub by_all : (engine : Engine) (tables : Tables) (asker : Asker) (packet octets : List ℕ)
    → AnswersAll engine.config.zones engine.config.collections.list (is_healthy engine.config engine.reports) tables packet octets
    → QueryGives engine tables asker packet (Some octets)
by_all engine tables asker packet octets all = all asker

take_two : (n : ℕ) (xs : List ℕ) → 2 ≤ n → take 2 (take n xs) ≡ take 2 xs
take_two zero xs many = absurd (omega (arith, many))
take_two (suc zero) xs many = absurd (omega (arith, many))
take_two (suc (suc n)) [] many = refl
take_two (suc (suc n)) (x ∷ []) many = refl
take_two (suc (suc n)) (x ∷ y ∷ xs) many = refl

two_left : (n : ℕ) (xs : List ℕ) → 2 ≤ n → n ≤ length xs → 2 ≤ length (take n xs)
two_left zero xs many within = absurd (omega (arith, many))
two_left (suc zero) xs many within = absurd (omega (arith, many))
two_left (suc (suc n)) [] many within = absurd (omega (arith, within))
two_left (suc (suc n)) (x ∷ []) many within = absurd (omega (arith, within))
two_left (suc (suc n)) (x ∷ y ∷ xs) many within = omega arith

module _ (engine : Engine) (tables : Tables) where
  -- a packet whose reply is kept, which stands in its place
  pub answered_by : (replies : List (Option Kept)) → AreSettled engine tables replies → (packet after : List ℕ)
      (len size : ℕ) (reply : List ℕ) → 2 ≤ len → len ≤ length packet → AreOctets (take len packet)
      → Keeps replies (record { packet_rest = drop 2 (take len packet); reply_rest = reply })
      → take size after ≡ take 2 packet ++ reply
      → AnswersAll engine.config.zones engine.config.collections.list
      (is_healthy engine.config engine.reports) tables (take len packet) (take size after)
  answered_by replies are packet after len size reply many within octets keeps is =
      subst (λ (o : List ℕ). AnswersAll engine.config.zones engine.config.collections.list
      (is_healthy engine.config engine.reports) tables (take len packet) o)
      (ap (λ (l : List ℕ). l ++ reply) (take_two len packet many) ∙ sym is)
      (are (record { packet_rest = drop 2 (take len packet); reply_rest = reply }) keeps (take len packet) octets
      (two_left len packet many within) refl)

  -- one more is kept
  pub with_one : (old new : List (Option Kept)) (packet reply : List ℕ) → AreSettled engine tables old
      → IsSettled engine.config.zones engine.config.collections.list (is_healthy engine.config engine.reports) tables (drop 2 packet) (drop 2 reply)
      → KeepsNoMoreBut (kept_of packet reply) old new → AreSettled engine tables new
  with_one old new packet reply are settled more kept keeps = by (more kept keeps)
    where
      by : Keeps old kept ⊎ (kept ≡ kept_of packet reply)
          → IsSettled engine.config.zones engine.config.collections.list (is_healthy engine.config engine.reports) tables kept.packet_rest kept.reply_rest
      by (inl before) = are kept before
      by (inr is) =
          subst (λ (k : Kept). IsSettled engine.config.zones engine.config.collections.list (is_healthy engine.config engine.reports) tables k.packet_rest k.reply_rest)
          (sym is) settled

-- one store and one list of kept replies
pub served_same : (engine : Engine) (tables : Tables) (old new : Store) (replies others : List (Option Kept)) → new ≡ old
    → others ≡ replies → Serves engine tables old replies → Serves engine tables new others
served_same engine tables old new replies others same kept its = record {
  stands = subst (λ (s : Store). StandsFor engine s) (sym same) its.stands;
  settled = subst (λ (r : List (Option Kept)). AreSettled engine tables r) (sym kept) its.settled;
}

-- what is told of a reply, where there is one, and where there is none
pub some_told : (result : Option ℕ) (reply : Draft) (Q : Option (List ℕ) → Type 0) → Q (answer_of result reply)
    → IfSome result (λ n. Q (Some reply.bytes))
some_told None reply Q told = tt
some_told (Some n) reply Q told = told

pub none_told : (result : Option ℕ) (reply : Draft) (Q : Option (List ℕ) → Type 0) → Q (answer_of result reply)
    → result ≡ None → Q None
none_told None reply Q told same = told
none_told (Some n) reply Q told same = absurd (grind (arith, same))
