-- The turn of a packet.
use Rattle.std.proofs.Common.{◌≡◌, ℕ, List, [], ◌∷◌, ◌++◌, Option, None, Some, ap, ◌∙◌, sym, refl, subst, append_assoc, inr}
use Rattle.session_model.specs.Engine.{Engine, QueryGives}
use Rattle.geo_latency.specs.declared.tables.Tables.{Tables}
use Rattle.r53_io.specs.Network.{Dns, Incoming}
use Rattle.r53_io.specs.declared.network.Peer.{Peer}
use Rattle.serve_turns.specs.Turning.{PacketLeaves, Standing, IsAsDefined, TurnLeaves}
use Rattle.serve_turns.specs.declared.turning.Turn.{Turn}
use Rattle.serve_turns.specs.declared.turning.Turn.TheVariants as turn
use Rattle.session_model.specs.Serving.{Datagram, TurnsOutcome, after_packet, answered_too, behind_words}
use Rattle.session_model.specs.Serving.{silent_too, words_of}

module _ (tables : Tables) (before : List Datagram) (peer : Peer) (packet : List ℕ) (old : TurnsOutcome)
    (arrivals : List Incoming) (now : Standing) (stands : IsAsDefined before old arrivals now)
    (P : Engine → Type 0) (drawn : List ℕ) (are : drawn ≡ words_of 8 now.words)
    (here : P old.engine) (then : Standing) (words : then.words ≡ behind_words 8 now.words)
    (coming : then.coming ≡ now.coming) where
  gives : (answer : Option (List ℕ)) → QueryGives old.engine tables (record { peer = peer.address; words = drawn })
      packet answer
      → QueryGives old.engine tables
      (record { peer = peer.address; words = words_of 8 old.words }) packet answer
  gives answer told = subst (λ (w : List ℕ). QueryGives old.engine tables
      (record { peer = peer.address; words = w }) packet answer)
      (are ∙ ap (words_of 8) (sym stands.words)) told

  pub silent : QueryGives old.engine tables (record { peer = peer.address; words = drawn }) packet None
      → then.turns ≡ silent_too now.turns → then.sent ≡ now.sent
      → PacketLeaves turn.Taken tables before peer packet old arrivals P then
  silent told turns sent = (
    after_packet peer None old,
    (None, gives None told, refl),
    here,
    record {
      words = ap (behind_words 8) stands.words ∙ sym words;
      turns = ap silent_too stands.turns ∙ sym turns;
      coming = coming ∙ stands.coming;
      sent = sent ∙ stands.sent;
    },
  )

  pub answered : (octets : List ℕ)
      → QueryGives old.engine tables (record { peer = peer.address; words = drawn }) packet (Some octets)
      → then.turns ≡ answered_too now.turns
      → then.sent ≡ Some ((before ++ old.sent) ++ (peer, octets) ∷ [])
      → PacketLeaves turn.Taken tables before peer packet old arrivals P then
  answered octets told turns sent = (
    after_packet peer (Some octets) old,
    (Some octets, gives (Some octets) told, refl),
    here,
    record {
      words = ap (behind_words 8) stands.words ∙ sym words;
      turns = ap answered_too stands.turns ∙ sym turns;
      coming = coming ∙ stands.coming;
      sent = sent ∙ ap Some (append_assoc before old.sent ((peer, octets) ∷ []));
    },
  )

-- the turn, from what the packet came to
pub turned : (answer : Turn) (tables : Tables) (before : List Datagram) (peer : Peer)
    (packet octets : List ℕ) → packet ≡ octets → (old : TurnsOutcome) (arrivals more : List Incoming)
    → arrivals ≡ Dns peer octets ∷ more → (P : Engine → Type 0) (now : Standing)
    → PacketLeaves answer tables before peer packet old more P now
    → TurnLeaves answer tables before old arrivals P now
turned turn.Taken tables before peer packet octets is old arrivals more next P now
    (new, (answer, gives, so), here, stands) = (
      Dns peer octets,
      more,
      new,
      next,
      (
        answer,
        subst (λ (l : List ℕ). QueryGives old.engine tables
            (record { peer = peer.address; words = words_of 8 old.words }) l answer) is gives,
        so,
      ),
      here,
      stands,
    )
turned turn.Closed tables before peer packet octets is old arrivals more next P now never =
    absurd never
turned turn.Failed tables before peer packet octets is old arrivals more next P now (here, sent, coming) =
    (here, sent, inr (peer, octets, more, next, coming))
