-- Replies that are kept.
use Rattle.std.specs.Prelude.{ℕ, ◌≤◌, List, Option, None, Some, length, take, ⊤}
use Rattle.geo_latency.specs.declared.tables.Tables.{Tables}
use Rattle.packet_cache.specs.Kept.{Keeps, Kept}
use Rattle.r53_core.specs.Stores.{StandsFor, State as Store}
use Rattle.session_model.specs.Engine.{Engine, is_healthy}
use Rattle.settled_replies.specs.Settled.{IsSettled}
use Rattle.serve_turns.specs.declared.replying.Told.{Told}
use Rattle.serve_turns.specs.declared.replying.Told.TheVariants as told

-- Each of them is the reply to its packet whoever asks, by the configuration, the health of its sets, and the tables.
abbrev pub AreSettled : Engine → Tables → List (Option Kept) → Type 0
AreSettled engine tables replies = (kept : Kept) → Keeps replies kept
    → IsSettled engine.config.zones engine.config.collections.list (is_healthy engine.config engine.reports) tables
    kept.packet_rest kept.reply_rest

-- A store and the replies that are kept: it stands for the engine, and they are settled by it and by the tables.
pub record Serves (engine : Engine) (tables : Tables) (store : Store) (replies : List (Option Kept)) : Type 0 where
  pub stands : StandsFor engine store
  pub settled : AreSettled engine tables replies

-- the octets that answer a packet, which stand in its place or in the reply
abbrev pub octets_of : Told → (packet reply : List ℕ) → Option (List ℕ)
octets_of told.Nothing packet reply = None
octets_of (told.InPacket size) packet reply = Some (take size packet)
octets_of told.InReply packet reply = Some reply

-- those in its place are there
abbrev pub IsThere : Told → (packet : List ℕ) → Type 0
IsThere (told.InPacket size) packet = size ≤ length packet
IsThere other packet = ⊤
