-- Room for any line.
use Rattle.std.specs.Prelude.{◌≡◌, ◌≤◌, length, vec_capacity}
use Rattle.session_server.specs.declared.buffers.Buffers.{Buffers}

-- The room of a datagram, of a reply and of a part of a reply line.
pub record IsReady (buffers : Buffers) : Type 0 where
  pub packet : length buffers.packet.items ≡ 65535
  pub reply : buffers.reply.room ≡ 4096
  pub text : 131072 ≤ vec_capacity buffers.text
