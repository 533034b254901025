-- The peer that a socket's address names.
use Rattle.std.specs.Net.Addr.{ipv4_octets, ipv6_octets}
use Rattle.std.specs.Net.Socket.{socket_ip, socket_port}
use Rattle.std.specs.declared.net.ip_addr.IpAddr.{IpAddr}
use Rattle.std.specs.declared.net.ip_addr.IpAddr.TheVariants as ip
use Rattle.std.specs.declared.net.socket_addr.SocketAddr.{SocketAddr}
use Rattle.address_text.specs.declared.address.IpAddress.{IpAddress}
use Rattle.address_text.specs.declared.address.IpAddress.TheVariants as address
use Rattle.r53_io.specs.declared.network.Peer.{Peer}

abbrev pub address_of : IpAddr → IpAddress
address_of (ip.V4 of) = address.V4 (ipv4_octets of)
address_of (ip.V6 of) = address.V6 (ipv6_octets of)

abbrev pub peer_of : SocketAddr → Peer
peer_of from = record { address = address_of (socket_ip from); port = socket_port from }
