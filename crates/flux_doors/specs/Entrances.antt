-- Where clients come in at a real door.
use Rattle.std.specs.Prelude.{◌≡◌, ℕ, [], ◌∷◌}
use Rattle.std.specs.declared.net.socket_addr.SocketAddr.{SocketAddr}
use Rattle.std.specs.declared.net.socket_addr.SocketAddr.TheVariants.{V4, V6}
use Rattle.std.specs.Net.Addr.{ipv4_octets}
use Rattle.std.specs.Net.Socket.{v4_ip, v4_port}

-- the address of a port that clients of this machine alone reach: 127.0.0.1
abbrev pub IsOfThisMachine : SocketAddr → ℕ → Type 0
IsOfThisMachine (V4 address) port = (ipv4_octets (v4_ip address) ≡ 127 ∷ 0 ∷ 0 ∷ 1 ∷ []) × (v4_port address ≡ port)
IsOfThisMachine (V6 address) port = ⊥
