-- Where a desk's socket listens.
use Rattle.std.specs.{Net.{Addr.ipv4_octets, Socket.{v4_ip, v4_port}}, Prelude.{◌≡◌, ℕ, [], ◌∷◌}, declared.net.socket_addr.SocketAddrV4.SocketAddrV4}

-- 127.0.0.1, which no other machine reaches, at this port
pub record IsLoopback (port : ℕ) (address : SocketAddrV4) : Type 0 where
  pub ip : ipv4_octets (v4_ip address) ≡ 127 ∷ 0 ∷ 0 ∷ 1 ∷ []
  pub at : v4_port address ≡ port

-- the socket was bound to that address
pub record ListensHere {B L : Type 0} (binds : B → SocketAddrV4 → L → Type 0) (net : B) (port : ℕ) (listener : L) : Type 0 where
  pub address : SocketAddrV4
  pub is : IsLoopback port address
  pub bound : binds net address listener
