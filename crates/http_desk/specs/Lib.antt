pub use Rattle.http_desk_streams.specs as streams
pub use Rattle.http_desk_connections.specs as connections
pub use Rattle.http_desk_seats.specs as seats
